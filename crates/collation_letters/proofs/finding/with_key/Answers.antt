use Rattle.std.proofs.Common.{List, [], ◌∷◌, ◌++◌, None, sym, subst, ap}
use Rattle.std.specs.Option.{option_to_list}
use Rattle.collation_elements.specs.declared.keys.Key.{Key}
use Rattle.collation_letters.specs.Symbols.{AreLastSymbols, listed}
use Rattle.collation_letters.proofs.SymbolLemmas.{last-one, some-map}
use Rattle.collation_letters.proofs.finding.with_key.Goals as goal

pub returns-in_ok-symbol_for-in-Some : goal.returns-in_ok-symbol_for-in-Some
returns-in_ok-symbol_for-in-Some c =
    let pattern = c.args.pattern.now.keys in
    some-map c.with.result c.with.ensures (λ all h keys k.
    subst (λ (o : List Key). AreLastSymbols pattern (keys ++ o) (listed all)) (sym (ap option_to_list c.in-Some.is))
    (h None pattern keys (c.in-Some.key ∷ []) k (last-one pattern c.in-Some.key _ c.in_ok-symbol_for-in-Some.ensures.symbol)))
