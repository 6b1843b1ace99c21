use Rattle.std.proofs.Common.{List, [], ◌++◌, subst, append_assoc}
use Rattle.std.specs.Option.{option_to_list}
use Rattle.collation_elements.specs.declared.keys.Key.{Key}
use Rattle.collation_letters.specs.Symbols.{AreLastSymbols, listed}
use Rattle.collation_letters.proofs.SymbolLemmas.{last-nil, some-map}
use Rattle.collation_letters.proofs.finding.symbols_of.Goals as goal

pub returns : goal.returns
returns c =
    let pattern = c.args.pattern.now.keys in
    let it = c.args.items.now in
    let first = option_to_list it.first in
    let second = option_to_list it.second in
    some-map c.with_key-3.result c.with_key-3.ensures (λ all h.
    subst (λ (ks : List Key). AreLastSymbols pattern ks (listed all)) (append_assoc first second (option_to_list it.third))
    (h (first ++ second) (c.in_ok-symbols-2.ensures first (c.in_ok-symbols.ensures [] (last-nil pattern)))))
