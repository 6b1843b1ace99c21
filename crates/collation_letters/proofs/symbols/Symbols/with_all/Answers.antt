use Rattle.std.proofs.Common.{◌≡◌, ◌∙◌, ℕ, List, ◌++◌, Option, Some, None, sym, ap, subst, append_assoc}
use Rattle.std.specs.Option.{IfSome}
use Rattle.collation_elements.specs.declared.keys.Key.{Key}
use Rattle.collation_letters.specs.declared.symbols.Symbols.{Symbols}
use Rattle.collation_letters.specs.Symbols.{AreLastSymbols, AreSymbolsAt, listed, some_symbol}
use Rattle.collation_letters.proofs.SymbolLemmas.{listed-is, some-split}
use Rattle.collation_letters.proofs.symbols.Symbols.with_all.Goals as goal

-- what one more does
Adds : Symbols → Symbols → List ℕ → Type 0
Adds s all ss = (depth : Option ℕ) (pattern keys more : List Key) → AreSymbolsAt depth pattern keys (listed s) → AreLastSymbols pattern more ss → AreSymbolsAt depth pattern (keys ++ more) (listed all)

adds : (more s a b c' : Symbols) → Adds s a (some_symbol more.first) → Adds a b (some_symbol more.second) → Adds b c' (some_symbol more.third) → Adds s c' (listed more)
unfolding Adds
adds more s a b c' first second third = λ depth pattern keys later h k.
    let all = subst (λ l. AreLastSymbols pattern later l) (listed-is more) k in
    let one = some-split pattern later more.first (some_symbol more.second ++ some_symbol more.third) all in
    let two = some-split pattern one.later more.second (some_symbol more.third) one.later_are in
    let joined : keys ++ later ≡ ((keys ++ one.first) ++ two.first) ++ two.later =
    ap (λ (l : List Key). keys ++ l) (one.keys_are ∙ ap (λ (l : List Key). one.first ++ l) two.keys_are)
    ∙ sym (append_assoc keys one.first (two.first ++ two.later)) ∙ sym (append_assoc (keys ++ one.first) two.first two.later) in
    subst (λ (l : List Key). AreSymbolsAt depth pattern l (listed c')) (sym joined)
    (third depth pattern ((keys ++ one.first) ++ two.first) two.later
    (second depth pattern (keys ++ one.first) two.first (first depth pattern keys one.first h one.first_are) two.first_are) two.later_are)

last : (o : Option Symbols) (more s a b : Symbols) → Adds s a (some_symbol more.first) → Adds a b (some_symbol more.second) → IfSome o (λ all. Adds b all (some_symbol more.third)) →
    IfSome o (λ all. Adds s all (listed more))
last (Some all) more s a b first second third = adds more s a b all first second third
last None more s a b first second third = tt

pub returns : goal.returns
unfolding Adds
returns c = last c.with_some-3.result c.args.more c.args.self c.in_ok-all.all c.in_ok-all-2.all c.in_ok-all.ensures c.in_ok-all-2.ensures c.with_some-3.ensures
