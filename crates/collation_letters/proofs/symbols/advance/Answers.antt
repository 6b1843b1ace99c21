use Rattle.std.proofs.Common.{◌≡◌, ◌∙◌, ◌-◌, ◌≤◌, List, [], ◌∷◌, ◌++◌, get_or, length, refl, ap, subst, arith}
use Rattle.std.proofs.lemmas.Option.{get_or_from_slice_get}
use Rattle.collation_elements.specs.declared.keys.Key.{Key}
use Rattle.collation_elements.specs.declared.keys.Key.TheVariants.{Primary}
use Rattle.collation_pattern.specs.Border.{border}
use Rattle.collation_letters.specs.Symbols.{IsSymbol}
use Rattle.collation_letters.proofs.SymbolLemmas.{first-border, first-matches, foreign-border, symbol-place, not-past}
use Rattle.collation_letters.proofs.symbols.advance.Goals as goal

pub returns-then-symbol-eq-FOREIGN-clause-border : goal.returns-then-symbol-eq-FOREIGN-clause-border
returns-then-symbol-eq-FOREIGN-clause-border c = λ ks key is at.
    let pattern = c.args.pattern.now.keys in
    foreign-border c.laws_of_borders.ensures.last pattern ks key (subst (λ n. IsSymbol pattern key n) c.if-symbol-eq-FOREIGN.true is)

pub returns-then-symbol-ne-FIRST-clause-border : goal.returns-then-symbol-ne-FIRST-clause-border
returns-then-symbol-ne-FIRST-clause-border c = λ ks key is at.
    let laws = c.laws_of_borders.ensures in
    first-border laws.last laws.grow c.args.pattern.now.keys ks key c.args.symbol is c.if-symbol-ne-FIRST.true (at ∙ c.if-state-eq0.true)

pub returns-then-place-keys-clause-border : goal.returns-then-place-keys-clause-border
returns-then-place-keys-clause-border c = λ ks key is at.
    let pattern = c.args.pattern.now.keys in
    let there = symbol-place pattern key c.args.symbol c.if-symbol-eq-FOREIGN.false is in
    absurd (not-past pattern key (c.args.symbol - 1) (subst (λ (l : List Key). length l ≤ c.args.symbol - 1) c.keys-keys.ensures c.if-place-keys.true) there)

pub returns-clause-border : goal.returns-clause-border
returns-clause-border c = λ ks key is at.
    let pattern = c.args.pattern.now.keys in
    let blank = Primary 0 0 0 in
    let there = symbol-place pattern key c.args.symbol c.if-symbol-eq-FOREIGN.false is in
    let same : get_or c.keys-keys.result.now (c.args.symbol - 1) blank ≡ key =
    ap (λ (l : List Key). get_or l (c.args.symbol - 1) blank) c.keys-keys.ensures ∙ get_or_from_slice_get pattern (c.args.symbol - 1) key blank there in
    c.advance.ensures.border ks at ∙ ap (λ k. border pattern (ks ++ k ∷ [])) same

pub returns-then-state-eq0-clause-border : goal.returns-then-state-eq0-clause-border
returns-then-state-eq0-clause-border c = λ ks key is at.
    let pattern = c.args.pattern.now.keys in
    let first : c.args.symbol ≡ 1 = omega (arith, c.if-symbol-ne-FIRST.false) in
    let there = (subst (λ n. IsSymbol pattern key n) first is).known 0 refl in
    let one : c.min.result ≡ 1 = omega (arith, c.min.ensures, c.len.ensures.some) in
    one ∙ first-matches c.laws_of_borders.ensures.go_on pattern ks key there (at ∙ c.if-state-eq0.true)
