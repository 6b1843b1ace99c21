use Rattle.std.proofs.Common.{◌∙◌, sym, subst, arith, inl, inr}
use Rattle.std.specs.Prelude.{IfErr}
use Rattle.collation_matches.specs.Sought.{Sought, IsCompiledFrom}
use Rattle.collation_backward.specs.Backward.{IsNothingBehind, IsToldFrom}
use Rattle.collation_backward.specs.Going.{sought_by}
use Rattle.collation_backward.proofs.Told.{told-from, told-good}
use Rattle.collation_backward.proofs.backward.Backward.last_before.Goals as goal

pub loop-place-preserved : goal.loop-place-preserved
loop-place-preserved g c =
    let same = c.loop-place.invariant.same in
    let text = c.args.text.now in
    let at = c.args.at in
    let next = c.said_behind-said-in-loop-place in
    record {
      behind = λ some. elim c.place_before-place-in-loop-place.ensures.place [
        | inl none ↦ absurd (omega (arith, some, none))
        | inr safe ↦ let before = safe.1 in omega (arith, before)
      ];
      told = λ p compiled. subst (λ (s : Sought). IsToldFrom s p text c.place_before-place-in-loop-place.result at next.result) same
          (next.ensures.told p (subst (λ (s : Sought). IsCompiledFrom s p) (sym same) compiled));
      later = λ p compiled few. subst (λ (s : Sought). IfErr next.result (IsNothingBehind s p text at)) same
          (next.ensures.behind p (subst (λ (s : Sought). IsCompiledFrom s p) (sym same) compiled) few);
      same = next.ensures.sought ∙ same;
    }

pub returns-else-is_none-clause-told : goal.returns-else-is_none-clause-told
returns-else-is_none-clause-told g c = λ p compiled.
    told-from (sought_by c.args.self.now) p c.args.text.now c.loop-place.place c.args.at c.loop-place.said (c.loop-place.invariant.told p compiled)
    (λ e. let known = c.is_none.ensures.known e in cc)

pub returns-after-loop-place-clause-told : goal.returns-after-loop-place-clause-told
returns-after-loop-place-clause-told g c = λ p compiled.
    told-from (sought_by c.args.self.now) p c.args.text.now c.loop-place.place c.args.at c.loop-place.said (c.loop-place.invariant.told p compiled)
    (λ e. omega arith)

pub returns-else-is_none-clause-good : goal.returns-else-is_none-clause-good
returns-else-is_none-clause-good g c = λ p compiled few clean.
    let laws = c.whole_characters_are_the_longest_text.ensures in
    let s = sought_by c.args.self.now in
    told-good c.answers_from_safe_offsets.ensures laws.text laws.within s p c.args.text.now c.args.at c.loop-place.said c.args.self.now.all few clean
    (told-from s p c.args.text.now c.loop-place.place c.args.at c.loop-place.said (c.loop-place.invariant.told p compiled)
    (λ e. let known = c.is_none.ensures.known e in cc))

pub returns-after-loop-place-clause-good : goal.returns-after-loop-place-clause-good
returns-after-loop-place-clause-good g c = λ p compiled few clean.
    let laws = c.whole_characters_are_the_longest_text.ensures in
    let s = sought_by c.args.self.now in
    told-good c.answers_from_safe_offsets.ensures laws.text laws.within s p c.args.text.now c.args.at c.loop-place.said c.args.self.now.all few clean
    (told-from s p c.args.text.now c.loop-place.place c.args.at c.loop-place.said (c.loop-place.invariant.told p compiled)
    (λ e. omega arith))

pub returns-else-is_none-clause-behind : goal.returns-else-is_none-clause-behind
returns-else-is_none-clause-behind g c = c.loop-place.invariant.later

pub returns-after-loop-place-clause-behind : goal.returns-after-loop-place-clause-behind
returns-after-loop-place-clause-behind g c = c.loop-place.invariant.later
