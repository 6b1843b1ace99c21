use Rattle.std.proofs.Common.{◌≡◌, ◌∙◌, ◌≤◌, ℕ, length, drop, true, None, Ok, refl, sym, ap, subst, arith, inl, inr}
use Rattle.collation_matches.specs.Offsets.{answer_from}
use Rattle.collation_matches.specs.Sought.{Sought, IsCompiledFrom}
use Rattle.collation_matches.proofs.LagTexts.{TextLaws}
use Rattle.collation_anchored.specs.Answers.{has_more_keys}
use Rattle.collation_backward.specs.Backward.{said_up_to}
use Rattle.collation_backward.specs.Going.{sought_by}
use Rattle.collation_backward.proofs.EndsAnswer.{begun-at, before-only}
use Rattle.collation_backward.proofs.StartTold.{rest-said}
use Rattle.collation_backward.proofs.backward.Backward.said_of_end.Goals as goal

pub loop-place-init : goal.loop-place-init
loop-place-init g c =
    let text = c.args.text.now in
    let table = c.args.self.now.table_same in
    let place = c.place_before-place in
    record {
      begins = begun-at (sought_by c.args.self.now).table (g.W.Weights.table c.args.self.now.table.now) text (length text) 1024 place.result table refl place.ensures.place;
      says = c.said_from-said.ensures.said;
      before = before-only place.result (length text) c.said_from-said.result c.said_from-said.ensures.behind;
      same = c.said_from-said.ensures.sought;
    }

pub loop-place-preserved : goal.loop-place-preserved
loop-place-preserved g c =
    let self = c.has_more_keys.new.self in
    let same = c.has_more_keys.ensures.sought ∙ c.loop-place.invariant.same in
    let text = c.args.text.now in
    let table = ap (λ (t : Sought). t.table) (sym same) ∙ self.table_same in
    let place = c.place_before-place-in-loop-place in
    let next = c.said_from-said-in-loop-place in
    record {
      begins = begun-at (sought_by c.args.self.now).table (g.W.Weights.table self.table.now) text (length text) c.saturating_mul-len.result place.result table refl place.ensures.place;
      says = λ p compiled. subst (λ (s : Sought). next.result ≡ said_up_to (length text) (answer_from s p text place.result)) same
          (next.ensures.said p (subst (λ (s : Sought). IsCompiledFrom s p) (sym same) compiled));
      before = before-only place.result (length text) next.result next.ensures.behind;
      same = next.ensures.sought ∙ same;
    }

pub returns-after-loop-place-clause-told : goal.returns-after-loop-place-clause-told
returns-after-loop-place-clause-told g c = λ p compiled.
    record { place = c.loop-place.place; begins = c.loop-place.invariant.begins; says = c.loop-place.invariant.says p compiled; none = λ e. inl (omega arith) }

pub returns-else-is_none-clause-told : goal.returns-else-is_none-clause-told
returns-else-is_none-clause-told g c = λ p compiled.
    record { place = c.loop-place.place; begins = c.loop-place.invariant.begins; says = c.loop-place.invariant.says p compiled; none = λ e. let known = c.is_none.ensures.known e in cc }

pub returns-else-not-has_more_keys-clause-told : goal.returns-else-not-has_more_keys-clause-told
returns-else-not-has_more_keys-clause-told g c = λ p compiled.
    let i = c.loop-place.invariant in
    let s = sought_by c.args.self.now in
    let text = c.args.text.now in
    let place = c.loop-place.place in
    let whole = c.whole_characters_are_the_longest_text.ensures in
    let laws : TextLaws = record { text = whole.text; longest = whole.longest; within = whole.within; faults = c.laws_of_faults.ensures.following } in
    let within : place ≤ length text = elim i.begins [ inl zero ↦ omega (arith, zero) | inr safe ↦ let less = safe.1 in omega (arith, less) ] in
    record {
      place = place;
      begins = i.begins;
      says = i.says p compiled;
      none = λ e.
          let good = (rest-said laws s p text place None within (sym e ∙ i.says p compiled)).0 in
          inr (subst (λ (t : Sought). has_more_keys t.table t.pattern (drop place text) ≡ true) i.same (sym (c.has_more_keys.ensures.more good) ∙ c.if-not-has_more_keys.false));
    }
