-- A place more.
use Rattle.std.specs.Prelude.{nat_le}
use Rattle.std.proofs.Common.{◌≡◌, ◌∙◌, ◌==◌, ◌&&◌, ℕ, ◌≤◌, List, [], ◌∷◌, length, drop, slice_index_or, refl, sym, arith}
use Rattle.std.proofs.lemmas.Bool.{and_left, and_right, lt-leb, ne_eqb}
use Rattle.collation_states.specs.StateTests.{are_places, is_flag}
use Rattle.collation_states.proofs.StateLemmas.{places-next}
use Rattle.collation_states.proofs.states.are_places.Goals as goal
use Rattle.collation_states.proofs.states.are_places.Goals.{then-start-least-via-then-start-least, then-start-least-via-else-start-least+then-start-most, then-start-least-via-else-start-least+else-start-most+then-is_first-gt1, then-start-least-via-else-start-least+else-start-most+else-is_first-gt1+then-a-ne0, then-start-least-via-else-start-least+else-start-most+else-is_first-gt1+else-a-ne0+then-b-ne0}

pub loop-rest-preserved : goal.loop-rest-preserved
loop-rest-preserved c =
    c.loop-rest.invariant
    ∙ places-next c.loop-rest.least c.args.most c.loop-rest.rest.now c.in-len4-up.len_at_least c.if-start-least.false c.if-start-most.false c.if-is_first-gt1.false c.if-a-ne0.false c.if-b-ne0.false

place-parts : (least most : ℕ) (words : List ℕ) → 4 ≤ length words →
    are_places least most words ≡ (nat_le least (slice_index_or words 0 0) && (nat_le (slice_index_or words 0 0) most && (is_flag (slice_index_or words 1 0)
    && (slice_index_or words 2 0 == 0 && (slice_index_or words 3 0 == 0 && are_places (slice_index_or words 0 0) most (drop 4 words))))))
place-parts least most [] len = absurd (omega arith)
place-parts least most (s ∷ []) len = absurd (omega arith)
place-parts least most (s ∷ f ∷ []) len = absurd (omega arith)
place-parts least most (s ∷ f ∷ a ∷ []) len = absurd (omega arith)
place-parts least most (s ∷ f ∷ a ∷ b ∷ later) len = refl

pub returns-then-start-least : goal.returns-then-start-least
returns-then-start-least c =
    let words = c.loop-rest.rest.now in
    let start = slice_index_or words 0 0 in
    let l = nat_le c.loop-rest.least start in
    let m = nat_le start c.args.most in
    let f = is_flag (slice_index_or words 1 0) in
    let a = slice_index_or words 2 0 == 0 in
    let b = slice_index_or words 3 0 == 0 in
    let later = are_places start c.args.most (drop 4 words) in
    sym (c.loop-rest.invariant ∙ place-parts c.loop-rest.least c.args.most words c.in-len4-up.len_at_least ∙ elim c.then-start-least.branch [
      | then-start-least-via-then-start-least w ↦ and_left l (m && (f && (a && (b && later)))) (lt-leb _ _ w.if-start-least.true)
      | then-start-least-via-else-start-least+then-start-most w ↦ and_right l _ (and_left m (f && (a && (b && later))) (lt-leb _ _ w.if-start-most.true))
      | then-start-least-via-else-start-least+else-start-most+then-is_first-gt1 w ↦
          and_right l _ (and_right m _ (and_left f (a && (b && later)) (lt-leb _ 1 w.if-is_first-gt1.true)))
      | then-start-least-via-else-start-least+else-start-most+else-is_first-gt1+then-a-ne0 w ↦
          and_right l _ (and_right m _ (and_right f _ (and_left a (b && later) (ne_eqb _ 0 w.if-a-ne0.true))))
      | then-start-least-via-else-start-least+else-start-most+else-is_first-gt1+else-a-ne0+then-b-ne0 w ↦
          and_right l _ (and_right m _ (and_right f _ (and_right a _ (and_left b later (ne_eqb _ 0 w.if-b-ne0.true)))))
    ])
