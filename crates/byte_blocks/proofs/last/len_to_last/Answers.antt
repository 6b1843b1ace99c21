use Rattle.std.proofs.Common.{◌≡◌, ◌∙◌, ℕ, ◌+◌, ◌-◌, ◌<◌, List, slice_index, ap, sym, subst, arith, inl, inr}
use Rattle.std.proofs.lemmas.Bool.{cases_lt}
use Rattle.byte_blocks.specs.Sets.{HasNone, in_set}
use Rattle.byte_blocks.proofs.last.len_to_last.Goals as goal

-- so many bytes more, in front
none-more : (set bytes : List ℕ) (at n end len : ℕ) → at + n ≡ end → ((k : ℕ) → k < n → in_set set (slice_index bytes (at + k)) ≡ 0) → HasNone set bytes end len → HasNone set bytes at len
none-more set bytes at n end len same block behind i from below = elim (cases_lt i end) [
  | inl before ↦ subst (λ j. in_set set (slice_index bytes j) ≡ 0) (omega (arith, from)) (block (i - at) (omega (arith, from, before, same)))
  | inr there ↦ behind i (omega (arith, there)) below
]

pub loop-end-init : goal.loop-end-init
loop-end-init c = record {
  within = omega arith;
  nothing = λ i from below. absurd (omega (arith, from, below));
}

pub block_has_none-requires : goal.block_has_none-requires
block_has_none-requires c =
    let within = c.loop-end.invariant.within in
    let test = c.loop-end-test.true in
    let limit = c.requires in
    omega (arith, within, test, limit)

pub loop-end-preserved : goal.loop-end-preserved
loop-end-preserved c =
    let within = c.loop-end.invariant.within in
    let test = c.loop-end-test.true in
    record {
      within = omega (arith, within);
      nothing = none-more c.args.set.now c.args.bytes.now (c.loop-end.end - 16) 16 c.loop-end.end c.args.len (omega (arith, test)) (c.block_has_none.ensures.0 c.if-block_has_none.true) c.loop-end.invariant.nothing;
    }

pub loop-end-2-init : goal.loop-end-2-init
loop-end-2-init c = record { within = c.loop-end.invariant.within; nothing = c.loop-end.invariant.nothing }

pub bounds-bytes-end : goal.bounds-bytes-end
bounds-bytes-end c =
    let within = c.loop-end-2.invariant.within in
    let test = c.loop-end-2-test.true in
    let limit = c.requires in
    omega (arith, within, test, limit)

pub loop-end-2-preserved : goal.loop-end-2-preserved
loop-end-2-preserved c =
    let within = c.loop-end-2.invariant.within in
    let test = c.loop-end-2-test.true in
    record {
      within = omega (arith, within);
      nothing = none-more c.args.set.now c.args.bytes.now (c.loop-end-2.end - 1) 1 c.loop-end-2.end c.args.len (omega (arith, test)) (λ k less. one k less) c.loop-end-2.invariant.nothing;
    }
  where
    one : (k : ℕ) → k < 1 → in_set c.args.set.now (slice_index c.args.bytes.now (c.loop-end-2.end - 1 + k)) ≡ 0
    one k less = ap (λ j. in_set c.args.set.now (slice_index c.args.bytes.now j)) (omega (arith, less)) ∙ sym c.in_set.ensures ∙ c.if-in_set-eq0.true

pub returns-else-in_set-eq0-clause-within : goal.returns-else-in_set-eq0-clause-within
returns-else-in_set-eq0-clause-within c = c.loop-end-2.invariant.within

pub returns-else-in_set-eq0-clause-last : goal.returns-else-in_set-eq0-clause-last
returns-else-in_set-eq0-clause-last c = c.loop-end-2.invariant.nothing

pub returns-after-loop-end-2-clause-last : goal.returns-after-loop-end-2-clause-last
returns-after-loop-end-2-clause-last c = c.loop-end-2.invariant.nothing
