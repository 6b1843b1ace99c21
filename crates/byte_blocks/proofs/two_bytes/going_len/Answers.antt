use Rattle.std.proofs.Common.{◌+◌, ◌-◌, arith, inl, inr}
use Rattle.std.proofs.lemmas.Bool.{both_ways, cases_lt}
use Rattle.byte_blocks.proofs.TwoByteLemmas.{pass-begins, pass-ends, pass-more, pass-over}
use Rattle.byte_blocks.proofs.two_bytes.going_len.Goals.{then-loop-len-test+else-block_goes_on, else-loop-len-test}
use Rattle.byte_blocks.proofs.two_bytes.going_len.Goals as goal

pub loop-len-init : goal.loop-len-init
loop-len-init c =
    let many = c.if-limit-lt-FEWEST_IN_BLOCKS.false in
    let within = c.requires in
    record {
      within = omega (arith, many);
      passes = pass-begins c.args.sets.now c.args.piece.now (omega (arith, many, within)) (c.begins.ensures.going c.if-not-begins.false) (c.begins.ensures.begins c.if-not-begins.false) (c.goes_on.ensures.0 c.if-not-goes_on.false);
      some = omega arith;
    }

pub loop-len-preserved : goal.loop-len-preserved
loop-len-preserved c =
    let i = c.loop-len.invariant in
    let some = i.some in
    let test = c.loop-len-test.true in
    record {
      within = omega (arith, test);
      passes = pass-more c.args.sets.now c.args.piece.now c.loop-len.len 16 some (omega (arith, test, c.requires)) i.passes (c.block_goes_on.ensures.0 c.if-block_goes_on.true);
      some = omega (arith, some);
    }

pub returns-then-limit-len-ge16-clause-passes : goal.returns-then-limit-len-ge16-clause-passes
returns-then-limit-len-ge16-clause-passes c =
    let i = c.loop-len.invariant in
    let lanes = c.lanes_that_go_on.ensures.within in
    pass-more c.args.sets.now c.args.piece.now c.loop-len.len c.lanes_that_go_on.result i.some (omega (arith, lanes, c.if-limit-len-ge16.true, c.requires, i.within)) i.passes c.lanes_that_go_on.ensures.passes

pub returns-clause-passes : goal.returns-clause-passes
returns-clause-passes c =
    let i = c.loop-len.invariant in
    let some = i.some in
    let few = c.if-limit-len-ge16.false in
    let many = c.if-limit-lt-FEWEST_IN_BLOCKS.false in
    let lanes = c.lanes_that_go_on-2.ensures.within in
    let within = i.within in
    pass-over c.args.sets.now c.args.piece.now c.loop-len.len (c.args.limit - 16) c.lanes_that_go_on-2.result c.max.result (omega (arith, many)) (omega (arith, few, within)) (omega (arith, lanes, many, c.requires))
    (omega (arith, c.max.ensures)) (omega (arith, c.max.ensures)) i.passes c.lanes_that_go_on-2.ensures.passes

-- a block that does not go on has a byte that does not
pub returns-then-limit-len-ge16-clause-most : goal.returns-then-limit-len-ge16-clause-most
returns-then-limit-len-ge16-clause-most c = λ _ below.
    let some = c.loop-len.invariant.some in
    let lanes = c.lanes_that_go_on.ensures in
    let many = c.if-limit-len-ge16.true in
    let n = c.loop-len.len + c.lanes_that_go_on.result in
    pass-ends c.args.sets.now c.args.piece.now _ _ n n (omega (arith, some)) (omega arith) (omega (arith, some)) (omega (arith, some)) (elim (cases_lt c.lanes_that_go_on.result 16) [
      | inl few ↦ lanes.stop few
      | inr all ↦ elim c.loop-len-test.branch [
        | then-loop-len-test+else-block_goes_on w ↦ absurd (both_ways w.block_goes_on.result w.if-block_goes_on.false (w.block_goes_on.ensures.1 (λ k less. lanes.passes k (omega (arith, less, all)))))
        | else-loop-len-test w ↦ (let few = w.loop-len-test.false in absurd (omega (arith, few, many)))
      ]
    ])

pub returns-clause-most : goal.returns-clause-most
returns-clause-most c = λ most below.
    let lanes = c.lanes_that_go_on-2.result in
    let longer = c.max.ensures in
    let n = c.args.limit - 16 + lanes in
    pass-ends c.args.sets.now c.args.piece.now _ _ n c.max.result (omega (arith, most)) (omega (arith, longer)) (omega (arith, most)) (omega (arith, most)) (c.lanes_that_go_on-2.ensures.stop (omega (arith, below, longer, most)))
