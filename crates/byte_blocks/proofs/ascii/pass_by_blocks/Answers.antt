use Rattle.std.proofs.Common.{◌+◌, arith, inl, inr}
use Rattle.std.proofs.lemmas.Bool.{both_ways, cases_lt}
use Rattle.byte_blocks.proofs.PassLemmas.{ends, passes-more}
use Rattle.byte_blocks.proofs.ascii.pass_by_blocks.Goals.{then-loop-len-test+else-block_passes, else-loop-len-test}
use Rattle.byte_blocks.proofs.ascii.pass_by_blocks.Goals as goal

pub returns-clause-passes : goal.returns-clause-passes
returns-clause-passes c =
    let i = c.loop-len.invariant in
    let lanes = c.lanes_that_pass.ensures.within in
    passes-more c.args.sets.now c.args.piece.now c.loop-len.len c.lanes_that_pass.result i.some (omega (arith, lanes, c.if-limit-len-lt16.false, c.requires.limit, i.within)) i.passes c.lanes_that_pass.ensures.passes

-- a block that does not pass has a byte that does not
pub returns-clause-most : goal.returns-clause-most
returns-clause-most c = λ below.
    let some = c.loop-len.invariant.some in
    let lanes = c.lanes_that_pass.ensures in
    let many = c.if-limit-len-lt16.false in
    ends c.args.sets.now c.args.piece.now (c.loop-len.len + c.lanes_that_pass.result) _ (omega (arith, some)) (omega arith) (elim (cases_lt c.lanes_that_pass.result 16) [
      | inl few ↦ lanes.stop few
      | inr all ↦ elim c.loop-len-test.branch [
        | then-loop-len-test+else-block_passes w ↦ absurd (both_ways w.block_passes.result w.if-block_passes.false (w.block_passes.ensures.1 (λ k less. lanes.passes k (omega (arith, less, all)))))
        | else-loop-len-test w ↦ (let few = w.loop-len-test.false in absurd (omega (arith, few, many)))
      ]
    ])

pub loop-len-preserved : goal.loop-len-preserved
loop-len-preserved c =
    let i = c.loop-len.invariant in
    let some = i.some in
    let test = c.loop-len-test.true in
    record {
      within = omega (arith, test);
      passes = passes-more c.args.sets.now c.args.piece.now c.loop-len.len 16 some (omega (arith, test, c.requires.limit)) i.passes (c.block_passes.ensures.0 c.if-block_passes.true);
      some = omega (arith, some);
    }
