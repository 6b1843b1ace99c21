use Rattle.std.proofs.Common.{◌+◌, ◌-◌, arith}
use Rattle.byte_blocks.proofs.PassLemmas.{ends, passes-over}
use Rattle.byte_blocks.proofs.ascii.pass_end.Goals as goal

pub returns-clause-passes : goal.returns-clause-passes
returns-clause-passes c =
    let limit = c.requires.limit in
    let few = c.requires.few in
    let long = c.if-limit-lt17.false in
    let lanes = c.lanes_that_pass.ensures.within in
    passes-over c.args.sets.now c.args.piece.now c.args.from (c.args.limit - 16) c.lanes_that_pass.result _ (omega (arith, long)) (omega (arith, few, long)) (omega (arith, lanes, long, limit))
    (omega arith) (omega arith) c.requires.passes c.lanes_that_pass.ensures.passes

pub returns-clause-most : goal.returns-clause-most
returns-clause-most c = λ less.
    let long = c.if-limit-lt17.false in
    let lanes = c.lanes_that_pass.result in
    ends c.args.sets.now c.args.piece.now (c.args.limit - 16 + lanes) _ (omega (arith, long)) (omega arith) (c.lanes_that_pass.ensures.stop (omega (arith, less, long)))
