use Rattle.std.proofs.Common.{◌+◌, arith}
use Rattle.byte_blocks.proofs.PassLemmas.{ends, passes-halts}
use Rattle.byte_blocks.proofs.ascii.pass_by_halts.Goals as goal

pub loop-len-preserved : goal.loop-len-preserved
loop-len-preserved c =
    let i = c.loop-len.invariant in
    let some = i.some in
    let inside = i.within in
    let test = c.loop-len-test.true in
    let limit = c.requires.limit in
    let many = c.if-lanes-lt32.false in
    record {
      within = omega (arith, test, inside);
      passes = passes-halts c.args.sets.now c.args.piece.now c.loop-len.len 32 c.requires.halts some (omega (arith, test, limit, inside)) i.passes (λ k less. c.two_blocks_len_by_halts-lanes.ensures.passes k (omega (arith, less, many)));
      some = omega (arith, some);
    }

pub returns-then-lanes-lt32-clause-passes : goal.returns-then-lanes-lt32-clause-passes
returns-then-lanes-lt32-clause-passes c =
    let i = c.loop-len.invariant in
    let inside = i.within in
    let test = c.loop-len-test.true in
    let limit = c.requires.limit in
    let few = c.two_blocks_len_by_halts-lanes.ensures.within in
    passes-halts c.args.sets.now c.args.piece.now c.loop-len.len c.two_blocks_len_by_halts-lanes.result c.requires.halts i.some (omega (arith, test, few, limit, inside)) i.passes c.two_blocks_len_by_halts-lanes.ensures.passes

pub returns-then-lanes-lt32-clause-most : goal.returns-then-lanes-lt32-clause-most
returns-then-lanes-lt32-clause-most c = λ less.
    let some = c.loop-len.invariant.some in
    let lanes = c.two_blocks_len_by_halts-lanes in
    ends c.args.sets.now c.args.piece.now (c.loop-len.len + lanes.result) _ (omega (arith, some)) (omega arith)
    (λ p. lanes.ensures.stop c.if-lanes-lt32.true (record { ascii = p.ascii; going = p.going }))
