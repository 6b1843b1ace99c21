use Rattle.std.proofs.Common.{◌∙◌, ℕ, ap, slice_index, arith}
use Rattle.byte_blocks.specs.Sets.{in_set}
use Rattle.byte_blocks.proofs.PassLemmas.{ends, passes-more}
use Rattle.byte_blocks.proofs.ascii.pass_by_keys.Goals as goal

pub loop-len-preserved : goal.loop-len-preserved
loop-len-preserved c =
    let i = c.loop-len.invariant in
    let some = i.some in
    let inside = i.within in
    let test = c.loop-len-test.true in
    let limit = c.requires.limit in
    let many = c.if-lanes-lt32.false in
    let two = c.two_blocks_len_by_keys-lanes.ensures in
    record {
      within = omega (arith, test, inside);
      passes = passes-more c.args.sets.now c.args.piece.now c.loop-len.len 32 some (omega (arith, test, limit, inside)) i.passes (λ k less. two.passes k (omega (arith, less, many)));
      some = omega (arith, some);
      keys = ap (λ (j : ℕ). in_set c.args.sets.now.key (slice_index c.args.piece.now j)) (omega (arith, some)) ∙ two.last;
    }

pub returns-then-lanes-lt32-clause-passes : goal.returns-then-lanes-lt32-clause-passes
returns-then-lanes-lt32-clause-passes c =
    let i = c.loop-len.invariant in
    let inside = i.within in
    let test = c.loop-len-test.true in
    let limit = c.requires.limit in
    let two = c.two_blocks_len_by_keys-lanes.ensures in
    let few = two.within in
    passes-more c.args.sets.now c.args.piece.now c.loop-len.len _ i.some (omega (arith, test, few, limit, inside)) i.passes two.passes

pub returns-then-lanes-lt32-clause-most : goal.returns-then-lanes-lt32-clause-most
returns-then-lanes-lt32-clause-most c = λ less.
    let some = c.loop-len.invariant.some in
    ends c.args.sets.now c.args.piece.now _ _ (omega (arith, some)) (omega arith) (c.two_blocks_len_by_keys-lanes.ensures.stop c.if-lanes-lt32.true)
