use Rattle.std.proofs.Common.{◌≡◌, arith}
use Rattle.byte_blocks.specs.Sets.{is_in}
use Rattle.collation_skip.specs.TwoBytes.{IsSetRight}
use Rattle.collation_skip.proofs.TwoByteCharacters.{each-more}
use Rattle.collation_skip.proofs.two_byte_sets.are_right_of_one.Goals as goal

pub loop-byte-preserved-then-has-ne0 : goal.loop-byte-preserved-then-has-ne0
loop-byte-preserved-then-has-ne0 g c = record {
  right = c.loop-byte.invariant.right;
  each = each-more (λ b. is_in c.args.classes.now.sets.halt b ≡ 0 → IsSetRight (g.W.Weights.table c.args.table.now) c.args.pattern.now c.args.classes.now b b) c.loop-byte.byte c.loop-byte.invariant.each
      (λ zero. absurd (omega (arith, zero, c.has.ensures, c.if-has-ne0.true)));
}

pub loop-byte-preserved : goal.loop-byte-preserved
loop-byte-preserved g c = record {
  right = c.letter-letter.ensures.right;
  each = each-more (λ b. is_in c.args.classes.now.sets.halt b ≡ 0 → IsSetRight (g.W.Weights.table c.args.table.now) c.args.pattern.now c.args.classes.now b b) c.loop-byte.byte c.loop-byte.invariant.each
      (λ _. c.is_right.ensures c.if-not-is_right.false (g.W.Weights.table c.args.table.now) c.loop-byte.byte c.letter-letter.ensures.letter);
}
