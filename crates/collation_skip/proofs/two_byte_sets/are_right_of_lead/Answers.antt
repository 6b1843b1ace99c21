use Rattle.std.proofs.Common.{◌≡◌, ◌≤◌, arith, subst}
use Rattle.byte_blocks.specs.Sets.{is_in}
use Rattle.collation_skip.specs.TwoBytes.{AreRightOf, IsSetRight}
use Rattle.collation_skip.proofs.TwoByteCharacters.{each-more, number-of}
use Rattle.collation_skip.proofs.two_byte_sets.are_right_of_lead.Goals as goal

pub loop-trail-preserved-then-has-ne0-2 : goal.loop-trail-preserved-then-has-ne0-2
loop-trail-preserved-then-has-ne0-2 g c = record {
  right = c.loop-trail.invariant.right;
  each = λ t low less. each-more (λ b. 128 ≤ b → is_in c.args.classes.now.sets.halt b ≡ 0 → AreRightOf (g.W.Weights.table c.args.table.now) c.args.pattern.now c.args.classes.now c.args.lead b) c.loop-trail.trail
      (λ b less low. c.loop-trail.invariant.each b low less) (λ _ zero. absurd (omega (arith, zero, c.has-in-loop-trail.ensures, c.if-has-ne0-2.true))) t less low;
}

pub loop-trail-preserved : goal.loop-trail-preserved
loop-trail-preserved g c =
    let table = g.W.Weights.table c.args.table.now in
    let trail = c.loop-trail.trail in
    record {
      right = c.letter-letter.ensures.right;
      each = λ t low less. each-more (λ b. 128 ≤ b → is_in c.args.classes.now.sets.halt b ≡ 0 → AreRightOf table c.args.pattern.now c.args.classes.now c.args.lead b) trail (λ b less low. c.loop-trail.invariant.each b low less)
          (λ low _.
          let number = number-of c.args.lead trail c.in-Some.c (omega (arith, c.if-lead-lt194.false)) (omega (arith, c.if-lead-ge224.false)) low (omega (arith, c.loop-trail-test.true)) c.in-Some.ensures.some.1 in
          record {
            spelled = number.0;
            right = subst (IsSetRight table c.args.pattern.now c.args.classes.now trail) number.1 (c.is_right.ensures c.if-not-is_right.false table c.in-Some.c c.letter-letter.ensures.letter);
          }) t less low;
    }
