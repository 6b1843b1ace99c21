use Rattle.std.proofs.Common.{ℕ, ◌≤◌, List, Option, Some, None, arith, subst}
use Rattle.std.specs.Prelude.{IfSome}
use Rattle.collation_table.specs.Table.{TableMap}
use Rattle.collation_pattern.specs.Compiled.{Compiled}
use Rattle.collation_skip.specs.declared.passed.Passed.{Passed}
use Rattle.collation_skip.specs.declared.two_byte_sets.TwoByteClasses.{TwoByteClasses}
use Rattle.collation_skip.specs.Passed.{PassesTo}
use Rattle.collation_skip.specs.TwoBytes.{AreSetsRight}
use Rattle.collation_skip.proofs.skip.Skip.pass_by_moves.Goals as goal

-- what begins not after a limit begins not after a later one
later : (table : TableMap) (pattern : Compiled) (piece : List ℕ) (n m : ℕ) (o : Option Passed) → n ≤ m → IfSome o (PassesTo table pattern piece n) → IfSome o (PassesTo table pattern piece m)
later table pattern piece n m None less p = tt
later table pattern piece n m (Some it) less p =
    let end = p.reach in
    record {
      within = p.within;
      order = p.order;
      reach = omega (arith, end, less);
      next = p.next;
      letter = p.letter;
      text = p.text;
      passed = p.passed;
    }

pub returns-then-are_sets_due-clause-passes : goal.returns-then-are_sets_due-clause-passes
returns-then-are_sets_due-clause-passes g c =
    later (g.W.Weights.table c.args.table.now) c.args.pattern.now c.args.piece.now c.min-reach.result c.args.reach c.pass-by_moves.result (omega (arith, c.min-reach.ensures)) c.pass-by_moves.ensures.passes

pub returns-else-are_sets_due-clause-passes : goal.returns-else-are_sets_due-clause-passes
returns-else-are_sets_due-clause-passes g c =
    later (g.W.Weights.table c.args.table.now) c.args.pattern.now c.args.piece.now c.min-reach.result c.args.reach c.pass-by_moves.result (omega (arith, c.min-reach.ensures)) c.pass-by_moves.ensures.passes

pub returns-then-are_sets_due-clause-right : goal.returns-then-are_sets_due-clause-right
returns-then-are_sets_due-clause-right g c = (
  c.pass-by_moves.ensures.right,
  c.requires.right.1,
  λ sets is. subst (λ (o : Option TwoByteClasses). IfSome o (AreSetsRight (g.W.Weights.table c.args.table.now) c.args.pattern.now)) is c.sets_for-self.ensures.classes,
)

pub returns-else-are_sets_due-clause-right : goal.returns-else-are_sets_due-clause-right
returns-else-are_sets_due-clause-right g c = (c.pass-by_moves.ensures.right, c.requires.right.1, c.requires.right.2)
