use Rattle.std.specs.Prelude.{◌≤◌}
use Rattle.collation_letters.specs.Store.{AreLetters}
use Rattle.collation_skip.proofs.two_byte_blocks.last_ending.Given as goal

abbrev pub invariant-loop-start : goal.invariant-loop-start
invariant-loop-start g l = record {
  right : AreLetters (g.W.Weights.table l.table) l.pattern l.letters;
  within : l.start ≤ l.len;
}

abbrev pub decreases-loop-start : goal.decreases-loop-start
decreases-loop-start g l = l.start
