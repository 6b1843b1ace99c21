use Rattle.std.specs.Prelude.{◌<◌, length}
use Rattle.collation_letters.specs.Store.{AreLetters}
use Rattle.collation_skip.proofs.two_byte_sets.sets_for.Given as goal

abbrev pub invariant-loop-place : goal.invariant-loop-place
invariant-loop-place g l = record {
  right : AreLetters (g.W.Weights.table l.table) l.pattern l.letters;
  place : l.best.place < length l.pattern.keys;
}
