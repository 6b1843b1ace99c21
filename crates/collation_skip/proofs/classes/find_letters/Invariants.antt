use Rattle.collation_letters.specs.Store.{AreLetters}
use Rattle.collation_skip.proofs.classes.find_letters.Given as goal

abbrev pub invariant-loop-byte : goal.invariant-loop-byte
invariant-loop-byte g l = AreLetters (g.W.Weights.table l.table) l.pattern l.letters
