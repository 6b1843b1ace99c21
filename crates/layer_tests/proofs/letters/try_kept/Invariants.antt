use Rattle.collation_letters.specs.Store.{AreLetters}
use Rattle.layer_tests.proofs.letters.try_kept.Given as goal

abbrev pub invariant-loop-code_point : goal.invariant-loop-code_point
invariant-loop-code_point l = AreLetters l.table.rows l.pattern l.letters
