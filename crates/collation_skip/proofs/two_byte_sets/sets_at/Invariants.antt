use Rattle.std.specs.Prelude.{◌≡◌}
use Rattle.collation_letters.specs.Store.{AreLetters}
use Rattle.collation_skip.proofs.two_byte_sets.sets_at.Given as goal

abbrev pub invariant-loop-byte : goal.invariant-loop-byte
invariant-loop-byte g l = record {
  right : AreLetters (g.W.Weights.table l.table) l.pattern l.letters;
  place : l.classes.place ≡ l.place;
}

abbrev pub invariant-loop-lead : goal.invariant-loop-lead
invariant-loop-lead g l = record {
  right : AreLetters (g.W.Weights.table l.table) l.pattern l.letters;
  place : l.classes.place ≡ l.place;
}
