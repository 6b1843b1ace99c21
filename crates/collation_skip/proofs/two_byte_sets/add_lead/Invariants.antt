use Rattle.std.specs.Prelude.{◌≡◌}
use Rattle.collation_letters.specs.Store.{AreLetters}
use Rattle.collation_skip.proofs.two_byte_sets.add_lead.Given as goal

abbrev pub invariant-loop-trail : goal.invariant-loop-trail
invariant-loop-trail g l = record {
  right : AreLetters (g.W.Weights.table l.table) l.pattern l.letters;
  place : l.classes.place ≡ l.place;
}
