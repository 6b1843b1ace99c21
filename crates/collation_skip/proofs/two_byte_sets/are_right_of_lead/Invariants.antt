use Rattle.std.specs.Prelude.{◌≡◌, ◌<◌, ◌≤◌, ℕ}
use Rattle.collation_letters.specs.Store.{AreLetters}
use Rattle.byte_blocks.specs.Sets.{is_in}
use Rattle.collation_skip.specs.TwoBytes.{AreRightOf}
use Rattle.collation_skip.proofs.two_byte_sets.are_right_of_lead.Given as goal

abbrev pub invariant-loop-trail : goal.invariant-loop-trail
invariant-loop-trail g l = record {
  right : AreLetters (g.W.Weights.table l.table) l.pattern l.letters;
  each : (trail : ℕ) → 128 ≤ trail → trail < l.trail → is_in l.classes.sets.halt trail ≡ 0 → AreRightOf (g.W.Weights.table l.table) l.pattern l.classes l.lead trail;
}
