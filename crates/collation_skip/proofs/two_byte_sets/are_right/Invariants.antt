use Rattle.std.specs.Prelude.{◌≡◌, ◌<◌, ◌≤◌, ℕ}
use Rattle.collation_letters.specs.Store.{AreLetters}
use Rattle.byte_blocks.specs.Sets.{is_in}
use Rattle.collation_skip.specs.TwoBytes.{AreRightOf}
use Rattle.collation_skip.proofs.two_byte_sets.are_right.Given as goal

abbrev pub invariant-loop-lead : goal.invariant-loop-lead
invariant-loop-lead g l = record {
  right : AreLetters (g.W.Weights.table l.table) l.pattern l.letters;
  each : (lead trail : ℕ) → 192 ≤ lead → lead < l.lead → 128 ≤ trail → trail < 192 → is_in l.classes.sets.halt lead ≡ 0 → is_in l.classes.sets.halt trail ≡ 0
      → AreRightOf (g.W.Weights.table l.table) l.pattern l.classes lead trail;
}
