-- The points so far stand in the words, and the others are to come.
use Rattle.std.proofs.Common.{◌≡◌, ◌≤◌, vec_capacity, ◌++◌, drop}
use Rattle.collation_states.specs.State.{point_words}
use Rattle.collation_states.specs.Saving.{AreWordsAppended}
use Rattle.collation_states.proofs.saving.append_points.Given as goal

abbrev pub invariant-loop-point : goal.invariant-loop-point
invariant-loop-point l = record {
  saved : l.words.items ++ point_words (drop l.point-index l.points) ≡ l.fn.words.items ++ point_words l.points;
  begun : AreWordsAppended l.fn.words.items l.words.items;
  capacity : vec_capacity l.fn.words ≤ vec_capacity l.words;
}
