-- The points so far stand in the words, and the others are to come.
use Rattle.std.proofs.Common.{◌≡◌, ◌≤◌, vec_capacity, ◌++◌, drop}
use Rattle.collation_states.specs.State.{point_words}
use Rattle.collation_states.specs.Saving.{AreWordsAppended}
use Rattle.collation_search.proofs.saving.append_window.Given as goal

abbrev pub invariant-loop-i : goal.invariant-loop-i
invariant-loop-i l = record {
  saved : l.words.items ++ point_words (drop l.i l.window.points) ≡ l.fn.words.items ++ point_words l.window.points;
  begun : AreWordsAppended l.fn.words.items l.words.items;
  capacity : vec_capacity l.fn.words ≤ vec_capacity l.words;
}
