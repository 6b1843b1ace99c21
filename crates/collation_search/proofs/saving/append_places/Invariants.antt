-- The places so far stand in the words, and the others are to come.
use Rattle.std.proofs.Common.{◌≡◌, ◌≤◌, vec_capacity, ◌++◌, ◌-◌, length, drop}
use Rattle.collation_states.specs.State.{place_words}
use Rattle.collation_states.specs.Saving.{AreWordsAppended}
use Rattle.collation_search.specs.State.{kept_places, saved_places}
use Rattle.collation_search.proofs.saving.append_places.Given as goal

abbrev pub invariant-loop-place : goal.invariant-loop-place
invariant-loop-place l = record {
  saved : l.words.items ++ place_words (saved_places (drop l.at l.walk.places.items)) ≡ l.fn.words.items ++ place_words (saved_places (kept_places l.walk));
  begun : AreWordsAppended l.fn.words.items l.words.items;
  capacity : vec_capacity l.fn.words ≤ vec_capacity l.words;
}

abbrev pub decreases-loop-place : goal.decreases-loop-place
decreases-loop-place l = length l.walk.places.items - l.at
