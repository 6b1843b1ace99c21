use Rattle.std.specs.Str.{chars, IsUtf8}
use Rattle.std.specs.List.{FoldsTo}
use Rattle.std.proofs.Common.{◌≡◌, ◌-◌, ◌≤◌, ℕ, List, ◌∷◌, ◌++◌, length, take, drop}
use Rattle.collation_letters.specs.Letters.{IsLetter}
use Rattle.collation_letters.specs.Store.{AreLetters}
use Rattle.collation_finder.specs.LetterRun.{HasWalkedTo}
use Rattle.collation_walk.specs.declared.matching.Matcher.{Matcher}
use Rattle.collation_walk.specs.Walks.{KeepsWalk}
use Rattle.collation_finder.proofs.letter_loop.walk_run.Given as goal

-- the characters so far were walked over, c follows them, and the sink was called for the ranges so far
abbrev pub invariant-characters : goal.invariant-characters
invariant-characters g l = record {
  callable : goal.F-IsAlwaysCallable g l.sink;
  right : AreLetters (g.W.Weights.table l.query.table.now) l.query.pattern.now l.letters;
  keeps : KeepsWalk l.query.pattern.now l.fn.matcher.walk l.matcher.walk;
  later : l.fn.from.len ≤ l.here.len;
  forth : l.here.len ≤ l.end;
  ends : l.end ≤ length l.piece;
  part : IsUtf8 (take (l.end - l.here.len) (drop l.here.len l.piece));
  first : (others : List ℕ) × (chars (take (l.end - l.here.len) (drop l.here.len l.piece)) ≡ l.here.next ∷ others);
  letter : IsLetter (g.W.Weights.table l.query.table.now) l.query.pattern.now (chars (take (l.end - l.here.len) (drop l.here.len l.piece))) l.here.letter;
  come : (ranges : List (ℕ × ℕ)) × FoldsTo (λ f range t. goal.F-step g f range.0 range.1 tt t) l.fn.sink ranges l.sink
      × ((first : ℕ) (before : Matcher) (earlier : List (ℕ × ℕ)) → HasWalkedTo (g.W.Weights.table l.query.table.now) l.query.pattern.now l.front first before l.fn.matcher l.fn.from earlier
      → HasWalkedTo (g.W.Weights.table l.query.table.now) l.query.pattern.now l.front first before l.matcher l.here (earlier ++ ranges));
}

abbrev pub decreases-characters : goal.decreases-characters
decreases-characters g l = length l.piece - l.end
