use Rattle.std.proofs.Common.{◌≡◌, ℕ, ◌+◌, ◌-◌, ◌≤◌, ◌<◌, ◌∷◌, [], length, take, drop}
use Rattle.std.specs.Char.{len_utf8}
use Rattle.std.specs.Str.{chars, IsUtf8}
use Rattle.utf8_cut.specs.Sequences.{SpellsCharacter}
use Rattle.collation_letters.specs.Letters.{IsLetter}
use Rattle.collation_letters.specs.Store.{AreLetters}
use Rattle.collation_skip.specs.Passed.{IsPassed}
use Rattle.collation_skip.proofs.foreign.pass_foreign.Given as goal

abbrev pub invariant-loop-end : goal.invariant-loop-end
invariant-loop-end g l = record {
  letters : AreLetters (g.W.Weights.table l.table) l.pattern l.letters;
  within : l.end + l.len ≤ length l.piece;
  len : l.len ≡ len_utf8 l.next;
  order : l.start ≤ l.end;
  reach : l.end ≤ l.reach;
  next : SpellsCharacter (take (len_utf8 l.next) (drop l.end l.piece)) l.next;
  text : IsUtf8 (take l.end l.piece);
  letter : IsLetter (g.W.Weights.table l.table) l.pattern (l.next ∷ []) l.letter;
  passed : 0 < l.end → (at : ℕ) → IsPassed (g.W.Weights.table l.table) l.pattern at (at + l.start) (chars (take l.end l.piece)) l.next;
}

abbrev pub decreases-loop-end : goal.decreases-loop-end
decreases-loop-end g l = length l.piece - l.end
