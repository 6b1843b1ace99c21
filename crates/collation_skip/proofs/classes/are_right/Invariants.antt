use Rattle.std.specs.Prelude.{◌≢◌, ◌<◌, ℕ}
use Rattle.byte_blocks.specs.Sets.{in_set}
use Rattle.collation_table.specs.Table.{TableMap}
use Rattle.collation_letters.specs.Store.{AreLetters}
use Rattle.collation_skip.specs.Blocks.{IsClassRight, IsCleanCharacter, most}
use Rattle.collation_skip.proofs.classes.are_right.Given as goal

abbrev pub invariant-loop-byte : goal.invariant-loop-byte
invariant-loop-byte l = record {
  each : (table : TableMap) → AreLetters table l.pattern l.letters → (c : ℕ) → c < l.byte → IsClassRight table l.pattern l.classes c;
  clean : (table : TableMap) → AreLetters table l.pattern l.letters → (c : ℕ) → c < l.byte → in_set l.classes.clean c ≢ 0 →
      ∥ IsCleanCharacter table l.pattern (most l.pattern.keys l.classes.place) c ∥₁;
}
