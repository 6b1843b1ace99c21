use Rattle.std.specs.Prelude.{◌≡◌, ◌<◌, ℕ}
use Rattle.collation_letters.specs.Store.{AreLetters}
use Rattle.byte_blocks.specs.Sets.{is_in}
use Rattle.collation_skip.specs.TwoBytes.{IsSetRight}
use Rattle.collation_skip.proofs.two_byte_sets.are_right_of_one.Given as goal

abbrev pub invariant-loop-byte : goal.invariant-loop-byte
invariant-loop-byte g l = record {
  right : AreLetters (g.W.Weights.table l.table) l.pattern l.letters;
  each : (c : ℕ) → c < l.byte → is_in l.classes.sets.halt c ≡ 0 → IsSetRight (g.W.Weights.table l.table) l.pattern l.classes c c;
}
