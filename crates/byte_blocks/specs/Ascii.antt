-- Text of ASCII that passes in blocks of bytes.
use Rattle.std.specs.Prelude.{◌≡◌, ℕ, suc, ◌<◌, ◌≤◌, min, List, length, slice_index}
use Rattle.byte_blocks.specs.declared.sets.AsciiSets.{AsciiSets}
use Rattle.byte_blocks.specs.Sets.{in_set}

-- a byte of ASCII that does not halt
pub record MayPass (sets : AsciiSets) (byte : ℕ) : Type 0 where
  pub ascii : byte < 128
  pub going : in_set sets.halt byte ≡ 0

-- A byte passes behind another: it is ASCII and does not halt, the two are not a key and a later one, nor one that joins and an inner one.
pub record PassesBehind (sets : AsciiSets) (before byte : ℕ) : Type 0 where
  pub ascii : byte < 128
  pub going : in_set sets.halt byte ≡ 0
  pub keys : min (in_set sets.key before) (in_set sets.later byte) ≡ 0
  pub units : min (in_set sets.joins before) (in_set sets.inner byte) ≡ 0

-- a byte does not pass behind another
abbrev pub DoesNotPass : AsciiSets → ℕ → ℕ → Type 0
DoesNotPass sets before byte = PassesBehind sets before byte → ⊥

-- the first n bytes pass: the first of them does not halt, and each other one passes behind the one before
pub record Passes (sets : AsciiSets) (bytes : List ℕ) (n : ℕ) : Type 0 where
  pub within : n ≤ length bytes
  pub ascii : 0 < n → slice_index bytes 0 < 128
  pub going : 0 < n → in_set sets.halt (slice_index bytes 0) ≡ 0
  pub each : (i : ℕ) → suc i < n → PassesBehind sets (slice_index bytes i) (slice_index bytes (suc i))

-- no more than the first n bytes pass
abbrev pub PassNoFurther : AsciiSets → List ℕ → ℕ → Type 0
PassNoFurther sets bytes n = Passes sets bytes (suc n) → ⊥

-- keys alone decide which bytes of ASCII pass: none halts, and none may not stand behind one that joins
pub record KeysDecide (sets : AsciiSets) : Type 0 where
  pub halt : (byte : ℕ) → byte < 256 → in_set sets.halt byte ≡ 0
  pub inner : (byte : ℕ) → byte < 256 → in_set sets.inner byte ≡ 0

-- the bytes that halt decide alone which bytes of ASCII pass: one that does not halt is no key, and none may not stand behind one that joins
pub record HaltsDecide (sets : AsciiSets) : Type 0 where
  pub key : (byte : ℕ) → in_set sets.halt byte ≡ 0 → in_set sets.key byte ≡ 0
  pub inner : (byte : ℕ) → in_set sets.inner byte ≡ 0
