-- Text of characters of one and of two bytes that passes in blocks of bytes.
use Rattle.std.specs.Prelude.{◌≡◌, ℕ, suc, ◌<◌, ◌≤◌, ◌⊎◌, max, List, ◌∷◌, length, slice_index}
use Rattle.byte_blocks.specs.declared.sets.TwoByteSets.{TwoByteSets}
use Rattle.byte_blocks.specs.Sets.{is_in, leads, trails}

-- A byte goes on behind two others: it does not halt, it is a trailing byte just where the one before it is a leading one, and if it
-- ends a character, this and the one before are not a key and a later one.
pub record GoesOn (sets : TwoByteSets) (earlier before byte : ℕ) : Type 0 where
  pub going : is_in sets.halt byte ≡ 0
  pub form : trails byte ≡ leads before
  pub keys : (is_in sets.later byte ≡ 0) ⊎ ((is_in sets.key before ≡ 0) × ((leads before ≡ 0) ⊎ (is_in sets.key earlier ≡ 0)))

-- a byte does not go on behind two others
abbrev pub DoesNotGoOn : TwoByteSets → ℕ → ℕ → ℕ → Type 0
DoesNotGoOn sets earlier before byte = GoesOn sets earlier before byte → ⊥

-- the first n bytes pass: the first of them does not halt and is no trailing byte, and each other one goes on behind those before
pub record Pass (sets : TwoByteSets) (bytes : List ℕ) (n : ℕ) : Type 0 where
  pub within : n ≤ length bytes
  pub going : 0 < n → is_in sets.halt (slice_index bytes 0) ≡ 0
  pub begins : 0 < n → trails (slice_index bytes 0) ≡ 0
  pub each : (i : ℕ) → suc i < n → GoesOn sets (slice_index (0 ∷ bytes) i) (slice_index bytes i) (slice_index bytes (suc i))

-- no more than the first n bytes pass, where one byte alone counts for nothing
abbrev pub StopsAt : TwoByteSets → List ℕ → ℕ → Type 0
StopsAt sets bytes n = Pass sets bytes (max 2 (suc n)) → ⊥
