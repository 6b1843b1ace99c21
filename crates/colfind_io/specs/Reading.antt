-- What was read, over one call or many.
use Rattle.std.specs.Prelude.{◌≡◌, ℕ, ◌+◌, List, ◌++◌, Option, Bool, true, false}
use Rattle.colfind_io.specs.declared.reading.Reading.{Reading}
use Rattle.colfind_io.specs.declared.reading.Reading.TheVariants.{Fault}
use Rattle.colfind_io.specs.Devices.{after_piece}

-- the bytes that were read stood before those that are left, and are now at the end of what is kept
pub record ReadsOn (left_before left_after : Option (List ℕ)) (kept_before kept_after : List ℕ) : Type 0 where
  pub piece : List ℕ
  pub from : left_before ≡ after_piece piece left_after
  pub to : kept_after ≡ kept_before ++ piece

-- some bytes were read
abbrev pub ReadsSome : Option (List ℕ) → Option (List ℕ) → Type 0
ReadsSome before after = (piece : List ℕ) × (before ≡ after_piece piece after)

-- these bytes were read, and one read failed
abbrev pub FailsBehind : List ℕ → Option (List ℕ) → Option (List ℕ) → ℕ → ℕ → Type 0
FailsBehind piece before after failures failures_after =
    (before ≡ after_piece piece after) × (failures_after ≡ failures + 1)

-- the reader failed
abbrev pub is_fault : Reading → Bool
is_fault Fault = true
is_fault _ = false
