-- What one call of a reader or a writer does to its observable bytes, and when it counts as a failure.
use Rattle.std.specs.Prelude.{◌≡◌, ◌==◌, ◌&&◌, ◌<◌, ℕ, Bool, true, not, List, [], ◌++◌, length, take, Option, Result, Ok, Err, IfSome, if◌then◌else◌}
use Rattle.std.specs.Option.{option_map}
use Rattle.colfind_io.specs.declared.devices.DeviceFault.{DeviceFault}

-- the piece, and then the bytes that are left, where they are observable
abbrev pub after_piece : List ℕ → Option (List ℕ) → Option (List ℕ)
after_piece piece = option_map (λ rest. piece ++ rest)

-- the bytes that are held, where they are observable, and then the piece
abbrev pub with_piece : List ℕ → Option (List ℕ) → Option (List ℕ)
with_piece piece = option_map (λ bytes. bytes ++ piece)

-- what a call that answered this moved of a buffer: its first k bytes at `Ok(k)`, and nothing at an `Err`
abbrev pub moved : Result ℕ DeviceFault → List ℕ → List ℕ
moved (Ok k) buffer = take k buffer
moved (Err _) buffer = []

-- a `write` that failed: an `Err`, or one that took no byte of a non-empty buffer
abbrev pub takes_nothing : Result ℕ DeviceFault → List ℕ → Bool
takes_nothing (Ok k) buffer = k == 0 && not (length buffer == 0)
takes_nothing (Err _) buffer = true

-- by how many failures the count rises
abbrev pub one_if : Bool → ℕ
one_if failed = if failed then 1 else 0

-- a `read` into a non-empty buffer that gives nothing reports the end, and then nothing is left
abbrev pub EndsOnlyAtEnd : Result ℕ DeviceFault → List ℕ → Option (List ℕ) → Type 0
EndsOnlyAtEnd result buffer left = result ≡ Ok 0 → 0 < length buffer → IfSome left (λ rest. rest ≡ [])
