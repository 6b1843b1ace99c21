-- What stands behind a fault of a file: what `open` answered at its path, and what is seen of a file that it opened.
use Rattle.std.specs.Prelude.{◌≡◌, ℕ, List, length, Option, IfSome, IsSomeAnd, Result, Ok, Err, ◌⊎◌}
use Rattle.clap.specs.Words.{Text as Word}
use Rattle.colfind_io.specs.Reading.{FailsBehind}
use Rattle.colfind_io.specs.declared.devices.DeviceFault.{DeviceFault}
use Rattle.colfind_io.specs.declared.files.FileFault.TheVariants.{Device}
use Rattle.colfind_run.specs.declared.faults.Stop.{Stop}
use Rattle.colfind_run.specs.declared.faults.Stop.TheVariants.{Words, File, Tailor, TextFile, Read}
use Rattle.colfind_run.specs.declared.words.Settings.{Settings}
use Rattle.colfind_run.specs.Settings.{IsTakenAs}

-- In what follows `gives` has the answers that `open` gave at a path; `left` and `failures` say what is left of a file, and how often
-- a read of it has failed.
module _ {A : Type 0} (gives : List ℕ → Result A DeviceFault → Type 0) (left : A → Option (List ℕ)) (failures : A → ℕ) where
  -- no file was opened at the path
  abbrev pub IsUnopened : List ℕ → Type 0
  IsUnopened path = gives path (Err (record {}))

  -- a file was opened at the path, these bytes of it were read, and one read of it failed
  pub record FailsAt (path piece : List ℕ) : Type 0 where
    pub opened : A
    pub after : A
    pub answered : gives path (Ok opened)
    pub failed : FailsBehind piece (left opened) (left after) (failures opened) (failures after)

  -- no file was opened at the path, or not all of one could be read
  abbrev pub IsUnread : List ℕ → Type 0
  IsUnread path = IsUnopened path ⊎ ((piece : List ℕ) × FailsAt path piece)

  -- a device's fault of the table file, the tailor file or the text file has its cause
  abbrev pub HasCause : Settings → Stop → Type 0
  HasCause asked (File Device) = IsUnread asked.table.now
  HasCause asked (Tailor Device) = IsSomeAnd asked.tailor (λ path. IsUnread path.now)
  HasCause asked TextFile = IsSomeAnd asked.text (λ path. IsUnopened path.now)
  HasCause asked (Read count) = IfSome asked.text (λ path. (piece : List ℕ) × (count ≡ length piece) × FailsAt path.now piece)
  HasCause asked _ = Unit {0}

  -- the same, of the files that the words name
  abbrev pub IsCaused : List Word → Stop → Type 0
  IsCaused words (Words fault) = Unit {0}
  IsCaused words stop = (asked : Settings) × IsTakenAs words asked × HasCause asked stop
