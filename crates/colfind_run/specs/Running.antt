-- What a run has read and printed, by its outcome.
use Rattle.std.specs.Prelude.{◌≡◌, true, ◌+◌, ◌≤◌, ℕ, Bool, List, [], length, Option, Some, None, IfSome, if◌then◌else◌}
use Rattle.collation_matches.specs.Answer.{Answer}
use Rattle.collation_matches.specs.GoodPrefix.{is_good_so_far}
use Rattle.collation_matches.specs.declared.TextFault.{TextFault}
use Rattle.colfind_io.specs.declared.output.Output.{Output}
use Rattle.colfind_run.specs.declared.run.Outcome.{Outcome}
use Rattle.colfind_run.specs.declared.run.Outcome.TheVariants.{Done, Text, Read, Write, Memory}
use Rattle.colfind_io.specs.Devices.{after_piece, with_piece}
use Rattle.colfind_io.specs.Printing.{output}
use Rattle.colfind_io.specs.Writing.{WritesPrefix}

-- nothing is left to read, where the bytes of the reader are observable
abbrev pub IsAtEnd : Option (List ℕ) → Type 0
IsAtEnd left = IfSome left (λ rest. rest ≡ [])

abbrev pub IfDone : Outcome → (ℕ → Type 0) → Type 0
IfDone (Done count) P = P count
IfDone _ P = Unit {0}

abbrev pub IfText : Outcome → (TextFault → Type 0) → Type 0
IfText (Text fault) P = P fault
IfText _ P = Unit {0}

abbrev pub IfRead : Outcome → (ℕ → Type 0) → Type 0
IfRead (Read count) P = P count
IfRead _ P = Unit {0}

-- In what follows `all` gives the answer to the bytes of a text that has ended, and `settled` the ranges that are reported of a
-- text that could not be read further: its minimal matches that end before its end. Of a text that goes on they need not all be
-- matches.

-- all bytes were read, they have no fault, and all ranges in them were printed, of which there are so many
pub record PrintsAll (all : List ℕ → Answer) (form : Output) (count : ℕ) (left_before left_after held_before held_after : Option (List ℕ)) : Type 0 where
  pub bytes : List ℕ
  pub from_reader : left_before ≡ after_piece bytes left_after
  pub end : IsAtEnd left_after
  pub good : (all bytes).fault ≡ None
  pub counted : count ≡ length (all bytes).ranges
  pub to_writer : held_after ≡ with_piece (output form (all bytes).ranges) held_before

-- the bytes that were read have this first fault, and the ranges before it were printed; a fault that more bytes could mend
-- is one only where nothing is left
pub record PrintsToFault (all : List ℕ → Answer) (form : Output) (at : TextFault) (left_before left_after held_before held_after : Option (List ℕ)) : Type 0 where
  pub bytes : List ℕ
  pub from_reader : left_before ≡ after_piece bytes left_after
  pub mendable : is_good_so_far bytes ≡ true → IsAtEnd left_after
  pub fault : (all bytes).fault ≡ Some at
  pub to_writer : held_after ≡ with_piece (output form (all bytes).ranges) held_before

-- so many bytes were read, which a longer text may begin with, and their settled ranges were printed
pub record PrintsSettled (settled : List ℕ → List (ℕ × ℕ)) (form : Output) (count : ℕ) (left_before left_after held_before held_after : Option (List ℕ)) : Type 0 where
  pub bytes : List ℕ
  pub from_reader : left_before ≡ after_piece bytes left_after
  pub open_text : is_good_so_far bytes ≡ true
  pub counted : count ≡ length bytes
  pub to_writer : held_after ≡ with_piece (output form (settled bytes)) held_before

-- bytes were read, and of what is to be printed of their ranges a prefix was
pub record PrintsPrefix (ranges : List ℕ → List (ℕ × ℕ)) (form : Output) (left_before left_after held_before held_after : Option (List ℕ)) : Type 0 where
  pub bytes : List ℕ
  pub from_reader : left_before ≡ after_piece bytes left_after
  pub to_writer : WritesPrefix held_before held_after (output form (ranges bytes))

-- the ranges of which a run speaks that read these bytes, by whether the reader failed
abbrev pub reported_ranges : (List ℕ → Answer) → (List ℕ → List (ℕ × ℕ)) → Bool → List ℕ → List (ℕ × ℕ)
reported_ranges all settled failed bytes = if failed then settled bytes else (all bytes).ranges

-- the failures of the reader, before and after a run of this outcome, and those of the writer
abbrev pub FailsAs : Outcome → ℕ → ℕ → ℕ → ℕ → Type 0
FailsAs (Done _) reads reads_after writes writes_after = (reads_after ≡ reads) × (writes_after ≡ writes)
FailsAs (Text _) reads reads_after writes writes_after = (reads_after ≡ reads) × (writes_after ≡ writes)
FailsAs (Read _) reads reads_after writes writes_after = (reads_after ≡ reads + 1) × (writes_after ≡ writes)
FailsAs Write reads reads_after writes writes_after =
    (reads ≤ reads_after) × (reads_after ≤ reads + 1) × (writes_after ≡ writes + 1)
FailsAs Memory reads reads_after writes writes_after = (reads_after ≡ reads) × (writes_after ≡ writes)
