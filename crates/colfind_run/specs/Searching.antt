-- What the program has found, where it ends without a fault.
use Rattle.std.specs.Prelude.{◌≡◌, ◌==◌, true, ℕ, List, length, Option, Some, None, IfSome, option_map, unwrap_or, is_some, [], if◌then◌else◌}
use Rattle.clap.specs.Words.{Text}
use Rattle.collation_table.specs.Table.{TableMap}
use Rattle.collation_table.specs.WellFormed.{IsWellFormed}
use Rattle.collation_table.specs.Faults.{tailored_map}
use Rattle.collation_elements.specs.declared.settings.Variable.{Variable}
use Rattle.collation_elements.specs.declared.settings.Strength.{Strength}
use Rattle.collation_matches.specs.GoodPrefix.{fault}
use Rattle.collation_matches.specs.Matches.{matches}
use Rattle.collation_matches.specs.Selecting.{selected}
use Rattle.collation_matches.specs.declared.select.Select.{Select}
use Rattle.colfind_io.specs.declared.output.Output.{Output}
use Rattle.colfind_run.specs.declared.words.Settings.{Settings}
use Rattle.colfind_io.specs.Devices.{after_piece, with_piece}
use Rattle.colfind_io.specs.Printing.{output}
use Rattle.colfind_run.specs.Running.{IsAtEnd}
use Rattle.colfind_run.specs.Settings.{IsTakenAs}

-- all bytes were read, they are a text without a fault, and of the minimal matches of the pattern in it those selected, which are
-- all or a chain, were printed in this form, of which there are so many
pub record FindsSelected (table : TableMap) (strength : Strength) (variable : Variable) (pattern : List ℕ) (form : Output) (select : Select) (count : ℕ)
    (left_before left_after held_before held_after : Option (List ℕ)) : Type 0 where
  pub table_is : IsWellFormed table
  pub bytes : List ℕ
  pub from_reader : left_before ≡ after_piece bytes left_after
  pub end : IsAtEnd left_after
  pub good : fault bytes ≡ None
  pub counted : count ≡ length (selected select (matches table strength variable pattern bytes))
  pub to_writer : held_after ≡ with_piece (output form (selected select (matches table strength variable pattern bytes))) held_before

-- the bytes of the file at each path, where they are observable
abbrev pub FileBytes : Type 0
FileBytes = List ℕ → Option (List ℕ)

-- no file has observable bytes, as it is with the files of the machine
abbrev pub no_files : FileBytes
no_files path = None

-- the bytes are those that are observable
abbrev pub IfAt : Option (List ℕ) → List ℕ → Type 0
IfAt at bytes = IfSome at (λ stored. bytes ≡ stored)

-- the bytes are those of the tailor file; there are none where no such file is asked for
abbrev pub IsTailor : FileBytes → Option (List ℕ) → List ℕ → Type 0
IsTailor files None bytes = bytes ≡ []
IsTailor files (Some path) bytes = IfAt (files path) bytes

-- the table is what the table file and the tailor file spell, each with the bytes at its path
pub record IsTableOf (files : FileBytes) (asked : Settings) (table : TableMap) : Type 0 where
  pub base : List ℕ
  pub tailor : List ℕ
  pub from_table : IfAt (files asked.table.now) base
  pub from_tailor : IsTailor files (option_map (λ path. path.now) asked.tailor) tailor
  pub spelled : table ≡ tailored_map base tailor

-- what is left of the text before it is read: all of the text file, if one is asked for
abbrev pub left_of : FileBytes → Settings → Option (List ℕ) → Option (List ℕ)
left_of files asked left = unwrap_or (option_map (λ path. files path.now) asked.text) left

-- what is left of it once it was read, which is nothing of a text file
abbrev pub left_after : FileBytes → Settings → Option (List ℕ) → Option (List ℕ)
left_after files asked left =
    unwrap_or (option_map (λ path. option_map (λ bytes. []) (files path.now)) asked.text) left

-- The words ask for a pattern, and its matches that they select were found in the text, under the
-- table that they name. Where the text is a file, `Unasked` holds, by which a clause says that the
-- input is as it was.
pub record FindsAsked (files : FileBytes) (words : List Text) (Unasked : Type 0) (count : ℕ)
    (left_at_start left_at_end held_before held_after : Option (List ℕ)) : Type 0 where
  pub settings : Settings
  pub taken : IsTakenAs words settings
  pub table : TableMap
  pub table_is : IsTableOf files settings table
  pub unasked : is_some settings.text ≡ true → Unasked
  pub found : FindsSelected table settings.strength settings.variable settings.pattern.now settings.output settings.select count
      (left_of files settings left_at_start) (left_after files settings left_at_end)
      held_before held_after

-- the status of the program for so many matches and no fault
abbrev pub status_of : ℕ → ℕ
status_of count = if count == 0 then 1 else 0
