-- Why the program ends without an answer, case by case in the order of its work: words, table file, tailor file,
-- table, pattern, text file, text.
-- Where the bytes of a file are not observable, they are some bytes.
use Rattle.std.specs.Prelude.{◌≡◌, ◌≢◌, ℕ, Bool, true, false, List, Option, Some, None, option_map, is_some, nat_lt}
use Rattle.clap.specs.Words.{Text as Word}
use Rattle.collation_table.specs.Table.{TableMap}
use Rattle.collation_table.specs.Faults.{tailored_fault, IsFaultOrAllocationRefused}
use Rattle.collation_elements.specs.declared.settings.Variable.{Variable}
use Rattle.collation_elements.specs.declared.settings.Strength.{Strength}
use Rattle.collation_pattern.specs.PatternFaults.{pattern_fault}
use Rattle.collation_matches.specs.declared.select.Select.{Select}
use Rattle.colfind_io.specs.declared.output.Output.{Output}
use Rattle.colfind_run.specs.declared.faults.Stop.{Stop}
use Rattle.colfind_run.specs.declared.faults.Stop.TheVariants.{Words, File, Tailor, Table, Pattern, TextFile, Text, Read, Write, Memory}
use Rattle.colfind_run.specs.declared.words.Settings.{Settings}
use Rattle.colfind_run.specs.declared.words.SettingsFault.TheVariants as of_words
use Rattle.colfind_run.specs.declared.run.Outcome.{Outcome}
use Rattle.colfind_run.specs.declared.run.Outcome.TheVariants as outcome
use Rattle.colfind_run.specs.Patterns.{answer_by, settled_by}
use Rattle.colfind_run.specs.Running.{PrintsToFault, PrintsSettled, PrintsPrefix, reported_ranges, FailsAs}
use Rattle.colfind_run.specs.Searching.{FileBytes, IfAt, IsTailor, IsTableOf, left_of}
use Rattle.colfind_run.specs.Settings.{IsTakenAs, IsCommandLineRefused}

-- what a contract sees of the input and of the output
pub record Seen : Type 0 where
  pub left : Option (List ℕ)
  pub reads_failed : ℕ
  pub held : Option (List ℕ)
  pub writes_failed : ℕ

abbrev pub seen : Option (List ℕ) → ℕ → Option (List ℕ) → ℕ → Seen
seen left reads_failed held writes_failed =
    record { left = left; reads_failed = reads_failed; held = held; writes_failed = writes_failed }

-- it stopped before the text, and then the input and the output are as they were
abbrev pub is_before_text : Stop → Bool
is_before_text (Words _) = true
is_before_text (File _) = true
is_before_text (Tailor _) = true
is_before_text (Table _) = true
is_before_text (Pattern _) = true
is_before_text TextFile = true
is_before_text _ = false

-- the devices have failed as a run of this outcome makes them
abbrev pub Fails : Outcome → Seen → Seen → Type 0
Fails outcome before after = FailsAs outcome before.reads_failed after.reads_failed before.writes_failed after.writes_failed

-- the table file could not be read, or the tailor file, where one is asked for; or their bytes
-- have this fault
abbrev pub StopsAtTable : FileBytes → Settings → Stop → Type 0
StopsAtTable files asked (File _) = Unit {0}
StopsAtTable files asked (Tailor _) = is_some asked.tailor ≡ true
StopsAtTable files asked (Table fault) =
    (base : List ℕ) × (tailor : List ℕ) × IfAt (files asked.table.now) base
    × IsTailor files (option_map (λ path. path.now) asked.tailor) tailor
    × IsFaultOrAllocationRefused (tailored_fault base tailor) fault
StopsAtTable files asked _ = ⊥

-- the tailor file could not be read, or its bytes have this fault after those of the table file
abbrev pub StopsAtTailor : Option (List ℕ) → List ℕ → Stop → Type 0
StopsAtTailor at base (Tailor _) = Unit {0}
StopsAtTailor at base (Table fault) =
    (tailor : List ℕ) × IfAt at tailor
    × IsFaultOrAllocationRefused (tailored_fault base tailor) fault
StopsAtTailor at base _ = ⊥

-- the text has this first fault, could not be read further, its ranges could not be written, or memory was refused
abbrev pub StopsAtText : TableMap → Strength → Variable → List ℕ → Output → Select → Stop → Seen → Seen → Type 0
StopsAtText table strength variable pattern form select (Text fault) before after =
    PrintsToFault (answer_by select table strength variable pattern) form fault before.left after.left before.held after.held
    × Fails (outcome.Text fault) before after
StopsAtText table strength variable pattern form select (Read count) before after =
    PrintsSettled (settled_by select table strength variable pattern) form count before.left after.left before.held after.held
    × Fails (outcome.Read count) before after
StopsAtText table strength variable pattern form select Write before after =
    PrintsPrefix
    (reported_ranges (answer_by select table strength variable pattern) (settled_by select table strength variable pattern)
    (nat_lt before.reads_failed after.reads_failed))
    form before.left after.left before.held after.held
    × Fails outcome.Write before after
StopsAtText table strength variable pattern form select Memory before after =
    (after.held ≡ before.held)
    × Fails outcome.Memory before after
StopsAtText table strength variable pattern form select _ before after = ⊥

-- what is seen of a text file in place of the input: what is left of it, and if it could be read
abbrev pub of_file : Option (List ℕ) → ℕ → Seen → Seen
of_file left reads_failed at = record at { left = left; reads_failed = reads_failed }

-- the search in the text stopped: in the input, or in the text file where one is asked for
abbrev pub StopsIn : FileBytes → TableMap → Settings → Stop → Seen → Seen → Type 0
StopsIn files table asked stop before after =
    (is_some asked.text ≡ false
    → StopsAtText table asked.strength asked.variable asked.pattern.now asked.output asked.select stop before after)
    × (is_some asked.text ≡ true → (left : Option (List ℕ)) × (reads_failed : ℕ)
    × StopsAtText table asked.strength asked.variable asked.pattern.now asked.output asked.select stop
    (of_file (left_of files asked None) 0 before) (of_file left reads_failed after))

-- the pattern has this fault, or memory was refused for it; else it has none, and the text file comes, if one is asked for, and
-- then the text
abbrev pub StopsSearch : FileBytes → TableMap → Settings → Stop → Seen → Seen → Type 0
StopsSearch files table asked (Pattern fault) before after =
    fault.kind ≢ 24 → pattern_fault table asked.strength asked.variable asked.pattern.now ≡ Some fault.kind
StopsSearch files table asked TextFile before after =
    (pattern_fault table asked.strength asked.variable asked.pattern.now ≡ None) × (is_some asked.text ≡ true)
StopsSearch files table asked stop before after =
    (pattern_fault table asked.strength asked.variable asked.pattern.now ≡ None)
    × StopsIn files table asked stop before after

-- The words are not those of the command, or memory was refused for them; else they ask for
-- settings, and the table comes, of one file or of two, and then the search with that table. Where
-- the text is a file, `Unasked` holds, by which a clause says that the input is as it was.
abbrev pub IsReason : FileBytes → List Word → Type 0 → Stop → Seen → Seen → Type 0
IsReason files words Unasked (Words fault) before after = fault ≡ of_words.Usage → IsCommandLineRefused words
IsReason files words Unasked (File fault) before after = (asked : Settings) × IsTakenAs words asked
IsReason files words Unasked (Tailor fault) before after =
    (asked : Settings) × IsTakenAs words asked × StopsAtTable files asked (Tailor fault)
IsReason files words Unasked (Table fault) before after =
    (asked : Settings) × IsTakenAs words asked × StopsAtTable files asked (Table fault)
IsReason files words Unasked stop before after =
    (asked : Settings) × IsTakenAs words asked × (is_some asked.text ≡ true → Unasked)
    × ((table : TableMap) × IsTableOf files asked table
    × StopsSearch files table asked stop before after)
