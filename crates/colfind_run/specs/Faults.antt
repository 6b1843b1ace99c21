-- The faults of the program, and the line that reports each.
use Rattle.std.specs.Prelude.{◌≡◌, ℕ, List, ◌++◌, Option, codes}
use Rattle.std.specs.Fmt.{decimal}
use Rattle.colfind_run.specs.declared.faults.Fault.{Fault}
use Rattle.colfind_run.specs.declared.faults.Fault.TheVariants.{Usage, At}
use Rattle.colfind_run.specs.declared.faults.Stop.{Stop}
use Rattle.colfind_run.specs.declared.faults.Stop.TheVariants.{Words, File, Tailor, Table, Pattern, TextFile, Text, Read, Write, Memory}
use Rattle.colfind_run.specs.declared.words.SettingsFault.TheVariants as settings
use Rattle.colfind_io.specs.declared.files.FileFault.TheVariants as file
use Rattle.colfind_io.specs.Devices.{with_piece}
use Rattle.colfind_io.specs.Writing.{WritesPrefix}

abbrev pub fault_line : Fault → List ℕ
fault_line Usage = codes "colfind: usage\n"
fault_line (At kind place) = codes "colfind: fault " ++ decimal kind ++ codes " at " ++ decimal place ++ codes "\n"

-- the fault that is reported where the program ends without an answer
abbrev pub fault_of : Stop → Fault
fault_of (Words settings.Usage) = Usage
fault_of (Words settings.Memory) = At 36 0
fault_of (File file.Device) = At 43 0
fault_of (File file.Memory) = At 14 0
fault_of (Tailor file.Device) = At 44 0
fault_of (Tailor file.Memory) = At 14 0
fault_of (Table fault) = At fault.kind fault.line
fault_of (Pattern fault) = At fault.kind 0
fault_of TextFile = At 41 0
fault_of (Text fault) = At fault.kind fault.offset
fault_of (Read count) = At 41 count
fault_of Write = At 42 0
fault_of Memory = At 36 0

-- a prefix of the line of this fault was written, and the whole line unless the writer failed, as its failures before and after show
abbrev pub ReportsLine : Fault → Option (List ℕ) → Option (List ℕ) → ℕ → ℕ → Type 0
ReportsLine fault before after failures_before failures_after =
    WritesPrefix before after (fault_line fault)
    × (failures_after ≡ failures_before → after ≡ with_piece (fault_line fault) before)

-- the line of some fault was written, or as much of it as the writer took
abbrev pub ReportsSomeFault : Option (List ℕ) → Option (List ℕ) → ℕ → ℕ → Type 0
ReportsSomeFault before after failures_before failures_after =
    (fault : Fault) × ReportsLine fault before after failures_before failures_after
