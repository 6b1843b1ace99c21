-- What a part of a text has, and all parts together.
use Rattle.std.specs.Prelude.{ℕ, ◌++◌, List, [], ◌∷◌, length, Option, None, is_none, if◌then◌else◌}
use Rattle.collation_matches.specs.declared.faults.TextFault.{TextFault}
use Rattle.collation_matches.specs.Answer.{Answer}
use Rattle.collation_matches.specs.Offsets.{answer_from}
use Rattle.collation_matches.specs.PartLaws.{ranges_before, is_at_fault_by}
use Rattle.collation_matches.specs.Sought.{Sought}

-- the fault if it stands at an offset or before it
abbrev pub fault_by : ℕ → Option TextFault → Option TextFault
fault_by offset fault = if is_at_fault_by offset fault then fault else None

-- What the part of a text between two offsets has: of the rest from the one on, searched as a text by itself, the ranges that begin before
-- the other, and the fault if it stands there or before it.
abbrev pub part_answer : Sought → List ℕ → List ℕ → ℕ → ℕ → Answer
part_answer s text bytes from to =
    let here = answer_from s text bytes from in record { ranges = ranges_before to here.ranges; fault = fault_by to here.fault }

-- the ranges of the parts between these cuts one behind another, and the first fault, with which they end; the last part goes to the end
abbrev pub answer_in_parts : Sought → List ℕ → List ℕ → ℕ → List ℕ → Answer
answer_in_parts s text bytes from [] = part_answer s text bytes from (length bytes)
answer_in_parts s text bytes from (cut ∷ cuts) =
    let here = part_answer s text bytes from cut in
    let later = answer_in_parts s text bytes cut cuts in
    let both : Answer = record { ranges = here.ranges ++ later.ranges; fault = later.fault } in
    if is_none here.fault then both else here
