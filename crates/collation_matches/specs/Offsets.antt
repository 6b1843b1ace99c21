-- The answer to the rest of a text from an offset on, its own offsets counted from the beginning of
-- the text.
use Rattle.std.specs.Prelude.{ℕ, ◌+◌, List, drop, map, Option, None, Some}
use Rattle.collation_matches.specs.declared.faults.TextFault.{TextFault}
use Rattle.collation_matches.specs.Answer.{Answer}
use Rattle.collation_matches.specs.Sought.{Sought, answer_to}

abbrev pub range_moved : ℕ → ℕ × ℕ → ℕ × ℕ
range_moved by range = (by + range.0, by + range.1)

abbrev pub text_fault_moved : ℕ → TextFault → TextFault
text_fault_moved by at = record { kind = at.kind; offset = by + at.offset }

abbrev pub fault_moved : ℕ → Option TextFault → Option TextFault
fault_moved by None = None
fault_moved by (Some at) = Some (text_fault_moved by at)

abbrev pub answer_moved : ℕ → Answer → Answer
answer_moved by a = record { ranges = map (range_moved by) a.ranges; fault = fault_moved by a.fault }

-- the answer to what stands from the offset on, taken as a text by itself; behind the end that is the
-- empty text
abbrev pub answer_from : Sought → List ℕ → List ℕ → ℕ → Answer
answer_from s text bytes from = answer_moved from (answer_to s text (drop from bytes))
