-- The code points that stop a text: a decomposition of more than 4 code points (UAX #15 has 4 as the greatest expansion),
-- and a run of more than 30 non-starters (UAX #15, Stream-Safe Text), here counted over canonical decompositions.
use Rattle.std.specs.Prelude.{ℕ, ◌+◌, nat_lt, List, [], ◌∷◌, length, Option, Some, None, if◌then◌else◌}
use Rattle.std.specs.Char.{len_utf8}
use Rattle.unicode_normalization.specs.Order.{is_nonstarter}
use Rattle.unicode_normalization.specs.StreamSafe.{has_short_runs}
use Rattle.nfd_points.specs.declared.limits.TheConstants.{MOST_DECOMPOSITION}
use Rattle.nfd_points.specs.Points.{decomposition}

-- how many non-starters in a row stand at the end of decomposed text, with the `run` before it
unfoldable pub run_after : ℕ → List ℕ → ℕ
run_after run [] = run
run_after run (d ∷ ds) = let longer = run_after (run + 1) ds in let anew = run_after 0 ds in if is_nonstarter d then longer else anew

-- the kind of the fault of a code point with this decomposition, with the run of non-starters before it: 33 where it is
-- too long, and else 32 where it brings a non-starter too many in a row
abbrev pub part_fault : ℕ → List ℕ → Option ℕ
part_fault run ds =
    if nat_lt MOST_DECOMPOSITION (length ds) then Some 33
    else if has_short_runs run ds then None
    else Some 32

-- the kind of the fault that stands at a code point
unfoldable pub fault_of_code_point : ℕ → ℕ → Option ℕ
fault_of_code_point run c = part_fault run (decomposition c)

-- the first fault of code points from an offset on, with the run before them: its offset and its kind
unfoldable pub fault_from : ℕ → ℕ → List ℕ → Option (ℕ × ℕ)
fault_from start run [] = None
fault_from start run (c ∷ cs) =
    elim (fault_of_code_point run c) [
      | Some kind ↦ Some (start, kind)
      | None ↦ fault_from (start + len_utf8 c) (run_after run (decomposition c)) cs
    ]

-- the first fault of a text of these code points: its byte offset and its kind
abbrev pub point_fault : List ℕ → Option (ℕ × ℕ)
point_fault = fault_from 0 0
