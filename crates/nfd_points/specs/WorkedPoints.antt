-- A point in one line, for points that are written out.
use Rattle.std.specs.Prelude.{ℕ, Bool}
use Rattle.nfd_points.specs.declared.points.Point.{Point}

-- a code point, its class, the byte offset of the code point that it comes from, and whether it is the first one of it
abbrev pub worked_point : ℕ → ℕ → ℕ → Bool → Point
worked_point code class start is_first = record { cp = code; ccc = class; offset = start; first = is_first }
