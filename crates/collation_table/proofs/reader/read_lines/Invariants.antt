-- The rows are those of the lines so far, none of which is at fault, after the ranges of an earlier file, and the rest has the lines after them. Each line took a
-- byte at least.
use Rattle.std.proofs.Common.{◌+◌, ◌≤◌, length}
use Rattle.collation_table.specs.Faults.{forms_of}
use Rattle.collation_table.proofs.FileFaults.{AfterLines}
use Rattle.collation_table.proofs.reader.read_lines.Given as goal

abbrev pub invariant-loop-rest : goal.invariant-loop-rest
invariant-loop-rest g l = record {
  so_far : AfterLines l.fn.earlier.ranges (forms_of l.bytes) (forms_of l.rest) l.number l.rows;
  counted : l.number + length l.rest ≤ length l.bytes;
}

abbrev pub decreases-loop-rest : goal.decreases-loop-rest
decreases-loop-rest g l = length l.rest
