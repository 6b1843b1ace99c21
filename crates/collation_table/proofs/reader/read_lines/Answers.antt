use Rattle.std.proofs.Common.{arith}
use Rattle.collation_table.proofs.FileFaults.{AfterLines-line}
use Rattle.collation_table.specs.Reading.{earlier_ranges}
use Rattle.collation_table.proofs.reader.read_lines.Goals as goal

pub loop-rest-preserved : goal.loop-rest-preserved
loop-rest-preserved g c = record {
  so_far = AfterLines-line c.args.earlier.ranges (earlier_ranges c.args.file) c.args.bytes.now c.loop-rest.rest.now c.first_line.result.0.now c.first_line.result.1.now c.loop-rest.number c.loop-rest.rows _ c.requires.ranges c.first_line.ensures.lines c.loop-rest.invariant.so_far c.in_ok-read_line.ensures.right c.in_ok-read_line.ensures.rows;
  counted = omega arith;
}
