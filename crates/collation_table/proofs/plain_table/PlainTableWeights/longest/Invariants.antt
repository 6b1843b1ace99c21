-- No mapped prefix is longer.
use Rattle.std.proofs.Common.{◌≡◌, ◌≤◌, length}
use Rattle.collation_table.specs.Table.{longest_prefix, longest_prefix_within}
use Rattle.collation_table.proofs.plain_table.PlainTableWeights.longest.Given as goal

abbrev pub invariant-loop-length : goal.invariant-loop-length
invariant-loop-length l = record {
  within : l.length ≤ length l.points;
  longest : longest_prefix_within l.self.rows l.points l.length ≡ longest_prefix l.self.rows l.points;
}

abbrev pub decreases-loop-length : goal.decreases-loop-length
decreases-loop-length l = l.length
