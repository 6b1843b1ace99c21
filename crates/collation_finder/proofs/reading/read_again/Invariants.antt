use Rattle.std.specs.Str.{chars, IsUtf8}
use Rattle.std.proofs.Common.{◌≤◌, ◌-◌, length, take}
use Rattle.collation_letters.specs.Clusters.{IsCluster}
use Rattle.collation_letters.specs.Letters.{ordered_from}
use Rattle.collation_letters.specs.Store.{AreLetters}
use Rattle.collation_finder.proofs.reading.read_again.Given as goal

-- the characters so far are this cluster
abbrev pub invariant-marks : goal.invariant-marks
invariant-marks g l = record {
  within : l.at ≤ length l.so_far;
  text : IsUtf8 (take l.at l.so_far);
  cluster : IsCluster (g.W.Weights.table l.query.table.now) l.query.pattern.now (ordered_from 0 (chars (take l.at l.so_far))) l.cluster;
  right : AreLetters (g.W.Weights.table l.query.table.now) l.query.pattern.now l.letters;
}

abbrev pub decreases-marks : goal.decreases-marks
decreases-marks g l = length l.so_far - l.at
