-- What may still be the longest.
use Rattle.std.proofs.Common.{◌≤◌, length}
use Rattle.collation_pattern.proofs.BorderLemmas.{IsCandidate}
use Rattle.collation_pattern.proofs.borders.state_after.Given as goal

abbrev pub invariant-candidates : goal.invariant-candidates
invariant-candidates l = record {
  candidate : IsCandidate l.keys l.state l.key l.candidate;
  known : l.candidate ≤ length l.borders;
}

abbrev pub decreases-candidates : goal.decreases-candidates
decreases-candidates l = l.candidate
