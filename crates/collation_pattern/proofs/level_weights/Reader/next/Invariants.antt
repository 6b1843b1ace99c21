use Rattle.std.proofs.Common.{◌≡◌, length}
use Rattle.collation_pattern.specs.Readers.{weights_left}
use Rattle.collation_pattern.proofs.level_weights.Reader.next.Given as goal

-- nothing but zeros was passed over
abbrev pub invariant-loop-key : goal.invariant-loop-key
invariant-loop-key l = (l.self.pending ≡ 0) × (weights_left l.at l.self ≡ weights_left l.at l.fn.self)

abbrev pub decreases-loop-key : goal.decreases-loop-key
decreases-loop-key l = length l.self.keys.now
