use Rattle.std.proofs.Common.{◌≡◌, ◌↔◌, length}
use Rattle.collation_pattern.specs.LevelWeights.{level_weights}
use Rattle.collation_pattern.specs.Readers.{weights_left}
use Rattle.collation_pattern.proofs.level_weights.same_level.Given as goal

-- what is left decides
abbrev pub invariant-loop-one : goal.invariant-loop-one
invariant-loop-one l =
    (level_weights l.at l.left ≡ level_weights l.at l.right) ↔ (weights_left l.at l.one ≡ weights_left l.at l.other)

abbrev pub decreases-loop-one : goal.decreases-loop-one
decreases-loop-one l = length (weights_left l.at l.one)
