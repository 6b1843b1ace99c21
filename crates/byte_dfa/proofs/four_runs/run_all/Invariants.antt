use Rattle.std.proofs.Common.{◌-◌, length}
use Rattle.byte_dfa.specs.Runs.{HaveRun}
use Rattle.byte_dfa.proofs.four_runs.run_all.Given as goal

abbrev pub invariant-strides : goal.invariant-strides
invariant-strides l = HaveRun l.cells l.piece l.begun l.now

abbrev pub decreases-strides : goal.decreases-strides
decreases-strides l = length l.piece - l.now.fourth.at
