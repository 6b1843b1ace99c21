use Rattle.std.specs.Prelude.{◌<◌, length}
use Rattle.collation_skip.proofs.classes.best_place.Given as goal

abbrev pub invariant-loop-place : goal.invariant-loop-place
invariant-loop-place l = l.best < length l.pattern.keys
