use Rattle.std.specs.Prelude.{◌≡◌}
use Rattle.collation_skip.proofs.classes.classes_at.Given as goal

abbrev pub invariant-loop-byte : goal.invariant-loop-byte
invariant-loop-byte l = l.classes.place ≡ l.place
