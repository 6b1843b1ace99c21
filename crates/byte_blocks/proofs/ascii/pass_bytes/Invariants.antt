use Rattle.std.specs.Prelude.{◌≤◌, ◌-◌}
use Rattle.byte_blocks.specs.Ascii.{Passes}
use Rattle.byte_blocks.proofs.ascii.pass_bytes.Given as goal

abbrev pub invariant-loop-len : goal.invariant-loop-len
invariant-loop-len l = record {
  within : l.len ≤ l.limit;
  passes : Passes l.sets l.piece l.len;
  some : 1 ≤ l.len;
}

abbrev pub decreases-loop-len : goal.decreases-loop-len
decreases-loop-len l = l.limit - l.len
