use Rattle.std.specs.Prelude.{◌≤◌, ◌-◌}
use Rattle.byte_blocks.specs.TwoBytes.{Pass}
use Rattle.byte_blocks.proofs.two_bytes.going_len.Given as goal

abbrev pub invariant-loop-len : goal.invariant-loop-len
invariant-loop-len l = record {
  within : l.len ≤ l.limit;
  passes : Pass l.sets l.piece l.len;
  some : 2 ≤ l.len;
}

abbrev pub decreases-loop-len : goal.decreases-loop-len
decreases-loop-len l = l.limit - l.len
