use Rattle.std.specs.Prelude.{◌≡◌, ◌≤◌, ◌-◌, slice_index}
use Rattle.byte_blocks.specs.Ascii.{Passes}
use Rattle.byte_blocks.specs.Sets.{in_set}
use Rattle.byte_blocks.proofs.ascii.pass_by_keys.Given as goal

abbrev pub invariant-loop-len : goal.invariant-loop-len
invariant-loop-len l = record {
  within : l.len ≤ l.limit;
  passes : Passes l.sets l.piece l.len;
  some : 1 ≤ l.len;
  keys : in_set l.sets.key (slice_index l.piece (l.len - 1)) ≡ slice_index l.before 15;
}

abbrev pub decreases-loop-len : goal.decreases-loop-len
decreases-loop-len l = l.limit - l.len
