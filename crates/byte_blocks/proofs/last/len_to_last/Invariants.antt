use Rattle.std.specs.Prelude.{◌≤◌}
use Rattle.byte_blocks.specs.Sets.{HasNone}
use Rattle.byte_blocks.proofs.last.len_to_last.Given as goal

abbrev pub invariant-loop-end : goal.invariant-loop-end
invariant-loop-end l = record {
  within : l.end ≤ l.len;
  nothing : HasNone l.set l.bytes l.end l.len;
}

abbrev pub decreases-loop-end : goal.decreases-loop-end
decreases-loop-end l = l.end

abbrev pub invariant-loop-end-2 : goal.invariant-loop-end-2
invariant-loop-end-2 l = record {
  within : l.end ≤ l.len;
  nothing : HasNone l.set l.bytes l.end l.len;
}

abbrev pub decreases-loop-end-2 : goal.decreases-loop-end-2
decreases-loop-end-2 l = l.end
