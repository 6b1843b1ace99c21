use Rattle.std.proofs.Common.{◌-◌, ◌≤◌, length}
use Rattle.byte_dfa.specs.Moves.{Follows}
use Rattle.byte_dfa.proofs.MoveLemmas.{cursor_at}
use Rattle.byte_dfa.proofs.moves.run.Given as goal

abbrev pub invariant-bytes : goal.invariant-bytes
invariant-bytes l = record {
  follows : Follows l.cells l.piece l.fn.from (cursor_at l.at l.row l.accepted_at l.accepted_row);
  to : l.fn.from.at ≤ l.to → l.at ≤ l.to;
}

abbrev pub decreases-bytes : goal.decreases-bytes
decreases-bytes l = length l.piece - l.at
