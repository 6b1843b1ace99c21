use Rattle.std.proofs.Common.{◌+◌, ◌-◌, ◌<◌, ◌≤◌}
use Rattle.byte_dfa.proofs.MoveLemmas.{MayLead}
use Rattle.byte_dfa.proofs.windows.move_window.Given as goal

abbrev pub invariant-moves : goal.invariant-moves
invariant-moves l = record {
  within : l.moves ≤ 12;
  below : 0 < l.moves → l.now < 65536;
  leads : MayLead l.cells l.piece l.at l.row (l.at + l.moves) l.now;
}

abbrev pub decreases-moves : goal.decreases-moves
decreases-moves l = 12 - l.moves
