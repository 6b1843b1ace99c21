use Rattle.std.proofs.Common.{◌-◌, length}
use Rattle.byte_dfa.specs.Moves.{Follows}
use Rattle.byte_dfa.proofs.windows.run_to_end.Given as goal

-- windows went on from a cursor to another, and single moves from there
abbrev pub invariant-legs : goal.invariant-legs
invariant-legs l = record {
  begun : Follows l.cells l.piece l.fn.from l.begun;
  near : Follows l.cells l.piece l.begun l.near;
  moves : Follows l.cells l.piece l.near l.cursor;
}

abbrev pub decreases-legs : goal.decreases-legs
decreases-legs l = length l.piece - l.cursor.at
