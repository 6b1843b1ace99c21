use Rattle.std.proofs.Common.{◌-◌, ◌≤◌}
use Rattle.byte_dfa.proofs.RunLemmas.{MayRun}
use Rattle.byte_dfa.proofs.four_runs.move_all.Given as goal

abbrev pub invariant-moves : goal.invariant-moves
invariant-moves l = record {
  within : l.moves ≤ l.len;
  first : MayRun l.cells l.piece l.from.first l.moves l.first;
  second : MayRun l.cells l.piece l.from.second l.moves l.second;
  third : MayRun l.cells l.piece l.from.third l.moves l.third;
  fourth : MayRun l.cells l.piece l.from.fourth l.moves l.fourth;
}

abbrev pub decreases-moves : goal.decreases-moves
decreases-moves l = l.len - l.moves
