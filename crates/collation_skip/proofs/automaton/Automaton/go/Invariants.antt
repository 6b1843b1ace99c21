use Rattle.std.proofs.Common.{◌≤◌, ◌<◌, ◌-◌, length}
use Rattle.byte_dfa.specs.Moves.{IsCursor}
use Rattle.collation_letters.specs.Store.{AreLetters}
use Rattle.collation_skip.specs.Rows.{AreRowsRight, Stands}
use Rattle.collation_skip.proofs.automaton.Automaton.go.Given as goal

-- the row where the cursor stands is that of a state that was reached, and so is the one where it accepted
abbrev pub invariant-moves : goal.invariant-moves
invariant-moves g l = record {
  right : AreRowsRight (g.W.Weights.table l.table) l.pattern l.self;
  letters : AreLetters (g.W.Weights.table l.table) l.pattern l.letters;
  cursor : IsCursor l.self.cells l.piece l.cursor;
  stands : Stands (g.W.Weights.table l.table) l.pattern l.self l.piece l.cursor.at l.cursor.row;
  passed : 0 < l.cursor.accepted_at → (l.cursor.accepted_at ≤ length l.piece) × Stands (g.W.Weights.table l.table) l.pattern l.self l.piece l.cursor.accepted_at l.cursor.accepted_row;
}

abbrev pub decreases-moves : goal.decreases-moves
decreases-moves g l = length l.piece - l.cursor.at
