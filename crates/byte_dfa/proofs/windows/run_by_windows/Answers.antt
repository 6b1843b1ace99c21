use Rattle.std.proofs.Common.{◌+◌, length-set, subst, arith}
use Rattle.byte_dfa.specs.Moves.{MovesLead}
use Rattle.byte_dfa.proofs.MoveLemmas.{follows-moved, follows-on}
use Rattle.byte_dfa.proofs.windows.run_by_windows.Goals as goal

pub overflow_cast-guesses : goal.overflow_cast-guesses
overflow_cast-guesses c = let below = c.in-Some.ensures.below in omega (arith, below)

pub windows-preserved-then-row-guess : goal.windows-preserved-then-row-guess
windows-preserved-then-row-guess c =
    let cells = c.args.cells.now in
    let piece = c.args.piece.now in
    let i = c.windows.invariant in
    let old = c.windows.cursor in
    let new = c.come_to-cursor.result in
    let is = c.come_to-cursor.ensures in
    let window = subst (MovesLead cells piece old.at old.row (old.at + 12)) c.if-row-guess.true c.in-Some.ensures.leads in
    record {
      guesses = i.guesses;
      follows = follows-on cells piece c.args.from old new i.follows (follows-moved cells piece old new (old.at + 12) _ i.follows.order window is.at is.row is.accepted);
    }

pub windows-preserved : goal.windows-preserved
windows-preserved c =
    let cells = c.args.cells.now in
    let piece = c.args.piece.now in
    let i = c.windows.invariant in
    let old = c.windows.cursor in
    let new = c.come_to-cursor-else-row-guess.result in
    let is = c.come_to-cursor-else-row-guess.ensures in
    let row = c.in-Some.row in
    record {
      guesses = let guesses = i.guesses in omega (arith, guesses, length-set c.windows.guesses c.place_of-place.result row);
      follows = follows-on cells piece c.args.from old new i.follows (follows-moved cells piece old new (old.at + 12) row i.follows.order c.in-Some.ensures.leads is.at is.row is.accepted);
    }
