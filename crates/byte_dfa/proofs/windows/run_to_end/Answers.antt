use Rattle.byte_dfa.proofs.MoveLemmas.{come-cursor, follows-none, follows-on}
use Rattle.byte_dfa.proofs.windows.run_to_end.Goals as goal

-- windows go on from where single moves came
pub legs-preserved-then-cursor-near : goal.legs-preserved-then-cursor-near
legs-preserved-then-cursor-near c =
    let cells = c.args.cells.now in
    let piece = c.args.piece.now in
    let from = c.args.from in
    let l = c.legs in
    let i = l.invariant in
    let come = c.run-cursor.result in
    let near = c.run_by_windows-near-then-cursor-near in
    record {
      begun = follows-on cells piece from l.begun come i.begun (follows-on cells piece l.begun l.near come i.near (follows-on cells piece l.near l.cursor come i.moves c.run-cursor.ensures.follows));
      near = near.ensures;
      moves = follows-none cells piece near.result (come-cursor cells piece come near.result near.ensures);
    }

pub legs-preserved : goal.legs-preserved
legs-preserved c =
    let l = c.legs in
    record {
      begun = l.invariant.begun;
      near = l.invariant.near;
      moves = follows-on c.args.cells.now c.args.piece.now l.near l.cursor c.run-cursor.result l.invariant.moves c.run-cursor.ensures.follows;
    }

pub noted-requires-clause-end : goal.noted-requires-clause-end
noted-requires-clause-end c = follows-on c.args.cells.now c.args.piece.now c.legs.near c.legs.cursor c.run-cursor.result c.legs.invariant.moves c.run-cursor.ensures.follows

pub returns-clause-follows : goal.returns-clause-follows
returns-clause-follows c = follows-on c.args.cells.now c.args.piece.now c.args.from c.legs.begun c.noted.result c.legs.invariant.begun c.noted.ensures.follows
