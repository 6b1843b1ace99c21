use Rattle.std.proofs.Common.{inl, refl, arith}
use Rattle.byte_dfa.proofs.MoveLemmas.{cursor_at, follows-on, leads-from}
use Rattle.byte_dfa.proofs.four_runs.join.Goals as goal

pub returns : goal.returns
returns c =
    let cells = c.args.cells.now in
    let piece = c.args.piece.now in
    let come = c.run-come.result in
    let begun = c.args.begun in
    let ended = c.args.ended in
    let run = c.requires.run in
    let on = run.on in
    let order = c.run-come.ensures.follows.order in
    follows-on cells piece c.args.from come (cursor_at ended.at ended.row come.accepted_at come.accepted_row) c.run-come.ensures.follows
    record {
      here = leads-from cells piece begun.at begun.row come.at come.row ended.at ended.row c.if-come-begun.false c.if-come-begun-2.false run;
      order = omega (arith, order, on, c.if-come-begun.false);
      accepted = inl (refl, refl);
    }
