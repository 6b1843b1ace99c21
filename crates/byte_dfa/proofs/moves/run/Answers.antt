use Rattle.std.proofs.Common.{◌+◌, ◌≤◌, inl, inr, refl, subst, arith}
use Rattle.byte_dfa.specs.declared.moves.TheConstants.{STOP}
use Rattle.byte_dfa.proofs.MoveLemmas.{cursor_at, follows-moved, follows-none, follows-on, leads-one}
use Rattle.byte_dfa.proofs.moves.run.Goals as goal

pub bytes-init : goal.bytes-init
bytes-init c = record { follows = follows-none c.args.cells.now c.args.piece.now c.args.from c.requires.cursor; to = λ before. before }

pub cell_at-cell-requires : goal.cell_at-cell-requires
cell_at-cell-requires c =
    let here = c.bytes.invariant.follows.here.spot.has_row in
    let byte = (c.type_inv.piece c.bytes.at).fits in
    omega (arith, here, byte)

pub bytes-preserved-then-row-eq1 : goal.bytes-preserved-then-row-eq1
bytes-preserved-then-row-eq1 c =
    let cells = c.args.cells.now in
    let piece = c.args.piece.now in
    let at = c.bytes.at in
    let cell = c.cell_at-cell.result in
    let i = c.bytes.invariant in
    let old = cursor_at at c.bytes.row c.bytes.accepted_at c.bytes.accepted_row in
    let new = cursor_at (at + 1) cell (at + 1) cell in
    let one = leads-one cells piece at c.bytes.row cell c.requires.cells (omega (arith, c.bytes-test.true, c.requires.to)) (c.type_inv.piece at).fits c.cell_at-cell.ensures c.if-cell-le-STOP.false i.follows.here.spot in
    record {
      follows = follows-on cells piece c.args.from old new i.follows (follows-moved cells piece old new (at + 1) cell i.follows.order one refl refl (inr (refl, refl, c.if-row-eq1.true)));
      to = λ before. omega (arith, c.bytes-test.true);
    }

pub bytes-preserved : goal.bytes-preserved
bytes-preserved c =
    let cells = c.args.cells.now in
    let piece = c.args.piece.now in
    let at = c.bytes.at in
    let cell = c.cell_at-cell.result in
    let i = c.bytes.invariant in
    let old = cursor_at at c.bytes.row c.bytes.accepted_at c.bytes.accepted_row in
    let new = cursor_at (at + 1) cell c.bytes.accepted_at c.bytes.accepted_row in
    let one = leads-one cells piece at c.bytes.row cell c.requires.cells (omega (arith, c.bytes-test.true, c.requires.to)) (c.type_inv.piece at).fits c.cell_at-cell.ensures c.if-cell-le-STOP.false i.follows.here.spot in
    record {
      follows = follows-on cells piece c.args.from old new i.follows (follows-moved cells piece old new (at + 1) cell i.follows.order one refl refl (inl (refl, refl)));
      to = λ before. omega (arith, c.bytes-test.true);
    }

pub returns-after-bytes-clause-follows : goal.returns-after-bytes-clause-follows
returns-after-bytes-clause-follows c = c.bytes.invariant.follows

pub returns-after-bytes-clause-to : goal.returns-after-bytes-clause-to
returns-after-bytes-clause-to c = c.bytes.invariant.to

pub returns-after-bytes-clause-end : goal.returns-after-bytes-clause-end
returns-after-bytes-clause-end c = inl (let done = c.bytes-test.false in omega (arith, done))

pub returns-then-cell-le-STOP-clause-end : goal.returns-then-cell-le-STOP-clause-end
returns-then-cell-le-STOP-clause-end c = inr (subst (λ cell. cell ≤ STOP) c.cell_at-cell.ensures c.if-cell-le-STOP.true)

pub returns-then-cell-le-STOP-clause-follows : goal.returns-then-cell-le-STOP-clause-follows
returns-then-cell-le-STOP-clause-follows c = c.bytes.invariant.follows

pub returns-then-cell-le-STOP-clause-to : goal.returns-then-cell-le-STOP-clause-to
returns-then-cell-le-STOP-clause-to c = c.bytes.invariant.to
