use Rattle.std.proofs.Common.{◌+◌, arith}
use Rattle.byte_dfa.proofs.MoveLemmas.{may-more, may-none}
use Rattle.byte_dfa.proofs.windows.move_window.Goals as goal

pub moves-init : goal.moves-init
moves-init c =
    record {
      within = omega arith;
      below = λ some. absurd (omega (arith, some));
      leads = may-none c.args.cells.now c.args.piece.now c.args.at c.args.row (c.args.at + 0) (omega arith) c.requires.spot;
    }

pub moves-preserved : goal.moves-preserved
moves-preserved c =
    let here = c.args.at + c.moves.moves in
    record {
      within = omega (arith, c.moves-test.true);
      below = λ some. c.cell_at-now.type_inv;
      leads = may-more c.args.cells.now c.args.piece.now c.args.at c.args.row here c.moves.now (c.args.at + (c.moves.moves + 1)) c.cell_at-now.result c.requires.cells (omega arith) (omega (arith, c.moves-test.true, c.requires.within))
          (c.type_inv.piece here).fits c.cell_at-now.ensures c.moves.invariant.leads;
    }
