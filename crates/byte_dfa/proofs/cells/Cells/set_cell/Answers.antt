use Rattle.std.proofs.Common.{ℕ, ◌+◌, ◌*◌, List, slice_set, ap}
use Rattle.byte_dfa.proofs.cells.Cells.set_cell.Goals as goal

pub returns : goal.returns
returns c = ap (λ (cells : List ℕ). slice_set cells (4 * c.args.row + c.args.byte) c.args.cell) c.self.view_is
