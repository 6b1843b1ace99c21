use Rattle.std.proofs.Common.{◌*◌}
use Rattle.byte_dfa.proofs.MoveLemmas.{cell-column}
use Rattle.byte_dfa.proofs.moves.cell_at.Goals as goal

pub returns : goal.returns
returns c = cell-column c.args.cells.now c.args.byte (4 * c.args.row) c.requires
