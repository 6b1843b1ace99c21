use Rattle.collation_table.proofs.Cuts.{position-from_first}
use Rattle.collation_table.proofs.pieces.place_of.Goals as goal

pub returns : goal.returns
returns c = position-from_first c.args.byte c.args.bytes.now c.memchr.result c.memchr.ensures
