use Rattle.std.proofs.Common.{refl}
use Rattle.collation_skip.proofs.RowLemmas.{right-same}
use Rattle.collation_skip.proofs.automaton.Automaton.row_behind.Goals as goal

pub returns-clause-right : goal.returns-clause-right
returns-clause-right g c =
    let table = g.W.Weights.table c.args.table.now in
    let a = c.args.self.now in
    c.row_of.ensures.right table c.args.pattern.now (right-same table c.args.pattern.now a (record a { keeping = c.state_after.new.keeping }) refl refl c.requires.right)
