use Rattle.std.proofs.Common.{sym, subst}
use Rattle.collation_finder.specs.Caches.{IsCacheRight}
use Rattle.collation_search.proofs.search.Search.is_for_one_text.Goals as goal

pub invariant_of-self-clause-right : goal.invariant_of-self-clause-right
invariant_of-self-clause-right g c =
    let search = c.args.self.now in
    let table = g.W.Weights.table search.query.table.now in
    c.prepare.ensures table search.query.pattern.now (subst (IsCacheRight table search.query.pattern.now) (sym c.deref_mut.ensures.value) search.right)
