use Rattle.std.proofs.Common.{rules, refl}
use Rattle.colfind_c.proofs.SessionLemmas.{begun_session}
use Rattle.colfind_c.proofs.owned.Session.begin_again.Goals as goal

pub returns-clause-begun : goal.returns-clause-begun
returns-clause-begun c = begun_session c.args.self.now c.in-Some.parked c.deref-query.result.now c.deref.result.now (search rules) c.deref-query.ensures c.deref.ensures
    c.begin_parked.result _ c.begin_parked.ensures.stands refl refl refl c.clear.ensures.kept c.clear.ensures.empty
