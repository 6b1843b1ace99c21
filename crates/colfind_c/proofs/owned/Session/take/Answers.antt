use Rattle.std.proofs.Common.{refl}
use Rattle.colfind_c.proofs.SessionLemmas.{taken}
use Rattle.colfind_c.proofs.owned.Session.take.Goals as goal

pub returns-clause-taken : goal.returns-clause-taken
returns-clause-taken c = taken c.args.self.now _ refl refl _ c.take.result c.take.new.out refl c.take.ensures.lost c.take.ensures.count c.take.ensures.given
