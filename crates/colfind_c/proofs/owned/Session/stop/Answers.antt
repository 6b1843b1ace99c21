use Rattle.std.proofs.Common.{rules, refl}
use Rattle.collation_walk.specs.declared.matching.TheConstants.{MOST_FOUND}
use Rattle.colfind_c.proofs.SessionLemmas.{when_ok, stop_refused, fits_at, all_kept, session_stopped}
use Rattle.colfind_c.proofs.owned.Session.stop.Goals as goal

pub returns-then-is_err : goal.returns-then-is_err
returns-then-is_err c = record { stopped = stop_refused c.args.self.now _ refl refl refl c.reserve.ensures.same }

pub stop_parked-requires : goal.stop_parked-requires
stop_parked-requires c = record { fits = fits_at c.args.self.now c.in-Some.parked c.deref-query.result.now c.deref.result.now (search rules) c.deref-query.ensures c.deref.ensures }

pub returns : goal.returns
returns c = record {
  stopped = session_stopped c.args.self.now c.in-Some.parked c.deref-query.result.now c.deref.result.now (search rules) c.deref-query.ensures c.deref.ensures c.reserve.new.self c.stop_parked.new.queue c.stop_parked.ensures.settled.0 c.reserve.ensures.same c.stop_parked.ensures.settled.3
      (all_kept c.args.self.now c.in-Some.parked c.deref-query.result.now c.deref.result.now (search rules) c.deref-query.ensures c.deref.ensures c.reserve.new.self c.stop_parked.new.queue c.stop_parked.ensures.settled.0 c.reserve.ensures.same c.stop_parked.ensures.settled.3 MOST_FOUND (when_ok c.reserve.result (search rules) c.reserve.ensures.room) c.stop_parked.ensures.settled.4)
      _ c.stop_parked.ensures.settled.1 c.stop_parked.ensures.settled.2 refl refl (search rules) refl;
}
