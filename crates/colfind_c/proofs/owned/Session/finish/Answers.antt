use Rattle.std.proofs.Common.{rules, refl}
use Rattle.std.specs.Prelude.{Ok, Err}
use Rattle.collation_walk.specs.declared.matching.TheConstants.{MOST_FOUND}
use Rattle.colfind_c.proofs.SessionLemmas.{when_ok, finish_refused, fits_at, all_kept, session_finished}
use Rattle.colfind_c.proofs.owned.Session.finish.Goals as goal

pub returns-then-is_err : goal.returns-then-is_err
returns-then-is_err c = record { finished = finish_refused c.args.self.now _ refl refl refl c.reserve.ensures.same }

pub finish_parked-ended-requires : goal.finish_parked-ended-requires
finish_parked-ended-requires c = record { fits = fits_at c.args.self.now c.in-Some.parked c.deref-query.result.now c.deref.result.now (search rules) c.deref-query.ensures c.deref.ensures }

pub returns-in-Ok : goal.returns-in-Ok
returns-in-Ok c = record {
  finished = session_finished c.args.self.now c.in-Some.parked c.deref-query.result.now c.deref.result.now (search rules) c.deref-query.ensures c.deref.ensures c.reserve.new.self c.finish_parked-ended.new.queue c.finish_parked-ended.ensures.finished.0 c.reserve.ensures.same c.finish_parked-ended.ensures.finished.2
      (all_kept c.args.self.now c.in-Some.parked c.deref-query.result.now c.deref.result.now (search rules) c.deref-query.ensures c.deref.ensures c.reserve.new.self c.finish_parked-ended.new.queue c.finish_parked-ended.ensures.finished.0 c.reserve.ensures.same c.finish_parked-ended.ensures.finished.2 MOST_FOUND (when_ok c.reserve.result (search rules) c.reserve.ensures.room) c.finish_parked-ended.ensures.finished.3)
      (Ok c.in-Ok.field-0) _ (search rules) refl refl (search rules) refl;
}

pub returns-in-Err : goal.returns-in-Err
returns-in-Err c = record {
  finished = session_finished c.args.self.now c.in-Some.parked c.deref-query.result.now c.deref.result.now (search rules) c.deref-query.ensures c.deref.ensures c.reserve.new.self c.finish_parked-ended.new.queue c.finish_parked-ended.ensures.finished.0 c.reserve.ensures.same c.finish_parked-ended.ensures.finished.2
      (all_kept c.args.self.now c.in-Some.parked c.deref-query.result.now c.deref.result.now (search rules) c.deref-query.ensures c.deref.ensures c.reserve.new.self c.finish_parked-ended.new.queue c.finish_parked-ended.ensures.finished.0 c.reserve.ensures.same c.finish_parked-ended.ensures.finished.2 MOST_FOUND (when_ok c.reserve.result (search rules) c.reserve.ensures.room) c.finish_parked-ended.ensures.finished.3)
      (Err c.in-Err.fault) _ (search rules) refl refl (search rules) refl;
}
