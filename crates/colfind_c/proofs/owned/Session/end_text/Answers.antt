use Rattle.std.proofs.Common.{rules, refl}
use Rattle.std.specs.Prelude.{Ok, Err}
use Rattle.collation_walk.specs.declared.matching.TheConstants.{MOST_FOUND}
use Rattle.colfind_c.proofs.SessionLemmas.{when_ok, fits_again, all_kept, session_ended}
use Rattle.colfind_c.proofs.owned.Session.end_text.Goals as goal

pub invariant_of-self-2 : goal.invariant_of-self-2
invariant_of-self-2 c = record {
  asks = c.args.self.now.asks;
  fits = fits_again c.args.self.now c.in-Some.parked c.deref-query.result.now c.deref.result.now (search rules) c.deref-query.ensures c.deref.ensures c.end_parked-ended.result.1 c.end_parked-ended.ensures.fits c.end_parked-ended.ensures.select;
  kept = λ x e. all_kept c.args.self.now c.in-Some.parked c.deref-query.result.now c.deref.result.now (search rules) c.deref-query.ensures c.deref.ensures c.reserve.new.self c.end_parked-ended.new.queue c.end_parked-ended.ensures.finished.0 c.reserve.ensures.same c.end_parked-ended.ensures.finished.2 MOST_FOUND (when_ok c.reserve.result (search rules) c.reserve.ensures.room) c.end_parked-ended.ensures.finished.3;
}

pub returns-in-Ok : goal.returns-in-Ok
returns-in-Ok c = record {
  ended = session_ended c.args.self.now c.in-Some.parked c.deref-query.result.now c.deref.result.now (search rules) c.deref-query.ensures c.deref.ensures c.reserve.new.self c.end_parked-ended.new.queue c.end_parked-ended.ensures.finished.0 c.reserve.ensures.same c.end_parked-ended.ensures.finished.2
      (all_kept c.args.self.now c.in-Some.parked c.deref-query.result.now c.deref.result.now (search rules) c.deref-query.ensures c.deref.ensures c.reserve.new.self c.end_parked-ended.new.queue c.end_parked-ended.ensures.finished.0 c.reserve.ensures.same c.end_parked-ended.ensures.finished.2 MOST_FOUND (when_ok c.reserve.result (search rules) c.reserve.ensures.room) c.end_parked-ended.ensures.finished.3)
      (Ok c.in-Ok.field-0) c.end_parked-ended.result.1 _ (search rules) refl refl refl refl;
}

pub returns-in-Err : goal.returns-in-Err
returns-in-Err c = record {
  ended = session_ended c.args.self.now c.in-Some.parked c.deref-query.result.now c.deref.result.now (search rules) c.deref-query.ensures c.deref.ensures c.reserve.new.self c.end_parked-ended.new.queue c.end_parked-ended.ensures.finished.0 c.reserve.ensures.same c.end_parked-ended.ensures.finished.2
      (all_kept c.args.self.now c.in-Some.parked c.deref-query.result.now c.deref.result.now (search rules) c.deref-query.ensures c.deref.ensures c.reserve.new.self c.end_parked-ended.new.queue c.end_parked-ended.ensures.finished.0 c.reserve.ensures.same c.end_parked-ended.ensures.finished.2 MOST_FOUND (when_ok c.reserve.result (search rules) c.reserve.ensures.room) c.end_parked-ended.ensures.finished.3)
      (Err c.in-Err.fault) c.end_parked-ended.result.1 _ (search rules) refl refl refl refl;
}
