use Rattle.std.proofs.Common.{rules, refl}
use Rattle.std.specs.Prelude.{Ok, Err}
use Rattle.colfind_c.proofs.SessionLemmas.{when_ok, part_refused, fits_at, fits_again, session_lost, session_fed}
use Rattle.colfind_c.proofs.owned.Session.feed_part.Goals as goal

pub returns-then-is_err : goal.returns-then-is_err
returns-then-is_err c = record { fed = part_refused c.args.self.now _ refl refl c.args.part.now c.args.before refl c.reserve.ensures.same }

pub feed_parked-fed-requires : goal.feed_parked-fed-requires
feed_parked-fed-requires c = record { fits = fits_at c.args.self.now c.in-Some.parked c.deref-query.result.now c.deref.result.now (search rules) c.deref-query.ensures c.deref.ensures }

pub invariant_of-self-2 : goal.invariant_of-self-2
invariant_of-self-2 c = record { asks = c.args.self.now.asks; fits = fits_again c.args.self.now c.in-Some.parked c.deref-query.result.now c.deref.result.now (search rules) c.deref-query.ensures c.deref.ensures c.feed_parked-fed.result.1 c.feed_parked-fed.ensures.fits c.feed_parked-fed.ensures.select; kept = λ x e. search rules }

pub returns-then-self : goal.returns-then-self
returns-then-self c = record {
  fed = session_lost c.args.self.now c.in-Some.parked c.deref-query.result.now c.deref.result.now (search rules) c.deref-query.ensures c.deref.ensures c.reserve.new.self c.feed_parked-fed.new.queue
      c.feed_parked-fed.ensures.fed.0 c.reserve.ensures.same c.feed_parked-fed.ensures.fed.2 c.args.part.now c.args.before c.feed_parked-fed.result.0 c.feed_parked-fed.result.1 _ _ c.feed_parked-fed.ensures.fed.1
      (when_ok c.reserve.result (search rules) c.reserve.ensures.room) (search rules) refl refl refl (search rules);
}

pub returns-in-Ok : goal.returns-in-Ok
returns-in-Ok c = record { fed = session_fed c.args.self.now c.in-Some.parked c.deref-query.result.now c.deref.result.now (search rules) c.deref-query.ensures c.deref.ensures c.reserve.new.self c.feed_parked-fed.new.queue c.feed_parked-fed.ensures.fed.0 c.reserve.ensures.same c.feed_parked-fed.ensures.fed.2 (search rules) c.args.part.now c.args.before (Ok c.in-Ok.field-0) c.feed_parked-fed.result.1 _ (search rules) refl refl refl refl }

pub returns-in-Err : goal.returns-in-Err
returns-in-Err c = record { fed = session_fed c.args.self.now c.in-Some.parked c.deref-query.result.now c.deref.result.now (search rules) c.deref-query.ensures c.deref.ensures c.reserve.new.self c.feed_parked-fed.new.queue c.feed_parked-fed.ensures.fed.0 c.reserve.ensures.same c.feed_parked-fed.ensures.fed.2 (search rules) c.args.part.now c.args.before (Err c.in-Err.fault) c.feed_parked-fed.result.1 _ (search rules) refl refl refl refl }
