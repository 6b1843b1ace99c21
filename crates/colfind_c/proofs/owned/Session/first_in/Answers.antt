use Rattle.std.proofs.Common.{rules, refl}
use Rattle.colfind_c.proofs.SessionLemmas.{fits_again, first_found, first_failed}
use Rattle.colfind_c.proofs.owned.Session.first_in.Goals as goal

pub invariant_of-self : goal.invariant_of-self
invariant_of-self c = record {
  asks = c.args.self.now.asks;
  fits = fits_again c.args.self.now c.in-Some.parked c.deref-query.result.now c.deref.result.now (search rules) c.deref-query.ensures c.deref.ensures c.first_parked-first.result.1 c.first_parked-first.ensures.fits c.first_parked-first.ensures.select;
  kept = λ x e. c.clear.ensures.kept;
}

pub returns-in-Ok : goal.returns-in-Ok
returns-in-Ok c = record {
  first = first_found c.args.self.now c.in-Some.parked c.deref-query.result.now c.deref.result.now (search rules) c.deref-query.ensures c.deref.ensures c.args.text.now c.args.from
      c.first_parked-first.result.0 c.first_parked-first.result.1 _ c.first_parked-first.ensures.first c.first_parked-first.ensures.stands (search rules) refl refl refl c.clear.ensures.kept c.clear.ensures.empty
      c.in-Ok.found c.in-Ok.is;
}

pub returns-in-Err : goal.returns-in-Err
returns-in-Err c = record {
  first = first_failed c.args.self.now c.in-Some.parked c.deref-query.result.now c.deref.result.now (search rules) c.deref-query.ensures c.deref.ensures c.args.text.now c.args.from
      c.first_parked-first.result.0 c.first_parked-first.result.1 _ c.first_parked-first.ensures.first c.first_parked-first.ensures.stands (search rules) refl refl refl c.clear.ensures.kept c.clear.ensures.empty
      c.in-Err.fault c.in-Err.is;
}
