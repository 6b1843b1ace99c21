use Rattle.std.proofs.Common.{rules, refl}
use Rattle.colfind_c.proofs.SessionLemmas.{fits_at, fits_again, session_saves, save_refused}
use Rattle.colfind_c.proofs.owned.Session.save.Goals as goal

pub save_parked-saved-requires : goal.save_parked-saved-requires
save_parked-saved-requires c = record { fits = fits_at c.args.self.now c.in-Some.parked c.deref-query.result.now c.deref.result.now (search rules) c.deref-query.ensures c.deref.ensures }

pub invariant_of-self : goal.invariant_of-self
invariant_of-self c = record { asks = c.args.self.now.asks; fits = fits_again c.args.self.now c.in-Some.parked c.deref-query.result.now c.deref.result.now (search rules) c.deref-query.ensures c.deref.ensures c.save_parked-saved.result.1 c.save_parked-saved.ensures.fits c.save_parked-saved.ensures.select; kept = λ x e. c.args.self.now.kept c.in-Some.parked (search rules) }

pub returns-in-Ok : goal.returns-in-Ok
returns-in-Ok c = record { saved = session_saves c.args.self.now c.in-Some.parked c.deref-query.result.now c.deref.result.now (search rules) c.deref-query.ensures c.deref.ensures c.save_parked-saved.new.words.items c.save_parked-saved.result.1 _ (search rules) c.save_parked-saved.ensures.few c.save_parked-saved.ensures.kept c.save_parked-saved.ensures.reported refl refl refl refl }

pub returns-in-Err : goal.returns-in-Err
returns-in-Err c = record { saved = save_refused c.args.self.now c.in-Some.parked c.deref-query.result.now c.deref.result.now (search rules) c.deref-query.ensures c.deref.ensures c.save_parked-saved.new.words.items c.save_parked-saved.result.1 _ c.save_parked-saved.ensures.kept c.save_parked-saved.ensures.reported refl refl refl refl }
