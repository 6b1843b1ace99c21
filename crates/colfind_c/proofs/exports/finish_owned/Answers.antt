use Rattle.std.proofs.Common.{refl, sym, subst, Some}
use Rattle.colfind_c.specs.declared.owned.Owned.TheVariants.{Search as ASearch}
use Rattle.colfind_c.specs.Exports.{OfSearch}
use Rattle.colfind_c.specs.Sessions.{FinishesSession}
use Rattle.colfind_c.proofs.exports.finish_owned.Goals as goal

pub returns-in-Search : goal.returns-in-Search
returns-in-Search c = record { finished = subst (λ o. OfSearch FinishesSession (Some o) c.finish.result (Some (ASearch c.finish.new.self))) (sym c.in-Search.is) (c.finish.new.self, refl, c.finish.ensures.finished) }
