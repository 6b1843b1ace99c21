use Rattle.std.proofs.Common.{refl, sym, subst, Some}
use Rattle.colfind_c.specs.declared.owned.Owned.TheVariants.{Search as ASearch}
use Rattle.colfind_c.specs.Exports.{OfSearch}
use Rattle.colfind_c.specs.Sessions.{StopsSession}
use Rattle.colfind_c.proofs.exports.stop_owned.Goals as goal

pub returns-in-Search : goal.returns-in-Search
returns-in-Search c = record { stopped = subst (λ o. OfSearch StopsSession (Some o) c.stop.result (Some (ASearch c.stop.new.self))) (sym c.in-Search.is) (c.stop.new.self, refl, c.stop.ensures.stopped) }
