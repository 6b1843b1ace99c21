use Rattle.std.proofs.Common.{refl, sym, subst, Some}
use Rattle.colfind_c.specs.declared.owned.Owned.TheVariants.{Search as ASearch}
use Rattle.colfind_c.specs.Exports.{OfSearch}
use Rattle.colfind_c.specs.Sessions.{FeedsSession}
use Rattle.colfind_c.proofs.exports.feed_owned.Goals as goal

pub returns-in-Search : goal.returns-in-Search
returns-in-Search c = record { fed = subst (λ o. OfSearch (λ old how new. FeedsSession old c.args.piece.now how new) (Some o) c.feed.result (Some (ASearch c.feed.new.self))) (sym c.in-Search.is) (c.feed.new.self, refl, c.feed.ensures.fed) }
