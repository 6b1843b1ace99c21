use Rattle.std.proofs.Common.{refl, sym, subst, Some}
use Rattle.colfind_c.specs.declared.owned.Owned.TheVariants.{Search as ASearch}
use Rattle.colfind_c.specs.Exports.{OfSearch}
use Rattle.colfind_c.specs.Sessions.{PartInSession}
use Rattle.colfind_c.proofs.parts.part_owned.Goals as goal

pub returns-in-Search : goal.returns-in-Search
returns-in-Search c = record { part = subst (λ o. OfSearch (λ old how new. PartInSession old c.args.text.now c.args.from c.args.to how new) (Some o) c.search_part.result (Some (ASearch c.search_part.new.self))) (sym c.in-Search.is) (c.search_part.new.self, refl, c.search_part.ensures.part) }
