use Rattle.std.proofs.Common.{refl, sym, subst, Some, None}
use Rattle.colfind_c.specs.declared.owned.Owned.TheVariants.{Search as ASearch}
use Rattle.colfind_c.specs.Exports.{AsksSearch}
use Rattle.colfind_c.specs.Sessions.{FirstInSession}
use Rattle.colfind_c.proofs.exports.first_owned.Goals as goal

pub returns-in-Search : goal.returns-in-Search
returns-in-Search c = record { first = subst (λ o. AsksSearch None (λ old range how new. FirstInSession old c.args.text.now c.args.from range how new) (Some o) c.first_in.result.1 c.first_in.result.0 (Some (ASearch c.first_in.new.self))) (sym c.in-Search.is) (c.first_in.new.self, refl, c.first_in.ensures.first) }
