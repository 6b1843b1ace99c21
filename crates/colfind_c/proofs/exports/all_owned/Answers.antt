use Rattle.std.proofs.Common.{refl, sym, subst, Some}
use Rattle.colfind_c.specs.declared.owned.Owned.TheVariants.{Search as ASearch}
use Rattle.colfind_c.specs.Exports.{AsksSearch, untouched}
use Rattle.colfind_c.specs.Sessions.{AllInSession}
use Rattle.colfind_c.proofs.exports.all_owned.Goals as goal

pub returns-in-Search-clause-all : goal.returns-in-Search-clause-all
returns-in-Search-clause-all c = subst (λ o. AsksSearch (untouched c.args.out.now) (λ old given how new. AllInSession old c.args.text.now given.1 given.0 how new) (Some o) (c.all_in.result.1, c.all_in.new.out) c.all_in.result.0 (Some (ASearch c.all_in.new.self))) (sym c.in-Search.is) (c.all_in.new.self, refl, c.all_in.ensures.all)
