use Rattle.std.proofs.Common.{refl, sym, subst, Some}
use Rattle.colfind_c.specs.declared.owned.Owned.TheVariants.{Search as ASearch}
use Rattle.colfind_c.specs.Exports.{AsksSearch, SavesInto, untouched}
use Rattle.colfind_c.proofs.exports.save_owned.Goals as goal

pub returns-in-Search-clause-saved : goal.returns-in-Search-clause-saved
returns-in-Search-clause-saved c = subst (λ o. AsksSearch (untouched c.args.out.now) (λ old given how new. SavesInto c.args.out.now given.1 given.0 old how new) (Some o) (c.save_session.result.1, c.save_session.new.out) c.save_session.result.0 (Some (ASearch c.save_session.new.session))) (sym c.in-Search.is) (c.save_session.new.session, refl, c.save_session.ensures.saved)
