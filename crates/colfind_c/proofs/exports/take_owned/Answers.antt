use Rattle.std.proofs.Common.{refl, sym, subst, length, Some}
use Rattle.colfind_c.specs.declared.owned.Owned.TheVariants.{Search as ASearch}
use Rattle.colfind_c.specs.Exports.{TakesOldest}
use Rattle.colfind_c.proofs.exports.take_owned.Goals as goal

pub returns-in-Search-clause-taken : goal.returns-in-Search-clause-taken
returns-in-Search-clause-taken c = subst (λ o. TakesOldest (Some o) (length c.args.out.now) c.take.result c.take.new.out (Some (ASearch c.take.new.self))) (sym c.in-Search.is) (c.take.new.self, refl, c.take.ensures.taken)
