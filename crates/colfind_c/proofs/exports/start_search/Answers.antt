use Rattle.std.proofs.Common.{rules, refl}
use Rattle.std.specs.Arc.{arc_value}
use Rattle.colfind_c.specs.declared.owned.Owned.TheVariants.{Search as ASearch}
use Rattle.colfind_c.specs.Exports.{StartsSearch}
use Rattle.colfind_c.proofs.ExportLemmas.{given, started}
use Rattle.colfind_c.proofs.exports.start_search.Goals as goal

pub returns-in-Ok : goal.returns-in-Ok
returns-in-Ok c = record {
  started = given (ASearch c.in-Ok.session) _ _ _ c.give.ensures.given (λ h v. StartsSearch (arc_value c.args.query) c.args.select h c.args.out.now.value v)
      (started (arc_value c.args.query) c.args.select c.in-Some.select c.in-Ok.session c.args.out.now.value (search rules) c.in-Ok.ensures.begun c.in-Ok.ensures.sought) refl;
}
