use Rattle.std.proofs.Common.{rules, refl}
use Rattle.std.specs.Arc.{arc_value}
use Rattle.colfind_c.specs.declared.owned.Owned.TheVariants.{Search as ASearch}
use Rattle.colfind_c.specs.Exports.{GoesOnFrom}
use Rattle.colfind_c.proofs.ExportLemmas.{given, resumed, not_resumed}
use Rattle.colfind_c.proofs.exports.go_on.Goals as goal

pub returns-in-Ok : goal.returns-in-Ok
returns-in-Ok c = record {
  goes_on = given (ASearch c.in-Ok.session) _ _ _ c.give.ensures.given (λ h v. GoesOnFrom (arc_value c.args.query) c.args.select c.args.words.now h c.args.out.now.value v)
      (resumed (arc_value c.args.query) c.args.select c.args.words.now c.in-Some.select c.in-Ok.session c.args.out.now.value (search rules) c.in-Ok.ensures.goes_on) refl;
}

pub returns-in-Err : goal.returns-in-Err
returns-in-Err c = record { goes_on = (refl, not_resumed (arc_value c.args.query) c.args.select c.in-Err.fault.kind c.args.words.now c.in-Some.select (search rules) c.in-Err.ensures.refused) }
