use Rattle.std.proofs.Common.{refl}
use Rattle.std.specs.Arc.{arc_value}
use Rattle.colfind_c.specs.Exports.{MakesPattern}
use Rattle.colfind_c.proofs.ExportLemmas.{pattern_given, made, not_made}
use Rattle.colfind_c.proofs.exports.make_pattern.Goals as goal

pub returns-in-Ok : goal.returns-in-Ok
returns-in-Ok c = record {
  made = pattern_given _ _ _ _ c.give_pattern.ensures.given (λ h v. MakesPattern (arc_value c.args.table) c.args.text.now c.args.strength c.args.variable h c.args.out.now.value v)
      (λ p e. made (arc_value c.args.table) c.args.text.now c.args.strength c.args.variable c.in-Ok.query c.args.out.now.value p e c.in-Ok.ensures.compiled) refl;
}

pub returns-in-Err : goal.returns-in-Err
returns-in-Err c = record { made = not_made (arc_value c.args.table) c.args.text.now c.args.strength c.args.variable c.in-Err.outcome c.args.out.now.value c.in-Err.ensures.compiled }
