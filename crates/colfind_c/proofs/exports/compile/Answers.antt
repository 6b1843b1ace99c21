use Rattle.std.proofs.Common.{rules, refl}
use Rattle.colfind_c.proofs.ExportLemmas.{refused}
use Rattle.colfind_c.proofs.exports.compile.Goals as goal

pub returns-in-Err : goal.returns-in-Err
returns-in-Err c = record { compiled = (refl, refused _ c.deref.result.now c.args.text.now c.in-Some.text.now c.args.strength c.args.variable c.in-Err.fault.kind c.in-Some-Some.strength c.in-Some-Some.variable (search rules) (search rules) (search rules) c.deref.ensures c.in-Err.ensures.refused) }
