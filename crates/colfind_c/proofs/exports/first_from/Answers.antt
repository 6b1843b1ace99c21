use Rattle.std.proofs.Common.{rules, refl}
use Rattle.colfind_c.proofs.ExportLemmas.{first_seen_from}
use Rattle.colfind_c.proofs.exports.first_from.Goals as goal

pub returns-in-Ok : goal.returns-in-Ok
returns-in-Ok c = (search rules, first_seen_from c.args.query.now c.deref.result.now c.args.text.now c.args.from _ c.deref.ensures c.in-Ok.ensures.first)

pub returns-in-Err : goal.returns-in-Err
returns-in-Err c = (search rules, refl, first_seen_from c.args.query.now c.deref.result.now c.args.text.now c.args.from _ c.deref.ensures c.in-Err.ensures.first)
