use Rattle.std.proofs.Common.{refl}
use Rattle.colfind_c.proofs.ExportLemmas.{first_seen}
use Rattle.colfind_c.proofs.exports.first_in.Goals as goal

pub returns-in-Ok : goal.returns-in-Ok
returns-in-Ok c = first_seen c.args.query.now c.deref.result.now c.args.text.now _ c.deref.ensures c.in-Ok.ensures.first

pub returns-in-Err : goal.returns-in-Err
returns-in-Err c = (refl, first_seen c.args.query.now c.deref.result.now c.args.text.now _ c.deref.ensures c.in-Err.ensures.first)
