use Rattle.std.proofs.Common.{refl}
use Rattle.colfind_c.proofs.ExportLemmas.{end_seen}
use Rattle.colfind_c.proofs.backward.ended_by.Goals as goal

pub returns-in-Ok : goal.returns-in-Ok
returns-in-Ok c = (c.in-Ok.start, c.range_from.ensures, end_seen c.args.query.now c.deref.result.now c.args.text.now _ c.deref.ensures c.in-Ok.ensures.good c.in-Ok.ensures.answer)

pub returns-in-Err : goal.returns-in-Err
returns-in-Err c = (refl, end_seen c.args.query.now c.deref.result.now c.args.text.now _ c.deref.ensures c.in-Err.ensures.good c.in-Err.ensures.answer)
