use Rattle.std.proofs.Common.{refl}
use Rattle.colfind_c.proofs.ExportLemmas.{last_seen}
use Rattle.colfind_c.proofs.backward.last_in.Goals as goal

pub returns-in-Ok : goal.returns-in-Ok
returns-in-Ok c = last_seen c.args.query.now c.deref.result.now c.args.text.now c.args.at _ c.deref.ensures c.in-Ok.ensures.good c.in-Ok.ensures.told c.in-Ok.ensures.behind

pub returns-in-Err : goal.returns-in-Err
returns-in-Err c = (refl, last_seen c.args.query.now c.deref.result.now c.args.text.now c.args.at _ c.deref.ensures c.in-Err.ensures.good c.in-Err.ensures.told c.in-Err.ensures.behind)
