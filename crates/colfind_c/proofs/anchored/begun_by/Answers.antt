use Rattle.std.proofs.Common.{refl}
use Rattle.colfind_c.proofs.ExportLemmas.{begun_asked}
use Rattle.colfind_c.proofs.anchored.begun_by.Goals as goal

pub returns-in-Ok-said-clause-answer : goal.returns-in-Ok-said-clause-answer
returns-in-Ok-said-clause-answer c = (c.in-Ok-said.end, c.range_to.ensures, begun_asked c.args.query.now c.in-Ok.asks.table.now c.in-Ok.asks.pattern.now c.args.text.now _ c.in-Ok.ensures.table c.in-Ok.ensures.pattern c.in-Ok-said.ensures.answer)

pub returns-in-Err-clause-answer : goal.returns-in-Err-clause-answer
returns-in-Err-clause-answer c = (refl, begun_asked c.args.query.now c.in-Ok.asks.table.now c.in-Ok.asks.pattern.now c.args.text.now _ c.in-Ok.ensures.table c.in-Ok.ensures.pattern c.in-Err.ensures.answer)
