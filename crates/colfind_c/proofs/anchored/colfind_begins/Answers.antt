use Rattle.std.proofs.Common.{None}
use Rattle.colfind_c.specs.declared.outcome.Outcome.TheVariants.{WrongHandle}
use Rattle.colfind_c.specs.Exports.{AnswersBegins}
use Rattle.colfind_c.proofs.ExportLemmas.{query_none}
use Rattle.colfind_c.proofs.anchored.colfind_begins.Goals as goal

pub returns-in-None-clause-answer : goal.returns-in-None-clause-answer
returns-in-None-clause-answer c = (WrongHandle, None, c.first_with-in-None.ensures, query_none None (λ q first how. AnswersBegins q c.args.text.now first how) _ c.in-None.ensures.taken)
