use Rattle.std.proofs.Common.{false}
use Rattle.colfind_c.specs.declared.outcome.Outcome.TheVariants.{WrongHandle}
use Rattle.colfind_c.specs.Exports.{AnswersEqual}
use Rattle.colfind_c.proofs.ExportLemmas.{query_none}
use Rattle.colfind_c.proofs.anchored.colfind_equal.Goals as goal

pub returns-in-None-clause-answer : goal.returns-in-None-clause-answer
returns-in-None-clause-answer c = (WrongHandle, false, c.equality_with-in-None.ensures, query_none false (λ q is_equal how. AnswersEqual q c.args.text.now is_equal how) _ c.in-None.ensures.taken)
