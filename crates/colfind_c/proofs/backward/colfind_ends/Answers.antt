use Rattle.std.proofs.Common.{refl, subst, None}
use Rattle.colfind_c.specs.Exports.{AnswersEnds}
use Rattle.colfind_c.proofs.ExportLemmas.{asked_ok, asked_err}
use Rattle.colfind_c.proofs.backward.colfind_ends.Goals as goal

pub returns-in-Ok-clause-ends : goal.returns-in-Ok-clause-ends
returns-in-Ok-clause-ends c = (
  c.ended_by-outcome.result.0,
  c.ended_by-outcome.result.1,
  c.first_with.ensures,
  asked_ok None (λ q range how. AnswersEnds q c.args.text.now range how) _ _ c.ended_by-outcome.result.1 c.ended_by-outcome.result.0 c.in-Ok.ensures.shared
      (subst (λ q. AnswersEnds q c.args.text.now c.ended_by-outcome.result.1 c.ended_by-outcome.result.0) c.deref.ensures c.ended_by-outcome.ensures),
)

pub returns-in-Err-clause-ends : goal.returns-in-Err-clause-ends
returns-in-Err-clause-ends c = (
  c.in-Err.outcome,
  None,
  c.first_with-in-Err.ensures,
  asked_err None (λ q range how. AnswersEnds q c.args.text.now range how) _ _ c.in-Err.ensures.shared (λ x. refl),
)
