use Rattle.std.proofs.Common.{refl, subst, None}
use Rattle.colfind_c.specs.Exports.{AnswersLastBefore}
use Rattle.colfind_c.proofs.ExportLemmas.{asked_ok, asked_err}
use Rattle.colfind_c.proofs.backward.colfind_last_before.Goals as goal

pub returns-in-Ok-clause-last : goal.returns-in-Ok-clause-last
returns-in-Ok-clause-last c = (
  c.last_in-outcome.result.0,
  c.last_in-outcome.result.1,
  c.first_with.ensures,
  asked_ok None (λ q range how. AnswersLastBefore q c.args.text.now c.args.at range how) _ _ c.last_in-outcome.result.1 c.last_in-outcome.result.0 c.in-Ok.ensures.shared
      (subst (λ q. AnswersLastBefore q c.args.text.now c.args.at c.last_in-outcome.result.1 c.last_in-outcome.result.0) c.deref.ensures c.last_in-outcome.ensures),
)

pub returns-in-Err-clause-last : goal.returns-in-Err-clause-last
returns-in-Err-clause-last c = (
  c.in-Err.outcome,
  None,
  c.first_with-in-Err.ensures,
  asked_err None (λ q range how. AnswersLastBefore q c.args.text.now c.args.at range how) _ _ c.in-Err.ensures.shared (λ x. refl),
)
