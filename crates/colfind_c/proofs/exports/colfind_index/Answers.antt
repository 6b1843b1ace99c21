use Rattle.std.proofs.Common.{refl, subst, None}
use Rattle.colfind_c.specs.Exports.{AnswersFirst}
use Rattle.colfind_c.proofs.ExportLemmas.{asked_ok, asked_err}
use Rattle.colfind_c.proofs.exports.colfind_index.Goals as goal

pub returns-in-Ok-clause-first : goal.returns-in-Ok-clause-first
returns-in-Ok-clause-first c = (
  c.first_in-outcome.result.0,
  c.first_in-outcome.result.1,
  c.first_with.ensures,
  asked_ok None (λ q range how. AnswersFirst q c.args.text.now range how) _ _ c.first_in-outcome.result.1 c.first_in-outcome.result.0 c.in-Ok.ensures.shared
      (subst (λ q. AnswersFirst q c.args.text.now c.first_in-outcome.result.1 c.first_in-outcome.result.0) c.deref.ensures c.first_in-outcome.ensures),
)

pub returns-in-Err-clause-first : goal.returns-in-Err-clause-first
returns-in-Err-clause-first c = (
  c.in-Err.outcome,
  None,
  c.first_with-in-Err.ensures,
  asked_err None (λ q range how. AnswersFirst q c.args.text.now range how) _ _ c.in-Err.ensures.shared (λ x. refl),
)
