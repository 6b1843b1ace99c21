use Rattle.std.proofs.Common.{refl, subst, None}
use Rattle.colfind_c.specs.Exports.{AnswersBegins}
use Rattle.colfind_c.proofs.ExportLemmas.{asked_pattern, asked_of_search, kept_search}
use Rattle.colfind_c.proofs.anchored.begun_owned.Goals as goal

pub returns-in-Pattern-clause-answer : goal.returns-in-Pattern-clause-answer
returns-in-Pattern-clause-answer c = asked_pattern None (λ q first how. AnswersBegins q c.args.text.now first how) _ _ _ _ c.in-Pattern.is
    (subst (λ q. AnswersBegins q c.args.text.now c.begun_by-outcome.result.1 c.begun_by-outcome.result.0) c.deref.ensures c.begun_by-outcome.ensures.answer)

pub returns-in-Search-clause-answer : goal.returns-in-Search-clause-answer
returns-in-Search-clause-answer c = asked_of_search None (λ q first how. AnswersBegins q c.args.text.now first how) _ _ _ _ c.in-Search.is
    (subst (λ q. AnswersBegins q c.args.text.now c.begun_by-outcome-in-Search.result.1 c.begun_by-outcome-in-Search.result.0) c.deref-in-Search.ensures c.begun_by-outcome-in-Search.ensures.answer)

pub returns-in-Search-clause-kept : goal.returns-in-Search-clause-kept
returns-in-Search-clause-kept c = kept_search _ _ _ c.in-Search.is refl refl refl refl
