use Rattle.std.proofs.Common.{rules, None}
use Rattle.colfind_c.specs.declared.outcome.Outcome.TheVariants.{WrongHandle}
use Rattle.colfind_c.specs.Sessions.{FirstInSession}
use Rattle.colfind_c.proofs.ExportLemmas.{asked_search, asked_none}
use Rattle.colfind_c.proofs.exports.colfind_first_in.Goals as goal

pub returns-in-None : goal.returns-in-None
returns-in-None c = record { first = (WrongHandle, None, c.first_with-in-None.ensures, asked_none None (λ old range how new. FirstInSession old c.args.text.now c.args.from range how new) _ _ c.in-None.ensures.taken c.take.ensures.emptied) }

pub returns-in-Some : goal.returns-in-Some
returns-in-Some c = record {
  first = (
    c.first_owned-outcome.result.0,
    c.first_owned-outcome.result.1,
    c.first_with.ensures,
    asked_search None (λ old range how new. FirstInSession old c.args.text.now c.args.from range how new) _ _ _ _ _ _ (search rules) (search rules) c.first_owned-outcome.ensures.first,
  );
}
