use Rattle.std.proofs.Common.{rules, None, ap}
use Rattle.colfind_c.specs.declared.outcome.Outcome.TheVariants.{WrongHandle}
use Rattle.colfind_c.specs.Sessions.{FirstInSession}
use Rattle.colfind_c.proofs.ExportLemmas.{asked_search, asked_none}
use Rattle.colfind_c.proofs.exports.colfind_has.Goals as goal

pub returns-in-None : goal.returns-in-None
returns-in-None c = record { has = (None, WrongHandle, ap (λ x. x.kind) c.status.ensures, asked_none None (λ old range how new. FirstInSession old c.args.text.now 0 range how new) _ _ c.in-None.ensures.taken c.take.ensures.emptied) }

pub returns-in-Some : goal.returns-in-Some
returns-in-Some c = record { has = (c.first_owned-outcome.result.1, c.first_owned-outcome.result.0, c.number_for.ensures, asked_search None (λ old range how new. FirstInSession old c.args.text.now 0 range how new) _ _ _ _ _ _ (search rules) (search rules) c.first_owned-outcome.ensures.first) }
