use Rattle.std.proofs.Common.{rules}
use Rattle.colfind_c.specs.declared.outcome.Outcome.TheVariants.{WrongHandle}
use Rattle.colfind_c.specs.Sessions.{PartInSession}
use Rattle.colfind_c.proofs.ExportLemmas.{of_search, of_none}
use Rattle.colfind_c.proofs.parts.colfind_search_part.Goals as goal

pub returns-in-None : goal.returns-in-None
returns-in-None c = record { part = (WrongHandle, c.status-in-None.ensures, of_none (λ old how new. PartInSession old c.args.text.now c.args.from c.args.to how new) _ _ c.in-None.ensures.taken c.take.ensures.emptied) }

pub returns-in-Some : goal.returns-in-Some
returns-in-Some c = record { part = (c.part_owned-outcome.result, c.status.ensures, of_search (λ old how new. PartInSession old c.args.text.now c.args.from c.args.to how new) _ _ _ _ _ (search rules) (search rules) c.part_owned-outcome.ensures.part) }
