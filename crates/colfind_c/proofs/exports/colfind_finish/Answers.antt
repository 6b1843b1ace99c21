use Rattle.std.proofs.Common.{rules}
use Rattle.colfind_c.specs.declared.outcome.Outcome.TheVariants.{WrongHandle}
use Rattle.colfind_c.specs.Sessions.{FinishesSession}
use Rattle.colfind_c.proofs.ExportLemmas.{of_search, of_none}
use Rattle.colfind_c.proofs.exports.colfind_finish.Goals as goal

pub returns-in-None : goal.returns-in-None
returns-in-None c = record { finished = (WrongHandle, c.status-in-None.ensures, of_none FinishesSession _ _ c.in-None.ensures.taken c.take.ensures.emptied) }

pub returns-in-Some : goal.returns-in-Some
returns-in-Some c = record { finished = (c.finish_owned-outcome.result, c.status.ensures, of_search FinishesSession _ _ _ _ _ (search rules) (search rules) c.finish_owned-outcome.ensures.finished) }
