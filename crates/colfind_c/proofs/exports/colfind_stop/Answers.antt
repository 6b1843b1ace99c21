use Rattle.std.proofs.Common.{rules}
use Rattle.colfind_c.specs.declared.outcome.Outcome.TheVariants.{WrongHandle}
use Rattle.colfind_c.specs.Sessions.{StopsSession}
use Rattle.colfind_c.proofs.ExportLemmas.{of_search, of_none}
use Rattle.colfind_c.proofs.exports.colfind_stop.Goals as goal

pub returns-in-None : goal.returns-in-None
returns-in-None c = record { stopped = (WrongHandle, c.status-in-None.ensures, of_none StopsSession _ _ c.in-None.ensures.taken c.take.ensures.emptied) }

pub returns-in-Some : goal.returns-in-Some
returns-in-Some c = record { stopped = (c.stop_owned-outcome.result, c.status.ensures, of_search StopsSession _ _ _ _ _ (search rules) (search rules) c.stop_owned-outcome.ensures.stopped) }
