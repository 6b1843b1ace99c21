use Rattle.std.proofs.Common.{rules}
use Rattle.colfind_c.proofs.ExportLemmas.{takes_some, takes_none}
use Rattle.colfind_c.proofs.exports.colfind_take.Goals as goal

pub returns-in-None : goal.returns-in-None
returns-in-None c = record { taken = takes_none _ _ _ _ c.in-None.ensures.taken c.take.ensures.emptied }

pub returns-in-Some : goal.returns-in-Some
returns-in-Some c = record { taken = takes_some _ _ _ _ _ _ _ (search rules) (search rules) c.take_owned-count.ensures.taken }
