use Rattle.std.proofs.Common.{rules, tests}
use Rattle.std.proofs.lemmas.Iterator.{YieldsList-from_slice}
use Rattle.std.proofs.lemmas.Iterator.Search.{any_from_yields_List}
use Rattle.collation_table.proofs.well_formed.breaks_wf3.Goals as goal

pub returns : goal.returns
returns c = any_from_yields_List _ _ _ c.any.result c.any.ensures.ran (YieldsList-from_slice _ c.iter.ensures.rest) (λ x b q k. search (rules, tests))
