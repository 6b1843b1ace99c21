use Rattle.std.proofs.Common.{rules, tests}
use Rattle.std.proofs.lemmas.Iterator.{YieldsList-from_slice}
use Rattle.std.proofs.lemmas.Iterator.Search.{any_from_yields_List}
use Rattle.collation_table.specs.Faults.{is_beyond_unicode}
use Rattle.collation_table.proofs.line_faults.any_beyond_unicode.Goals as goal

pub returns : goal.returns
returns c = any_from_yields_List is_beyond_unicode _ _ c.any.result c.any.ensures.ran (YieldsList-from_slice _ c.iter.ensures.rest) (λ x b q k. search (rules, tests))
