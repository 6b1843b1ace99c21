use Rattle.std.proofs.Common.{◌≡◌, sym, None}
use Rattle.collation_table.specs.WellFormed.{map_fault}
use Rattle.collation_table.proofs.TableLemmas.{IsWellFormed-from_tests, HasSizes-from_lines}
use Rattle.collation_table.proofs.plain_table.PlainTable.seal.Goals as goal

pub invariant_of-result : goal.invariant_of-result
invariant_of-result c =
    let none : map_fault c.args.rows ≡ None = sym c.in-None.ensures.fault in
    record {
      well_formed = IsWellFormed-from_tests c.args.rows c.fault.ensures.lines none;
      sizes = HasSizes-from_lines c.args.rows c.fault.ensures.lines none;
    }
