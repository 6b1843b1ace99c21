-- What a pattern of the library looks for.
use Rattle.std.specs.Arc.{arc_value}
use Rattle.collation_table.specs.contracts.table.TableWeights.TheImpl.{ghosts as weights}
use Rattle.collation_table.specs.Table.{TableMap}
use Rattle.collation_matches.specs.declared.select.Select.{Select}
use Rattle.collation_matches.specs.Sought.{Sought}
use Rattle.colfind_c.specs.declared.owned.Query.{Query}

-- its table
abbrev pub table_of : Query → TableMap
table_of q = weights.table (arc_value q.table)

abbrev pub sought_with : Query → Select → Sought
sought_with q select = record { table = table_of q; pattern = q.pattern; select = select }
