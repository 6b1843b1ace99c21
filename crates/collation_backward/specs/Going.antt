-- What is sought by one that goes back.
use Rattle.collation_table.specs.declared.lookup.Weights.{Ghosts}
use Rattle.collation_matches.specs.Sought.{Sought}
use Rattle.collation_search.specs.Search.{sought}
use Rattle.collation_backward.specs.declared.backward.Backward.{Backward}

abbrev pub sought_by : {W : Type 0} {G : Ghosts W} → Backward W G → Sought
sought_by {W} {G} backward = sought backward.search
