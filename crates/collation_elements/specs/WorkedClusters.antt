-- Clusters in one line, for texts that are written out.
use Rattle.std.specs.Prelude.{ℕ, List}
use Rattle.collation_elements.specs.declared.keys.Key.{Key}
use Rattle.collation_elements.specs.Clusters.{Cluster}

-- the byte offset at which a cluster begins, and its compared keys
abbrev pub worked_cluster : ℕ → List Key → Cluster
worked_cluster start ks = record { start = start; keys = ks }
