use Rattle.std.proofs.Common.{◌∙◌, List, [], ◌∷◌, ◌++◌, sym, subst}
use Rattle.std.proofs.lemmas.Option.{IfSome_then}
use Rattle.nfd_points.specs.declared.points.Point.{Point}
use Rattle.nfd_points.proofs.OrderingLemmas.{ordered-ordered}
use Rattle.collation_letters.specs.Clusters.{IsClusterAt}
use Rattle.collation_letters.proofs.JoiningLemmas.{base-known}
use Rattle.collation_letters.proofs.cluster.Cluster.placed.Goals as goal

pub returns-in-Some : goal.returns-in-Some
returns-in-Some c =
    IfSome_then c.behind.result c.behind.ensures
    (λ both behind depth table pattern ps q free h hm.
    let letter = c.in-Some.ensures.points depth table pattern ps q (λ no. free (sym h.closed ∙ no)) h.letter hm in
    let in_order = (letter.known (base-known c.in-Some.letter.role c.in-Some.ensures.begins)).in_order in
    subst (λ (l : List Point). IsClusterAt depth table pattern l both) (sym (ordered-ordered (ps ++ q ∷ []) in_order)) (behind depth table pattern ps q free h hm letter))
