use Rattle.std.proofs.Common.{◌≡◌, ◌∙◌, None, not, ap, true, [], ◌∷◌, ◌++◌, sym, subst}
use Rattle.std.proofs.lemmas.Bool.{false≢true}
use Rattle.collation_letters.specs.declared.letter.Letter.{Letter}
use Rattle.nfd_points.specs.Points.{points_from}
use Rattle.collation_letters.specs.Clusters.{ContinuesNone, IsClusterAt}
use Rattle.collation_letters.specs.Letters.{ordered_from, IsLetter}
use Rattle.collation_letters.proofs.ClusterLemmas.{characters-on, cluster-without_apart, letter-from}
use Rattle.collation_letters.proofs.cluster.Cluster.with_mark.Goals.{else-not-self-via-then-not-self+else-not-is_outer, else-not-self-via-else-not-self}
use Rattle.collation_letters.proofs.cluster.Cluster.with_mark.Goals as goal

pub returns-clause-cluster : goal.returns-clause-cluster
returns-clause-cluster g c = λ depth pattern cs h hm.
    let table = g.W.Weights.table c.args.table.now in
    let ch = c.args.c in
    let both = c.in_ok-both.both in
    let outer : not c.args.self.base.is_closed ≡ true → ContinuesNone table (points_from 0 (ch ∷ [])) = λ no. elim c.else-not-self.branch [
      | else-not-self-via-then-not-self+else-not-is_outer w ↦ w.is_outer.ensures w.if-not-is_outer.false
      | else-not-self-via-else-not-self w ↦ absurd (false≢true (sym w.if-not-self.false ∙ no))
    ] in
    let on = characters-on c.laws_of_points.ensures.parts c.laws_of_points.ensures.shifted depth table pattern cs ch c.args.mark both (not c.args.self.base.is_closed) outer (sym c.is_mark.ensures ∙ c.if-not-is_mark.false)
    (λ q may of. c.in_ok-both.ensures depth table pattern (ordered_from 0 cs) q (λ no. may (ap not no)) h of) hm in
    subst (λ (l : Letter). IsClusterAt depth table pattern (ordered_from 0 (cs ++ ch ∷ [])) (record { letter = l; base = both.base; before = both.before; last = both.last })) (sym c.without_apart.ensures.same)
    (cluster-without_apart depth table pattern (ordered_from 0 (cs ++ ch ∷ [])) both on)

pub returns-clause-letter : goal.returns-clause-letter
returns-clause-letter g c = λ pattern cs h hm.
    let table = g.W.Weights.table c.args.table.now in
    let ch = c.args.c in
    let both = c.in_ok-both.both in
    let outer : not c.args.self.base.is_closed ≡ true → ContinuesNone table (points_from 0 (ch ∷ [])) = λ no. elim c.else-not-self.branch [
      | else-not-self-via-then-not-self+else-not-is_outer w ↦ w.is_outer.ensures w.if-not-is_outer.false
      | else-not-self-via-else-not-self w ↦ absurd (false≢true (sym w.if-not-self.false ∙ no))
    ] in
    let on = characters-on c.laws_of_points.ensures.parts c.laws_of_points.ensures.shifted None table pattern cs ch c.args.mark both (not c.args.self.base.is_closed) outer (sym c.is_mark.ensures ∙ c.if-not-is_mark.false)
    (λ q may of. c.in_ok-both.ensures None table pattern (ordered_from 0 cs) q (λ no. may (ap not no)) h of) hm in
    subst (λ (l : Letter). IsLetter table pattern (cs ++ ch ∷ []) l) (sym c.without_apart.ensures.same) (letter-from table pattern (cs ++ ch ∷ []) both.letter on.letter)
