use Rattle.std.proofs.Common.{◌∙◌, sym, subst}
use Rattle.std.proofs.lemmas.Bool.{not-true}
use Rattle.nfd_points.specs.declared.points.Point.{Point}
use Rattle.collation_table.specs.Table.{ContinuesNoString}
use Rattle.collation_letters.proofs.ApartLemmas.{from_one}
use Rattle.collation_letters.proofs.ClusterLemmas.{first-same}
use Rattle.collation_letters.proofs.cluster.is_outer.Goals as goal

pub returns-in-Some : goal.returns-in-Some
returns-in-Some g c = λ yes p is.
    let table = g.W.Weights.table c.args.table.now in
    let same = first-same c.in-Some.point p (sym c.in-Some.ensures ∙ sym (from_one 0 c.args.c) ∙ is) in
    subst (λ (q : Point). ContinuesNoString table q.cp) same (c.continues_string.ensures (not-true c.continues_string.result yes))
