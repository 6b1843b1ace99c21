use Rattle.std.proofs.Common.{All, false, subst, arith}
use Rattle.std.proofs.lemmas.List.{take_all}
use Rattle.std.proofs.lemmas.List.Elements.{All-more}
use Rattle.nfd_points.specs.declared.points.Point.{Point}
use Rattle.collation_table.specs.Table.{BeginsNoLongerString}
use Rattle.collation_finder.proofs.letter_run.begin_none.Goals as goal

pub loop-point-preserved : goal.loop-point-preserved
loop-point-preserved g c =
    let blank : Point = record { cp = 0; ccc = 0; offset = 0; first = false } in
    All-more (λ p. BeginsNoLongerString (g.W.Weights.table c.args.table.now) p.cp) c.args.points.now c.loop-point.point-index blank c.loop-point-test.true c.loop-point.invariant
    (c.begins_longer_string.ensures c.if-begins_longer_string.false)

pub returns : goal.returns
returns g c = λ yes.
    subst (All (λ p. BeginsNoLongerString (g.W.Weights.table c.args.table.now) p.cp)) (take_all c.loop-point.point-index c.args.points.now (omega (arith, c.loop-point-test.false))) c.loop-point.invariant
