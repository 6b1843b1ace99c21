use Rattle.std.proofs.Common.{All, sym, subst, arith}
use Rattle.std.proofs.lemmas.List.{take_all}
use Rattle.std.proofs.lemmas.List.Elements.{All-more}
use Rattle.std.proofs.lemmas.Option.{get_or_from_slice_get}
use Rattle.nfd_points.specs.declared.points.Point.{Point}
use Rattle.collation_table.specs.Table.{BeginsNoLongerString}
use Rattle.collation_finder.proofs.letter_run.begin_none_in_window.Goals as goal

pub loop-i-preserved : goal.loop-i-preserved
loop-i-preserved g c =
    let points = c.args.window.now.points in
    let i = c.loop-i.i in
    let p : Point = c.point.result in
    let test = c.loop-i-test.true in
    let len = c.len-i-end.ensures.len in
    All-more (λ (q : Point). BeginsNoLongerString (g.W.Weights.table c.args.table.now) q.cp) points i p (omega (arith, test, len)) c.loop-i.invariant
    (subst (λ (q : Point). BeginsNoLongerString (g.W.Weights.table c.args.table.now) q.cp) (sym (get_or_from_slice_get points i p p c.point.ensures)) (c.begins_longer_string.ensures c.if-begins_longer_string.false))

pub returns : goal.returns
returns g c = λ yes.
    let test = c.loop-i-test.false in
    let len = c.len-i-end.ensures.len in
    subst (All (λ p. BeginsNoLongerString (g.W.Weights.table c.args.table.now) p.cp)) (take_all c.loop-i.i c.args.window.now.points (omega (arith, test, len))) c.loop-i.invariant
