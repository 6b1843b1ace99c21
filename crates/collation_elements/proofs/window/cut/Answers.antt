use Rattle.std.proofs.Common.{◌≡◌, List, [], ◌∷◌, option_copied, IfSome, OnSome, sym, ◌∙◌, ap, subst}
use Rattle.nfd_points.specs.declared.points.Point.{Point}
use Rattle.circular_buffer.specs.Buffer.{buffer}
use Rattle.collation_elements.specs.Units.{code_points, Cut}
use Rattle.collation_elements.specs.Windows.{next_cut, BeginsAlone, HasFirstRow}
use Rattle.collation_elements.proofs.Alone.{next_cut-alone}
use Rattle.collation_elements.proofs.Cuts.{IsUnitOf-cut}
use Rattle.collation_elements.proofs.window.cut.Goals as goal

pub of_one-requires-clause-row : goal.of_one-requires-clause-row
of_one-requires-clause-row g c =
    let T = g.W.Weights.table c.args.table.now in
    let ps : List Point = c.args.points.now.items in
    let has : HasFirstRow T ps (option_copied c.in-Some.row) = subst (λ o. IfSome o (λ row. HasFirstRow T ps (option_copied row))) c.in-Some.is c.requires.row in
    has c.point-first_point.result c.point-first_point.ensures.point

pub returns-in-Some-clause-rest : goal.returns-in-Some-clause-rest
returns-in-Some-clause-rest g c =
    let T = g.W.Weights.table c.args.table.now in
    let ps : List Point = c.args.points.now.items in
    let alone : BeginsAlone T ps = subst (λ o. OnSome o (BeginsAlone T ps)) c.in-Some.is c.requires.alone in
    let first : Point = c.point-first_point.result in
    c.skip.ensures ∙ ap (λ (cut : Cut). buffer cut.rest c.args.points.now.capacity) (sym (next_cut-alone T ps first c.point-first_point.ensures.point (alone first c.point-first_point.ensures.point)))

pub returns-in-Some-clause-unit : goal.returns-in-Some-clause-unit
returns-in-Some-clause-unit g c =
    let T = g.W.Weights.table c.args.table.now in
    let ps : List Point = c.args.points.now.items in
    let alone : BeginsAlone T ps = subst (λ o. OnSome o (BeginsAlone T ps)) c.in-Some.is c.requires.alone in
    let first : Point = c.point-first_point.result in
    let string_is : first.cp ∷ [] ≡ code_points (next_cut T ps).unit = ap (λ (cut : Cut). code_points cut.unit) (sym (next_cut-alone T ps first c.point-first_point.ensures.point (alone first c.point-first_point.ensures.point))) in
    IsUnitOf-cut T ps (first.cp ∷ []) first c.of_one.result c.requires.some c.point-first_point.ensures.point string_is c.of_one.ensures.first_point c.of_one.ensures.elements
