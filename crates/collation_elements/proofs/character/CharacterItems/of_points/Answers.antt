use Rattle.std.proofs.Common.{◌≡◌, ◌<◌, ◌++◌, List, length, ◌∙◌, ap, subst}
use Rattle.nfd_points.specs.declared.points.Point.{Point}
use Rattle.collation_elements.proofs.CharacterLaws.{items_by, after_by, are_items, many_items, other_items}
use Rattle.collation_elements.proofs.Cuts.{IfNone-from}
use Rattle.collation_elements.proofs.character.CharacterItems.of_points.Goals as goal

pub returns-in_err-gathered-clause-none : goal.returns-in_err-gathered-clause-none
returns-in_err-gathered-clause-none g c =
    let T = g.W.Weights.table c.args.table.now in
    let taken : c.end.new.self.points ≡ c.args.points.now = ap (λ w. w.points) c.end.ensures.ended ∙ ap (λ w. w.points) c.push_all.ensures.points ∙ ap (λ (ps : List Point). ps ++ c.args.points.now) c.requires.empty in
    IfNone-from c.from_residual.result
    (many_items T c.args.weigher c.args.points.now (subst (λ ps. 4 < length (items_by T c.args.weigher ps)) taken c.in_err-gathered.ensures.none))

pub returns-clause-items : goal.returns-clause-items
returns-clause-items g c =
    let T = g.W.Weights.table c.args.table.now in
    let taken : c.end.new.self.points ≡ c.args.points.now = ap (λ w. w.points) c.end.ensures.ended ∙ ap (λ w. w.points) c.push_all.ensures.points ∙ ap (λ (ps : List Point). ps ++ c.args.points.now) c.requires.empty in
    are_items T c.args.weigher c.args.points.now c.of_items.result c.as_slice.result.now c.after_variable.result
    (c.as_slice.ensures.value ∙ c.in_ok-gathered.ensures.items ∙ ap (items_by T c.args.weigher) taken)
    (c.after_variable.ensures ∙ c.in_ok-gathered.ensures.after ∙ ap (after_by T c.args.weigher) taken)
    c.of_items.ensures.items c.of_items.ensures.after

pub returns-clause-none : goal.returns-clause-none
returns-clause-none g c =
    let T = g.W.Weights.table c.args.table.now in
    let taken : c.end.new.self.points ≡ c.args.points.now = ap (λ w. w.points) c.end.ensures.ended ∙ ap (λ w. w.points) c.push_all.ensures.points ∙ ap (λ (ps : List Point). ps ++ c.args.points.now) c.requires.empty in
    other_items T c.args.weigher c.args.points.now c.of_items.result c.as_slice.result.now
    (c.as_slice.ensures.value ∙ c.in_ok-gathered.ensures.items ∙ ap (items_by T c.args.weigher) taken)
    c.of_items.ensures.none
