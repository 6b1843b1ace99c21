use Rattle.std.specs.List.{All}
use Rattle.std.proofs.Common.{[], ◌∷◌, subst}
use Rattle.nfd_points.specs.declared.points.Point.{Point}
use Rattle.collation_table.specs.Table.{BeginsNoLongerString}
use Rattle.collation_finder.proofs.BeginLemmas.{begins-apart, begins-behind}
use Rattle.collation_finder.proofs.finder.Finder.begins_unit.Goals as goal

pub returns-then-letter : goal.returns-then-letter
returns-then-letter g c = λ yes pattern offset first h.
    begins-apart c.laws_of_characters.ensures c.units_stay_apart.ensures.before (g.W.Weights.table c.args.table.now) pattern c.args.self.now offset first c.args.letter.now c.if-letter.true h

pub returns : goal.returns
returns g c = λ yes pattern offset first h.
    let table = g.W.Weights.table c.args.table.now in
    let waiting = subst (All (λ (p : Point). BeginsNoLongerString table p.cp)) c.waiting.ensures.value (c.begin_none.ensures c.if-not-begin_none.false) in
    begins-behind c.units_stay_apart.ensures.alone c.laws_of_reordering.ensures.others table pattern c.args.self.now offset first
    (c.is_starter.ensures c.if-not-is_starter.false table pattern (first ∷ []) h) c.requires.«open» (c.begin_none_in_window.ensures yes) waiting
