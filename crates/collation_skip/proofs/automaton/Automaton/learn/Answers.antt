use Rattle.std.proofs.Common.{◌<◌, ◌∙◌, ℕ, List, length, refl, sym, ap, subst, arith}
use Rattle.std.proofs.lemmas.List.{length-set}
use Rattle.byte_dfa.specs.declared.moves.TheConstants.{STOP}
use Rattle.byte_dfa.specs.Moves.{HasRow, place}
use Rattle.collation_skip.specs.declared.state.State.{State}
use Rattle.collation_skip.specs.Reached.{IsMove}
use Rattle.collation_skip.specs.Rows.{IsRow}
use Rattle.collation_skip.proofs.RowLemmas.{right-set, row-had, row-within}
use Rattle.collation_skip.proofs.automaton.Automaton.learn.Goals as goal
use Rattle.collation_skip.proofs.automaton.Automaton.learn.Goals.{in-Some, in-None}

pub set_cell-requires-clause-row : goal.set_cell-requires-clause-row
set_cell-requires-clause-row g c =
    row-had (g.W.Weights.table c.args.table.now) c.args.pattern.now c.row_behind-to.new.self c.args.row c.in_ok-state.state c.row_behind-to.ensures.right
    (c.row_behind-to.ensures.grows c.args.row c.in_ok-state.state c.in_ok-state.ensures)

pub set_cell-requires-clause-cell : goal.set_cell-requires-clause-cell
set_cell-requires-clause-cell g c =
    let a = c.row_behind-to.new.self in
    elim c.match-to.branch [
      | in-Some w ↦ let found = w.in-Some.ensures.moves in subst (HasRow a.cells) (sym w.cell-is) (row-had (g.W.Weights.table c.args.table.now) c.args.pattern.now a _ found.0 c.row_behind-to.ensures.right found.1)
      | in-None w ↦
          let within = row-within (g.W.Weights.table c.args.table.now) c.args.pattern.now a c.args.row 0 c.in_ok-state.state c.row_behind-to.ensures.right
          (c.row_behind-to.ensures.grows c.args.row c.in_ok-state.state c.in_ok-state.ensures) (omega arith) in
          let is = c.in_ok-state.ensures.2 in let low = w.stop-cell.ensures in omega (arith, within, is, w.cell-is, low)
    ]

pub returns-clause-right : goal.returns-clause-right
returns-clause-right g c =
    let table = g.W.Weights.table c.args.table.now in
    let pattern = c.args.pattern.now in
    let a = c.row_behind-to.new.self in
    let from = c.in_ok-state.state in
    let here = c.row_behind-to.ensures.grows c.args.row from c.in_ok-state.ensures in
    let move : STOP < c.match-to.cell → ∥ ((to : State) × IsRow a c.match-to.cell to × IsMove table pattern from c.args.byte to) ∥₁ =
    elim c.match-to.branch [
      | in-Some w ↦ λ below. let found = w.in-Some.ensures.moves in ∣ (found.0, subst (λ n. IsRow a n found.0) (sym w.cell-is) found.1, found.2) ∣₁
      | in-None w ↦ λ below. absurd (let low = w.stop-cell.ensures in omega (arith, below, w.cell-is, low))
    ] in
    right-set table pattern a (record a { cells = c.set_cell.new.self }) c.args.row c.args.byte c.match-to.cell from c.row_behind-to.ensures.right
    refl c.set_cell.ensures (ap (λ (l : List ℕ). length l) c.set_cell.ensures ∙ length-set a.cells (place c.args.row c.args.byte) c.match-to.cell) here c.ranges.byte.fits move
