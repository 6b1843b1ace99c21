use Rattle.std.proofs.Common.{ℕ, List, ◌∙◌, ◌++◌, ◌∷◌, [], not, sym, ap, is_some, filter, arith}
use Rattle.std.proofs.lemmas.List.{take_all}
use Rattle.collation_table.specs.declared.elements.Element.{Element}
use Rattle.collation_table.specs.Table.{TableMap, row_with, is_mapped}
use Rattle.collation_table.proofs.OverlayLemmas.{filter-whole, filter-at, filter-past, absent-kept}
use Rattle.collation_table.proofs.rows.Rows.without.Goals as goal
use Rattle.collation_table.proofs.rows.Rows.without.Goals.{then-not-maps+in_ok-insert, else-not-maps}

pub returns-then-not-shares_string : goal.returns-then-not-shares_string
returns-then-not-shares_string g c = sym (filter-whole (λ row. is_mapped c.args.tailor.now row.0) c.args.self.rows (sym c.shares_string.ensures ∙ c.if-not-shares_string.true))

pub insert-requires-clause-absent : goal.insert-requires-clause-absent
insert-requires-clause-absent g c =
    let string = c.row_at.result.0.now in
    ap (λ rows. is_some (row_with string rows)) c.loop-number.invariant
    ∙ absent-kept (λ s. not (is_mapped c.args.tailor.now s)) c.args.self.rows c.loop-number.number string (ap not (sym c.maps.ensures ∙ c.if-not-maps.true)) c.row_at.ensures.distinct

pub loop-number-preserved : goal.loop-number-preserved
loop-number-preserved g c = elim c.if-not-maps.branch [
  | then-not-maps+in_ok-insert w ↦
      let row : List ℕ × List Element = (c.row_at.result.0.now, c.row_at.result.1.now) in
      ap (λ (T : TableMap). T.rows) (w.kept-is ∙ w.in_ok-insert.ensures) ∙ ap (λ rows. rows ++ row ∷ []) c.loop-number.invariant
      ∙ sym (filter-at (λ r. not (is_mapped c.args.tailor.now r.0)) c.args.self.rows c.loop-number.number row c.row_at.ensures.value (ap not (sym c.maps.ensures ∙ w.if-not-maps.true)))
  | else-not-maps w ↦
      let row : List ℕ × List Element = (c.row_at.result.0.now, c.row_at.result.1.now) in
      ap (λ (T : TableMap). T.rows) w.kept-is ∙ c.loop-number.invariant
      ∙ sym (filter-past (λ r. not (is_mapped c.args.tailor.now r.0)) c.args.self.rows c.loop-number.number row c.row_at.ensures.value (ap not (sym c.maps.ensures ∙ w.if-not-maps.false)))
]

pub returns : goal.returns
returns g c =
    c.loop-number.invariant
    ∙ ap (filter (λ row. not (is_mapped c.args.tailor.now row.0))) (take_all c.loop-number.number c.args.self.rows (omega (arith, c.row_count-number-end.ensures)))
