use Rattle.std.proofs.Common.{ℕ, List, ◌∙◌, ◌++◌, ◌∷◌, [], sym, ap, take, append_assoc, is_some}
use Rattle.collation_table.specs.declared.elements.Element.{Element}
use Rattle.collation_table.specs.Table.{TableMap, row_with}
use Rattle.collation_table.proofs.OverlayLemmas.{take-at, absent-after}
use Rattle.collation_table.proofs.rows.Rows.followed_by.Goals as goal

pub insert-requires-clause-absent : goal.insert-requires-clause-absent
insert-requires-clause-absent g c =
    ap (λ rows. is_some (row_with c.row_at.result.0.now rows)) c.loop-number.invariant
    ∙ absent-after c.args.tailor.now c.args.self.rows c.loop-number.number c.row_at.result.0.now c.row_at.result.1.now c.requires.apart c.row_at.ensures.value c.row_at.ensures.distinct

pub loop-number-preserved : goal.loop-number-preserved
loop-number-preserved g c =
    let row : List ℕ × List Element = (c.row_at.result.0.now, c.row_at.result.1.now) in
    ap (λ (T : TableMap). T.rows) c.in_ok-insert.ensures ∙ ap (λ rows. rows ++ row ∷ []) c.loop-number.invariant
    ∙ append_assoc c.args.self.rows (take c.loop-number.number c.args.tailor.now.rows) (row ∷ [])
    ∙ ap (λ rows. c.args.self.rows ++ rows) (sym (take-at c.args.tailor.now.rows c.loop-number.number row c.row_at.ensures.value))
