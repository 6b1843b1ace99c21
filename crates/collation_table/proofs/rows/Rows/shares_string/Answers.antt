use Rattle.collation_table.specs.Table.{is_mapped}
use Rattle.std.proofs.Common.{◌∙◌, sym}
use Rattle.collation_table.proofs.OverlayLemmas.{any-after, any-here, none_mapped}
use Rattle.collation_table.proofs.rows.Rows.shares_string.Goals as goal

pub returns-then-row_count-eq0 : goal.returns-then-row_count-eq0
returns-then-row_count-eq0 g c = sym (none_mapped c.args.other.now (sym c.row_count.ensures ∙ c.if-row_count-eq0.true) c.args.self.now.rows)

pub returns-then-maps : goal.returns-then-maps
returns-then-maps g c =
    any-here (λ row. is_mapped c.args.other.now row.0) c.args.self.now.rows c.loop-number.number _ _ c.row_at.ensures.value (sym c.maps.ensures ∙ c.if-maps.true) c.loop-number.invariant

pub loop-number-preserved : goal.loop-number-preserved
loop-number-preserved g c =
    any-after (λ row. is_mapped c.args.other.now row.0) c.args.self.now.rows c.loop-number.number _ _ c.row_at.ensures.value (sym c.maps.ensures ∙ c.if-maps.false) c.loop-number.invariant
