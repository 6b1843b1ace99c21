use Rattle.collation_table.specs.Table.{is_mapped}
use Rattle.collation_table.proofs.OverlayLemmas.{any-left}
use Rattle.collation_table.proofs.rows.Rows.overlaid.Goals as goal

pub followed_by-requires : goal.followed_by-requires
followed_by-requires g c = record { apart = rw c.in_ok-kept.ensures (any-left (λ row. is_mapped c.args.tailor row.0) c.args.self.rows) }
