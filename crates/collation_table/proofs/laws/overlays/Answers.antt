use Rattle.collation_table.proofs.OverlayLemmas.{overlay_laws-hold}
use Rattle.collation_table.proofs.laws.overlays.Goals as goal

pub returns : goal.returns
returns c = overlay_laws-hold
