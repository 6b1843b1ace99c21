use Rattle.collation_elements.proofs.Cutting.{is_closed-both}
use Rattle.collation_elements.proofs.laws.closed_points_append.Goals as goal

pub returns : goal.returns
returns c = is_closed-both
