use Rattle.std.proofs.Common.{◌≡◌, drop}
use Rattle.std.specs.List.{list_any}
use Rattle.nfd_points.specs.Points.{is_starter}
use Rattle.collation_elements.proofs.window.has_starter_from.Given as goal

abbrev pub invariant-loop-i : goal.invariant-loop-i
invariant-loop-i l = list_any is_starter (drop l.i l.points.items) ≡ list_any is_starter (drop l.index l.points.items)
