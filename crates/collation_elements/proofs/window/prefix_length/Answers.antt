use Rattle.std.proofs.Common.{◌≡◌, ◌<◌, List, false, Some, length, get_or, slice_get, sym}
use Rattle.std.proofs.lemmas.Option.{slice_get-get_or}
use Rattle.nfd_points.specs.declared.points.Point.{Point}
use Rattle.collation_elements.proofs.Alone.{prefix_length-alone}
use Rattle.collation_elements.proofs.window.prefix_length.Goals as goal

no_point : Point
no_point = record { cp = 0; ccc = 0; offset = 0; first = false }

pub returns-then-is_alone : goal.returns-then-is_alone
returns-then-is_alone g c =
    let ps : List Point = c.args.points.now.items in
    let some : 0 < length ps = c.requires.some in
    let there : slice_get ps 0 ≡ Some (get_or ps 0 no_point) = slice_get-get_or ps 0 no_point some in
    sym (prefix_length-alone (g.W.Weights.table c.args.table.now) ps (get_or ps 0 no_point) there (c.requires.alone c.if-is_alone.true (get_or ps 0 no_point) there))
