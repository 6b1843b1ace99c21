use Rattle.std.proofs.Common.{◌≡◌, List, take, ◌∙◌, ap, arith}
use Rattle.nfd_points.specs.declared.points.Point.{Point}
use Rattle.collation_table.specs.Table.{longest_prefix}
use Rattle.collation_elements.specs.Units.{code_points}
use Rattle.collation_elements.proofs.Deciding.{longest_of_prefix}
use Rattle.collation_elements.proofs.window.longest_string.Goals as goal

pub returns : goal.returns
returns g c =
    let T = g.W.Weights.table c.args.table.now in
    let ps : List Point = c.args.points.now.items in
    let prefix_is = c.copy_prefix.ensures ∙ ap (λ n. take n (code_points ps)) c.longest_key.ensures in
    let asked : c.longest.result ≡ longest_prefix T (code_points ps) = c.longest.ensures.value ∙ ap (longest_prefix T) c.as_slice.ensures.value ∙ longest_of_prefix T ps c.copy_prefix.new.prefix.items prefix_is in
    omega (arith, c.max.ensures, asked)
