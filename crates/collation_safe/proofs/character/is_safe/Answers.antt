use Rattle.std.proofs.Common.{◌∙◌, ◌<◌, length, not, ap, arith}
use Rattle.collation_safe.specs.Safe.{begins_safely}
use Rattle.collation_safe.proofs.Strings.{first-safe}
use Rattle.collation_safe.proofs.character.is_safe.Goals as goal

pub returns-then-first-eq0 : goal.returns-then-first-eq0
returns-then-first-eq0 g c =
    let T = g.W.Weights.table c.args.table.now in
    let points = c.as_slice.result.now in
    let some : 0 < length points = omega (arith, c.in-len1-up.len_at_least) in
    ap not c.is_unsafe.ensures
    ∙ first-safe T (g.met.W.Weights.well_formed c.args.table.now) points _ some c.if-first-eq0.true
    ∙ ap (begins_safely T) (c.as_slice.ensures.value ∙ c.points_of_character-points.ensures.value)
