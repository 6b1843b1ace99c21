use Rattle.std.proofs.Common.{◌∙◌, [], ◌∷◌, sym, ap}
use Rattle.nfd_points.specs.Points.{begins_with_starter}
use Rattle.collation_finder.proofs.TakenAtOnceLemmas.{begins_anywhere, from_one}
use Rattle.collation_finder.proofs.letter_run.is_starter.Goals as goal

pub returns-else-is_ascii-clause-starter : goal.returns-else-is_ascii-clause-starter
returns-else-is_ascii-clause-starter g c = λ known offset.
    let first = c.args.c in
    let begins = c.is_starter.ensures known (g.W.Weights.table c.args.query.now.table.now) c.args.query.now.pattern.now (first ∷ []) c.letter.ensures.letter in
    begins_anywhere 0 offset first (ap begins_with_starter (sym (from_one 0 first)) ∙ begins)
