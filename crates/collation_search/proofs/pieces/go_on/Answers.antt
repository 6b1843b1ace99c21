use Rattle.std.proofs.Common.{rules}
use Rattle.collation_matches.specs.Sought.{Sought}
use Rattle.collation_search.proofs.PieceLemmas.{under_way-kept}
use Rattle.collation_search.proofs.pieces.go_on.Goals as goal

-- what was saved is resumed but for want of memory
pub prove_eq-unreachable-requires : goal.prove_eq-unreachable-requires
prove_eq-unreachable-requires g c =
    let s : Sought = record { table = g.W.Weights.table c.args.table.now; pattern = c.args.pattern.now; select = c.args.select } in
    let way = c.requires in
    let kind = under_way-kept s c.args.words.now way.0 way.1 c.resume_with.result c.resume_with.ensures.kept way.2 in
    search (kind, rules)
