use Rattle.std.proofs.Common.{refl, [], sym}
use Rattle.std.proofs.lemmas.Option.{none-some}
use Rattle.collation_search.proofs.FeedLemmas.{feeds-reported}
use Rattle.collation_search.proofs.search.Search.feed.Goals as goal

-- a fault that was reported is reported again
pub returns-in-Some-clause-fed : goal.returns-in-Some-clause-fed
returns-in-Some-clause-fed g c =
    ([], refl, feeds-reported c.args.self.now c.args.piece.now c.in-Some.fault c.in-Some.ensures.reported (λ u handed h. none-some c.in-Some.fault (sym (c.in-Some.ensures.none u handed h))) c.in-Some.ensures.again)
