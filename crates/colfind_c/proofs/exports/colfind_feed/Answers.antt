use Rattle.std.proofs.Common.{rules}
use Rattle.colfind_c.specs.declared.outcome.Outcome.TheVariants.{WrongHandle}
use Rattle.colfind_c.specs.Sessions.{FeedsSession}
use Rattle.colfind_c.proofs.ExportLemmas.{of_search, of_none}
use Rattle.colfind_c.proofs.exports.colfind_feed.Goals as goal

pub returns-in-None : goal.returns-in-None
returns-in-None c = record { fed = (WrongHandle, c.status-in-None.ensures, of_none (λ old how new. FeedsSession old c.args.piece.now how new) _ _ c.in-None.ensures.taken c.take.ensures.emptied) }

pub returns-in-Some : goal.returns-in-Some
returns-in-Some c = record { fed = (c.feed_owned-outcome.result, c.status.ensures, of_search (λ old how new. FeedsSession old c.args.piece.now how new) _ _ _ _ _ (search rules) (search rules) c.feed_owned-outcome.ensures.fed) }
