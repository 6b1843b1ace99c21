use Rattle.std.proofs.Common.{◌∙◌, ◌++◌, ℕ, List, ap, subst}
use Rattle.collation_search.specs.Resuming.{IsResumedFrom}
use Rattle.collation_matches.specs.Sought.{Sought}
use Rattle.collation_search.specs.State.{words_of}
use Rattle.collation_search.proofs.pieces.take_piece.Goals as goal

pub returns-clause-passed : goal.returns-clause-passed
returns-clause-passed g c =
    let s : Sought = record { table = g.W.Weights.table c.args.table.now; pattern = c.args.pattern.now; select = c.args.select } in
    let fed = c.feed-fault.ensures.fed in (
      fed.0,
      fed.1,
      record {
        resumed = c.in_ok-search.search;
        fed = c.feed-fault.new.self;
        result = c.feed-fault.result;
        goes_on = subst (λ (t : List ℕ). IsResumedFrom c.in_ok-search.search s t) c.deref.ensures.value c.in_ok-search.ensures.goes_on;
        feeds = fed.2;
        saved = c.in_ok-save.ensures.saved ∙ ap (λ (t : List ℕ). t ++ words_of c.feed-fault.new.self) c.clear.ensures.items;
      },
    )
