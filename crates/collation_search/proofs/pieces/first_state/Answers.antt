use Rattle.std.proofs.Common.{◌≡◌, rules}
use Rattle.collation_search.specs.Pieces.{AreStates}
use Rattle.collation_search.specs.State.{words_of}
use Rattle.collation_search.proofs.pieces.first_state.Goals as goal

pub returns : goal.returns
unfolding AreStates
returns g c =
    let saved : words_of c.in_ok-search.search ≡ c.save.new.words.items = search (c.in_ok-save.ensures.saved, rules) in
    record {
      begun = record {
        begun = c.in_ok-search.search;
        same = c.in_ok-search.ensures.sought;
        stands = c.in_ok-search.ensures.stands;
        reached = saved;
      };
    }
