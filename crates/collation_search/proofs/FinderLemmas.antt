-- The finder of a search that has met no fault takes characters of its text.
use Rattle.std.specs.Prelude.{None}
use Rattle.std.proofs.Common.{◌≡◌, ◌∙◌, ◌+◌, ap}
use Rattle.nfd_points.specs.declared.limits.TheConstants.{MOST_GIVEN}
use Rattle.collation_table.specs.declared.lookup.Weights.{Ghosts}
use Rattle.collation_finder.specs.declared.finder.Finder.{Finder}
use Rattle.collation_finder.specs.Finding.{IsMadeFor, IsReady}
use Rattle.collation_search.specs.declared.search.Search.{Search}

module _ {W : Type 0} {G : Ghosts W} (search : Search W G) where
  -- it has room for what is sought
  pub made : IsMadeFor (G.table search.query.table.now) search.query.pattern.now search.finder.value
  made = record { longest = search.longest ∙ ap (λ n. n + MOST_GIVEN) search.query.longest; pattern_len = search.pattern_len }

  -- and so has the same one by another way to it
  pub ready : (finder : Finder) → finder ≡ search.finder.value → search.fault ≡ None → IsReady (G.table search.query.table.now) search.query.pattern.now finder
  ready finder same none = record {
    open_text = ap (λ (f : Finder). f.window.has_ended) same ∙ search.«open» none;
    made = record {
      longest = ap (λ (f : Finder). f.window.capacity) same ∙ made.longest;
      pattern_len = ap (λ (f : Finder). f.matcher.walk.places.capacity) same ∙ made.pattern_len;
    };
  }
