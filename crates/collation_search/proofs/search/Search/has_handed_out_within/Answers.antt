use Rattle.std.proofs.Common.{refl}
use Rattle.collation_search.specs.Search.{sought}
use Rattle.collation_matches.proofs.LagTexts.{TextLaws}
use Rattle.collation_search.proofs.SearchBegins.{begins-answer}
use Rattle.collation_search.proofs.search.Search.has_handed_out_within.Goals as goal

pub returns : goal.returns
returns g c = λ place text taken later handed compiled h.
    let search = c.args.self.now in
    let laws : TextLaws = record {
      text = c.whole_characters_are_the_longest_text.ensures.text;
      longest = c.whole_characters_are_the_longest_text.ensures.longest;
      within = c.whole_characters_are_the_longest_text.ensures.within;
      faults = c.laws_of_faults.ensures.following;
    } in
    let laws_of = c.matches_by_clusters.ensures in
    begins-answer laws (sought search) laws_of.matches laws_of.settled laws_of.items text taken later search.finder.value handed refl compiled h.some_key h.open_bytes h.found (search.open h.no_fault)
