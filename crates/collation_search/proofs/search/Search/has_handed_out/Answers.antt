use Rattle.std.specs.Str.{chars}
use Rattle.std.specs.Prelude.{Contains}
use Rattle.std.proofs.Common.{◌≡◌, ◌∙◌, ◌≤◌, ℕ, List, ◌++◌, length, false, refl, sym, ap, subst, arith}
use Rattle.collation_table.specs.Table.{longest_mapped}
use Rattle.collation_elements.specs.declared.keys.Key.{Key}
use Rattle.collation_elements.specs.declared.keys.Item.{Item}
use Rattle.collation_elements.specs.Clusters.{clusters_from}
use Rattle.collation_elements.specs.Items.{items}
use Rattle.collation_matches.specs.ByClusters.{text_begin, found}
use Rattle.collation_matches.specs.GoodPrefix.{whole}
use Rattle.collation_matches.specs.Lag.{HasReadClusters}
use Rattle.collation_search.specs.Search.{sought}
use Rattle.collation_matches.proofs.LagTexts.{TextLaws}
use Rattle.collation_search.proofs.SearchAnswers.{has_key}
use Rattle.collation_matches.specs.Answer.{answer}
use Rattle.collation_matches.specs.Selecting.{selected}
use Rattle.collation_matches.proofs.FewRanges.{answered-rise}
use Rattle.collation_matches.proofs.LagLaw.{contains-in, in-contains}
use Rattle.collation_matches.proofs.SelectedInTime.{selected-among, selected-early}
use Rattle.collation_search.proofs.FinderLemmas.{made}
use Rattle.collation_search.proofs.StateLemmas.{state_laws, reported-known}
use Rattle.collation_search.proofs.SearchBegins.{begins-answer, begins-found}
use Rattle.collation_search.proofs.search.Search.has_handed_out.Goals as goal

pub returns-clause-begins : goal.returns-clause-begins
returns-clause-begins g c = λ text u later handed compiled h.
    let search = c.args.self.now in
    let laws : TextLaws = record {
      text = c.whole_characters_are_the_longest_text.ensures.text;
      longest = c.whole_characters_are_the_longest_text.ensures.longest;
      within = c.whole_characters_are_the_longest_text.ensures.within;
      faults = c.laws_of_faults.ensures.following;
    } in
    let laws_of = c.matches_by_clusters.ensures in
    begins-answer laws (sought search) laws_of.matches laws_of.settled laws_of.items text u later search.finder.value handed refl compiled h.some_key h.open_bytes h.found (search.open h.no_fault)

pub returns-clause-in_time : goal.returns-clause-in_time
returns-clause-in_time g c = λ text u later handed range compiled h late there.
    let search = c.args.self.now in
    let s = sought search in
    let laws : TextLaws = record {
      text = c.whole_characters_are_the_longest_text.ensures.text;
      longest = c.whole_characters_are_the_longest_text.ensures.longest;
      within = c.whole_characters_are_the_longest_text.ensures.within;
      faults = c.laws_of_faults.ensures.following;
    } in
    let m = h.found.matched in
    let walked = m.went.walked in
    let given : items s.table s.pattern.strength s.pattern.variable false m.units ≡ m.went.items =
    sym (m.went.weighed.items ∙ ap (λ t. items s.table t search.finder.value.matcher.weigher.variable false m.units) m.went.strength ∙ ap (λ v. items s.table s.pattern.strength v false m.units) m.went.variable) in
    let under_way : HasReadClusters s.table s.pattern.strength s.pattern.variable (chars (whole u)) search.finder.value.reorder search.finder.value.window walked.before walked.current =
    record {
      given = h.found.points;
      units = m.units;
      reordered = h.found.reordered;
      cut = m.cut;
      goes_on = search.open h.no_fault;
      clusters = λ rest. ap (λ (t : List Item). clusters_from text_begin (t ++ rest)) given ∙ walked.clusters rest;
    } in
    let few : length search.finder.value.window.points ≤ longest_mapped s.table = omega (arith, search.finder.value.undecided, (made search).longest) in
    let key = has_key s text compiled h.some_key in
    let raw = (answer s.table s.pattern.strength s.pattern.variable text (u ++ later)).ranges in
    let among = contains-in (selected s.select raw) range there in
    let found_there = c.answers_in_time.ensures s.pattern.strength s.pattern.variable text u later search.finder.value.reorder search.finder.value.window walked.before walked.current range
    compiled.text key h.open_bytes under_way few late (in-contains raw range (selected-among s.select raw range among)) in
    let early = found s.pattern.keys walked.before walked.current.start in
    let here : Contains early range = subst (λ (ks : List Key). Contains (found ks walked.before walked.current.start) range) (sym compiled.keys) found_there in
    let laws_of = c.matches_by_clusters.ensures in
    let begins = begins-found laws s laws_of.matches laws_of.settled laws_of.items text u later search.finder.value handed compiled h.some_key h.open_bytes h.found (search.open h.no_fault) in
    let rise = answered-rise s.table s.pattern.strength s.pattern.variable text (u ++ later) in
    let kept = selected-early s.select raw early begins.0 range rise begins.1 (contains-in early range here) among in
    subst (λ (t : List (ℕ × ℕ)). Contains t range) (sym walked.handed_out) (in-contains (selected s.select early) range kept)

pub returns-clause-known : goal.returns-clause-known
returns-clause-known g c = λ u handed h.
    let laws = state_laws c.decided_units_stay.ensures.begin c.laws_of_reordering.ensures.last c.laws_of_reordering.ensures.others in
    let search = c.args.self.now in
    reported-known laws (sought search) search.cut search.finder.value search.fault u handed h refl
