use Rattle.std.specs.Str.{chars}
use Rattle.std.proofs.Common.{◌∙◌, [], ◌++◌, sym, ap, subst, arith}
use Rattle.std.proofs.lemmas.List.{append-nil}
use Rattle.utf8_cut.specs.Characters.{characters}
use Rattle.collation_matches.specs.GoodPrefix.{fault, whole}
use Rattle.collation_elements.specs.Clusters.{clusters_from}
use Rattle.collation_matches.specs.ByClusters.{text_begin, found}
use Rattle.collation_finder.specs.declared.finder.Finder.{Finder}
use Rattle.collation_finder.specs.Finding.{FinderStandsFor}
use Rattle.collation_search.specs.Search.{sought}
use Rattle.collation_walk.specs.Walks.{WalksOver}
use Rattle.collation_matches.specs.Sought.{answer_to}
use Rattle.collation_matches.specs.Selecting.{selected}
use Rattle.collation_matches.proofs.TextCheckLemmas.{good_end, cut_end, whole_of_good, first_fault-at}
use Rattle.collation_search.proofs.FeedLemmas.{err_of, none_or_some}
use Rattle.collation_search.proofs.FinderLemmas.{ready}
use Rattle.collation_search.proofs.SearchAnswers.{answer-good, answer-at_fault, items_in}
use Rattle.collation_search.proofs.search.Search.end_text.Goals as goal

pub end_text-requires-clause-ready : goal.end_text-requires-clause-ready
end_text-requires-clause-ready g c = ready c.args.self.now _ c.deref_mut.ensures.value c.in_default.is

pub returns-in-Some-clause-ended : goal.returns-in-Some-clause-ended
returns-in-Some-clause-ended g c = record {
  good = λ text u handed compiled h. tt;
  bad = λ text u handed compiled h. absurd (none_or_some c.args.self.now.fault c.in-Some.fault h.no_fault c.in-Some.is);
  again = λ f told. (err_of c.in-Some.fault f (sym c.in-Some.is ∙ told), c.clear.ensures);
  memory = λ kind. c.in-Some.is;
}

pub returns-in-None-clause-ended : goal.returns-in-None-clause-ended
returns-in-None-clause-ended g c = record {
  good = λ text u handed compiled h.
      let s = sought c.args.self.now in
      let none = c.in-None.ensures.stands_for u (characters u) h.cut_stands in
      let good = good_end u h.open_bytes none in
      let there = c.deref_mut.ensures.value in
      let select = c.end_text.ensures.goes_on.setup.select ∙ ap (λ (f : Finder). f.matcher.walk.select) there in
      let walked = c.end_text.ensures.ended.ended (chars (whole u)) handed (subst (λ (f : Finder). FinderStandsFor s.table s.pattern f (chars (whole u)) handed) (sym there) h.found) in
      answer-good s c.matches_by_clusters.ensures.matches c.matches_by_clusters.ensures.items text u (handed ++ c.last.new.found.items) c.count-end.result
      compiled h.some_key (c.whole_characters_are_the_longest_text.ensures.text u) (whole_of_good u h.open_bytes good) (c.count-end.ensures.stands_for u (characters u) h.cut_stands) good
      (c.last.ensures (items_in s (whole u)) handed (subst (λ (f : Finder). WalksOver s.pattern.keys (items_in s (whole u)) (handed ++ c.end_text.new.found.items) f.matcher.walk) (sym c.deref.ensures) walked)
      ∙ ap (λ select. selected select (found s.pattern.keys (clusters_from text_begin (items_in s (whole u))) c.count-end.result)) (ap (λ (f : Finder). f.matcher.walk.select) c.deref.ensures ∙ select));
  bad = λ text u handed compiled h. tt;
  again = λ f told. absurd (none_or_some c.args.self.now.fault f c.in_default.is told);
  memory = tt;
}

pub returns-in-Some-finish-clause-ended : goal.returns-in-Some-finish-clause-ended
returns-in-Some-finish-clause-ended g c = record {
  good = λ text u handed compiled h. tt;
  bad = λ text u handed compiled h.
      let s = sought c.args.self.now in
      let cut = c.in-Some-finish.ensures.stands_for u (characters u) h.cut_stands in
      let within = c.whole_characters_are_the_longest_text.ensures.within u in
      let bad = sym (cut_end u c.in-Some-finish.offset h.open_bytes within cut) in
      let there = c.deref_mut.ensures.value in
      let select = c.end_text.ensures.goes_on.setup.select ∙ ap (λ (f : Finder). f.matcher.walk.select) there in
      let walked = c.end_text.ensures.ended.ended (chars (whole u)) handed (subst (λ (f : Finder). FinderStandsFor s.table s.pattern f (chars (whole u)) handed) (sym there) h.found) in
      let all = append-nil u in
      let answered = answer-at_fault s c.matches_by_clusters.ensures.settled c.matches_by_clusters.ensures.items text u [] (handed ++ c.end_text.new.found.items) c.end_text.new.self.matcher.walk
      (record { kind = 31; offset = c.in-Some-finish.offset }) select compiled h.some_key (c.whole_characters_are_the_longest_text.ensures.text u) within walked (ap fault all ∙ bad)
      (first_fault-at u c.in-Some-finish.offset cut) in
      ap (answer_to s text) (sym all) ∙ answered;
  again = λ f told. absurd (none_or_some c.args.self.now.fault f c.in_default.is told);
  memory = λ kind. absurd (omega (arith, kind));
}
