use Rattle.std.specs.Str.{chars}
use Rattle.std.specs.Prelude.{Option, None, Some, is_some}
use Rattle.std.proofs.Common.{◌≡◌, ◌∙◌, ◌++◌, false, not, refl, sym, ap, subst, rules}
use Rattle.collation_finder.specs.declared.finder.Finder.{Finder}
use Rattle.collation_finder.specs.Finding.{FinderStandsFor}
use Rattle.collation_matches.specs.declared.faults.TextFault.{TextFault}
use Rattle.collation_matches.specs.GoodPrefix.{whole}
use Rattle.collation_search.specs.Search.{sought}
use Rattle.collation_search.proofs.FinderLemmas.{ready}
use Rattle.collation_search.proofs.SearchAnswers.{walked-settled}
use Rattle.collation_search.proofs.search.Search.stop.Goals as goal

pub returns-then-is_none-clause-settled : goal.returns-then-is_none-clause-settled
returns-then-is_none-clause-settled g c = λ text u handed compiled h.
    let s = sought c.args.self in
    let there = c.deref_mut.ensures.value in
    walked-settled (sought c.args.self) c.matches_by_clusters.ensures.settled c.matches_by_clusters.ensures.items text (whole u) (handed ++ c.end.new.found.items) c.end.new.self.matcher.walk
    (c.end.ensures.setup.select ∙ ap (λ (f : Finder). f.matcher.walk.select) there) compiled h.some_key (c.whole_characters_are_the_longest_text.ensures.text u)
    (c.end.ensures.ended.ended (chars (whole u)) handed (subst (λ (f : Finder). FinderStandsFor s.table s.pattern f (chars (whole u)) handed) (sym there) h.found))

none-there : (o : Option TextFault) → is_some o ≡ false → o ≡ None
none-there None h = refl
none-there (Some f) h = absurd cc

pub end-requires-clause-ready : goal.end-requires-clause-ready
end-requires-clause-ready g c = ready c.args.self _ c.deref_mut.ensures.value (none-there c.args.self.fault (c.is_none.ensures ∙ ap not c.if-is_none.true))

pub returns-clause-settled : goal.returns-clause-settled
returns-clause-settled g c = search rules depth 6 steps 300000
