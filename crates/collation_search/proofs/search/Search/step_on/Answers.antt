use Rattle.std.specs.Prelude.{Err}
use Rattle.std.specs.Str.{chars}
use Rattle.std.proofs.Common.{◌≡◌, ◌∙◌, ℕ, List, [], ◌∷◌, ◌++◌, ap, sym, subst, refl, rules, arith}
use Rattle.collation_table.specs.Table.{longest_mapped}
use Rattle.collation_matches.specs.GoodPrefix.{whole}
use Rattle.collation_search.specs.Feeding.{TakesPart}
use Rattle.collation_search.specs.Search.{HasTaken, sought}
use Rattle.collation_matches.specs.Sought.{Sought}
use Rattle.collation_finder.specs.declared.finder.Finder.{Finder}
use Rattle.collation_finder.specs.Finding.{FinderStandsFor}
use Rattle.collation_walk.specs.Walks.{WalksOver}
use Rattle.collation_search.proofs.FeedLemmas.{takes-byte, takes-good, takes-reported}
use Rattle.collation_search.proofs.FinderLemmas.{ready}
use Rattle.collation_search.proofs.SearchAnswers.{answer-at_fault, items_in}
use Rattle.collation_search.proofs.StateLemmas.{reported-at_fault}
use Rattle.collation_search.proofs.search.Search.step_on.Goals as goal

pub returns-in-Some-clause-takes : goal.returns-in-Some-clause-takes
returns-in-Some-clause-takes g c =
    subst (λ (t : List (ℕ × ℕ)). TakesPart c.args.self.now 0 (c.args.byte ∷ []) (Err c.in-Some.fault) t c.args.self.now) (sym c.clear.ensures)
    (takes-reported c.args.self.now 0 (c.args.byte ∷ []) c.in-Some.fault c.in-Some.is)

pub returns-in-Ok-clause-takes : goal.returns-in-Ok-clause-takes
returns-in-Ok-clause-takes g c =
    takes-good c.args.self.now c.take.new.self 0 (c.args.byte ∷ []) c.take.new.found.items (search rules) c.take.ensures.good (search rules)
    (λ place u handed h. c.in-Ok.ensures.stands place u handed h.1)

pub returns-in-Err-clause-takes : goal.returns-in-Err-clause-takes
returns-in-Err-clause-takes g c =
    let table = g.W.Weights.table in
    let old = sought c.args.self.now in
    let new : Sought = record { table = table c.take.new.self.query.table.now; pattern = c.take.new.self.query.pattern.now; select = old.select } in
    let same : new ≡ old = ap (λ q. let s : Sought = record { table = table q.table.now; pattern = q.pattern.now; select = old.select } in s) c.in-Err.ensures.same in
    let there = c.deref_mut.ensures.value in
    let select = c.end.ensures.setup.select ∙ ap (λ (f : Finder). f.matcher.walk.select) there ∙ c.in-Err.ensures.select in
    let walked : (place : ℕ) (u : List ℕ) (handed : List (ℕ × ℕ)) → HasTaken c.args.self.now place u handed → WalksOver old.pattern.keys (items_in old (whole u)) (handed ++ c.end.new.found.items) c.end.new.self.matcher.walk =
    λ place u handed h.
    subst (λ (s : Sought). WalksOver s.pattern.keys (items_in s (whole u)) (handed ++ c.end.new.found.items) c.end.new.self.matcher.walk) same
    (c.end.ensures.ended.ended (chars (whole u)) handed
    (subst (λ (f : Finder). FinderStandsFor new.table new.pattern f (chars (whole u)) handed) (sym there) (c.in-Err.ensures.kept place u handed h))) in
    takes-byte c.args.self.now _ c.args.byte (Err c.in-Err.fault) c.end.new.found.items
    (λ place u handed h. tt)
    (λ place u more handed h.
    reported-at_fault old u (c.args.byte ∷ more) (handed ++ c.end.new.found.items) c.end.new.self.matcher.walk c.in-Err.fault select
    (c.whole_characters_are_the_longest_text.ensures.within u)
    (walked place u handed h) (c.in-Err.ensures.fault place u more handed h) (c.in-Err.ensures.offset place u handed h) (c.in-Err.ensures.closed place u more handed h))
    (λ place text u more handed compiled h.
    answer-at_fault old c.matches_by_clusters.ensures.settled c.matches_by_clusters.ensures.items text u (c.args.byte ∷ more) (handed ++ c.end.new.found.items) c.end.new.self.matcher.walk c.in-Err.fault
    select compiled h.some_key (c.whole_characters_are_the_longest_text.ensures.text u) (c.whole_characters_are_the_longest_text.ensures.within u)
    (walked place u handed h) (c.in-Err.ensures.fault place u more handed h) (c.in-Err.ensures.offset place u handed h))
    (λ place u more handed h. c.in-Err.ensures.closed place u more handed h)
    refl
    (search rules)
    tt
    (search rules)
    (search rules)

pub end-requires-clause-ready : goal.end-requires-clause-ready
end-requires-clause-ready g c = ready c.take.new.self _ c.deref_mut.ensures.value c.take.ensures.good

pub returns-in-Err-clause-few : goal.returns-in-Err-clause-few
returns-in-Err-clause-few g c =
    let same = ap (λ q. longest_mapped (g.W.Weights.table q.table.now)) c.in-Err.ensures.same in
    omega (arith, same, c.end.ensures.few)
