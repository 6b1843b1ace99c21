-- What is still to come, as the walk says it.
use Rattle.std.proofs.Common.{◌≡◌, ◌∙◌, ℕ, ◌++◌, length, drop, true, false, is_some, refl, sym, ap, ap₂, inl, inr, arith}
use Rattle.collation_matches.specs.Sought.{answer_to}
use Rattle.collation_matches.proofs.LagLaw.{contains-in}
use Rattle.collation_matches.proofs.LagTexts.{TextLaws}
use Rattle.collation_matches.proofs.SearchLemmas.{either}
use Rattle.collation_finder.specs.declared.finder.Finder.{Finder}
use Rattle.collation_search.specs.Search.{sought}
use Rattle.collation_search.specs.declared.to_come.ToCome.{ToCome}
use Rattle.collation_search.specs.State.{kept_places, saved_places, state_of}
use Rattle.collation_search.specs.ToCome.{oldest_start, to_come_after}
use Rattle.collation_search.proofs.SavedWalk.{searched-places}
use Rattle.collation_search.proofs.StateLemmas.{state_laws}
use Rattle.collation_search.proofs.ToComeLemmas.{is-to_come, fault-to_come}
use Rattle.collation_search.proofs.UnderWay.{under_way-known}
use Rattle.collation_search.proofs.search.Search.to_come.Goals as goal

pub returns-clause-start : goal.returns-clause-start
returns-clause-start g c = λ text u more handed range compiled h there.
    let search = c.args.self.now in
    let s = sought search in
    let whole = c.whole_characters_are_the_longest_text.ensures in
    let laws : TextLaws = record { text = whole.text; longest = whole.longest; within = whole.within; faults = c.laws_of_faults.ensures.following } in
    let laws_of = c.matches_by_clusters.ensures in
    let bounded = c.clusters_are_parts.ensures.boundaries in
    let goes_on = search.open h.no_fault in
    let order = searched-places bounded laws.text s search.cut search.finder.value search.fault u handed h goes_on in
    let rest = drop (length handed) (answer_to s text (u ++ more)).ranges in
    let come = is-to_come laws bounded s search.finder.value u handed h.found goes_on order laws_of.matches laws_of.settled laws_of.items text more range
    refl compiled h.some_key h.open_bytes (contains-in rest range there) in
    let start = c.oldest_start.ensures ∙ ap (λ (f : Finder). oldest_start f.matcher.walk.start (saved_places (kept_places f.matcher.walk))) c.deref.ensures in
    omega (arith, come.0, start)

pub returns-clause-end : goal.returns-clause-end
returns-clause-end g c = λ text u more handed range compiled h there.
    let search = c.args.self.now in
    let s = sought search in
    let whole = c.whole_characters_are_the_longest_text.ensures in
    let laws : TextLaws = record { text = whole.text; longest = whole.longest; within = whole.within; faults = c.laws_of_faults.ensures.following } in
    let laws_of = c.matches_by_clusters.ensures in
    let bounded = c.clusters_are_parts.ensures.boundaries in
    let goes_on = search.open h.no_fault in
    let order = searched-places bounded laws.text s search.cut search.finder.value search.fault u handed h goes_on in
    let rest = drop (length handed) (answer_to s text (u ++ more)).ranges in
    let come = is-to_come laws bounded s search.finder.value u handed h.found goes_on order laws_of.matches laws_of.settled laws_of.items text more range
    refl compiled h.some_key h.open_bytes (contains-in rest range there) in
    let end = ap (λ (f : Finder). f.matcher.walk.start) c.deref.ensures in
    omega (arith, come.1, end)

pub returns-clause-fault : goal.returns-clause-fault
returns-clause-fault g c = λ u more handed h at is.
    let search = c.args.self.now in
    let whole = c.whole_characters_are_the_longest_text.ensures in
    let laws : TextLaws = record { text = whole.text; longest = whole.longest; within = whole.within; faults = c.laws_of_faults.ensures.following } in
    let behind = fault-to_come laws c.clusters_are_parts.ensures.boundaries (sought search) search.cut search.finder.value search.fault u more handed h (search.open h.no_fault) at is in
    let end = ap (λ (f : Finder). f.matcher.walk.start) c.deref.ensures in
    omega (arith, behind, end)

pub returns-then-is_some-clause-state : goal.returns-then-is_some-clause-state
returns-then-is_some-clause-state g c = λ u handed h.
    let search = c.args.self.now in
    let laws = state_laws c.decided_units_stay.ensures.begin c.laws_of_reordering.ensures.last c.laws_of_reordering.ensures.others in
    let known = under_way-known laws search (sought search) u handed h in
    elim (either search.fault) [
      | inl none ↦ let both : false ≡ true = sym (ap is_some none) ∙ sym c.is_some.ensures ∙ c.if-is_some.true in absurd cc
      | inr some ↦ sym (ap (λ o. to_come_after (state_of search.query.pattern.now search.cut search.finder.value o)) some.1) ∙ ap to_come_after known.state_is
    ]

pub returns-clause-state : goal.returns-clause-state
returns-clause-state g c = λ u handed h.
    let search = c.args.self.now in
    let laws = state_laws c.decided_units_stay.ensures.begin c.laws_of_reordering.ensures.last c.laws_of_reordering.ensures.others in
    let known = under_way-known laws search (sought search) u handed h in
    let start = c.oldest_start.ensures ∙ ap (λ (f : Finder). oldest_start f.matcher.walk.start (saved_places (kept_places f.matcher.walk))) c.deref.ensures in
    let end = ap (λ (f : Finder). f.matcher.walk.start) c.deref.ensures in
    let told : ℕ → ℕ → ToCome = λ a b. record { start = a; end = b } in
    elim (either search.fault) [
      | inl none ↦
          ap₂ told start end
          ∙ sym (ap (λ o. to_come_after (state_of search.query.pattern.now search.cut search.finder.value o)) none) ∙ ap to_come_after known.state_is
      | inr some ↦ let both : true ≡ false = sym (ap is_some some.1) ∙ sym c.is_some.ensures ∙ c.if-is_some.false in absurd cc
    ]
