-- Whatever bytes follow, the ranges that a search has handed out begin those of the answer.
use Rattle.std.specs.Str.{chars, IsUtf8}
use Rattle.std.proofs.Common.{◌≡◌, ◌∙◌, ◌≤◌, ℕ, true, false, List, [], ◌++◌, length, take, drop, sym, ap, subst, inl, inr}
use Rattle.utf8_cut.specs.Characters.{characters_end}
use Rattle.nfd_points.specs.Points.{points, points_from, byte_len, ordered}
use Rattle.collation_elements.specs.declared.keys.Key.{Key}
use Rattle.collation_elements.specs.declared.keys.Item.{Item}
use Rattle.collation_elements.specs.Clusters.{clusters, clusters_from}
use Rattle.collation_elements.specs.Items.{items}
use Rattle.collation_elements.specs.Units.{units}
use Rattle.collation_elements.specs.Weighing.{after_units}
use Rattle.collation_finder.specs.declared.finder.Finder.{Finder}
use Rattle.collation_matches.specs.Answer.{Answer, answer, answer_at}
use Rattle.collation_matches.specs.ByClusters.{text_begin, found, found_before_last}
use Rattle.collation_matches.specs.ByClustersLaws.{matches_are_found, settled_are_found, items_give_ranges}
use Rattle.collation_finder.specs.Finding.{FinderStandsFor}
use Rattle.collation_matches.specs.GoodPrefix.{fault, good_prefix, prefix_at, whole, is_good_so_far}
use Rattle.collation_matches.specs.Matches.{matches, settled}
use Rattle.collation_matches.specs.Sought.{Sought, IsCompiledFrom, answer_to}
use Rattle.collation_matches.specs.Selecting.{selected}
use Rattle.collation_matches.proofs.LagRanges.{items-append}
use Rattle.collation_matches.proofs.LagTexts.{TextLaws, BeginsWithWhole, begins-append, begins-take, begins-chars, fault_after, no_fault_text}
use Rattle.collation_search.proofs.SearchAnswers.{items_in, has_key}
use Rattle.collation_matches.proofs.SearchLemmas.{either, good_prefix_found}
use Rattle.collation_walk.proofs.WalkSteps.{found_before, walks-begin, walks-begin_settled, walks-select_begin}

-- the ranges begin the list
abbrev pub BeginsRanges : List (ℕ × ℕ) → List (ℕ × ℕ) → Type 0
BeginsRanges ranges all = (rest : List (ℕ × ℕ)) × (all ≡ ranges ++ rest)

-- the items of a text that the code points so far begin: those given, and others after them
pub items_go_on : (s : Sought) (finder : Finder) (taken more : List ℕ) (handed : List (ℕ × ℕ)) → (h : FinderStandsFor s.table s.pattern finder taken handed) → finder.window.has_ended ≡ false →
    (rest : List Item) × (items s.table s.pattern.strength s.pattern.variable false (units s.table (points (taken ++ more))) ≡ h.matched.went.items ++ rest)
items_go_on s finder taken more handed h goes_on =
    let m = h.matched in
    let later = ordered (finder.reorder.held ++ points_from (byte_len taken) more) in
    let all : points (taken ++ more) ≡ h.points ++ later = h.reordered.continues more in
    let never : finder.window.has_ended ≡ true → later ≡ [] = λ e. absurd (false_is_true (sym goes_on ∙ e)) in
    let cut : units s.table (h.points ++ later) ≡ m.units ++ units s.table (finder.window.points ++ later) = m.cut.continues later never in
    let vs = units s.table (finder.window.points ++ later) in
    let rest = items s.table s.pattern.strength s.pattern.variable (after_units s.table s.pattern.variable false m.units) vs in
    let weighed : items s.table s.pattern.strength s.pattern.variable false m.units ≡ m.went.items =
    sym (m.went.weighed.items ∙ ap (λ t. items s.table t finder.matcher.weigher.variable false m.units) m.went.strength ∙ ap (λ v. items s.table s.pattern.strength v false m.units) m.went.variable) in (
      rest,
      ap (λ ps. items s.table s.pattern.strength s.pattern.variable false (units s.table ps)) all
          ∙ ap (λ us. items s.table s.pattern.strength s.pattern.variable false us) cut
          ∙ items-append s.table s.pattern.strength s.pattern.variable false m.units vs
          ∙ ap (λ (t : List Item). t ++ rest) weighed,
    )
  where
    false_is_true : false ≡ true → ⊥
    false_is_true e = cc

-- so their ranges, and those that end before the last cluster
begins_found : (s : Sought) (finder : Finder) (taken more : List ℕ) (handed : List (ℕ × ℕ)) (end : ℕ) → (h : FinderStandsFor s.table s.pattern finder taken handed) → finder.window.has_ended ≡ false →
    (text : List ℕ) → chars text ≡ taken ++ more →
    BeginsRanges (found_before h.matched.went.walked) (found s.pattern.keys (clusters_from text_begin (items_in s text)) end)
    × BeginsRanges (found_before h.matched.went.walked) (found_before_last s.pattern.keys (clusters_from text_begin (items_in s text)) end)
begins_found s finder taken more handed end h goes_on text codes =
    let rest = items_go_on s finder taken more handed h goes_on in
    let all : items_in s text ≡ h.matched.went.items ++ rest.0 =
    ap (λ cs. items s.table s.pattern.strength s.pattern.variable false (units s.table (points cs))) codes ∙ rest.1 in
    let a = walks-begin s.pattern.keys h.matched.went.items handed finder.matcher.walk rest.0 end h.matched.went.walked in
    let b = walks-begin_settled s.pattern.keys h.matched.went.items handed finder.matcher.walk rest.0 end h.matched.went.walked in (
      (a.0, ap (λ (t : List Item). found s.pattern.keys (clusters_from text_begin t) end) all ∙ a.1),
      (b.0, ap (λ (t : List Item). found_before_last s.pattern.keys (clusters_from text_begin t) end) all ∙ b.1),
    )

-- a text that the whole characters of the bytes so far begin
begins_text : TextLaws → (s : Sought) → matches_are_found s.table → settled_are_found s.table → items_give_ranges s.table → (p taken good : List ℕ) (finder : Finder) (handed : List (ℕ × ℕ)) →
    IsCompiledFrom s p → 1 ≤ length s.pattern.keys → IsUtf8 good → BeginsWithWhole taken good →
    (h : FinderStandsFor s.table s.pattern finder (chars (whole taken)) handed) → finder.window.has_ended ≡ false →
    BeginsRanges (found_before h.matched.went.walked) (matches s.table s.pattern.strength s.pattern.variable p good)
    × BeginsRanges (found_before h.matched.went.walked) (settled s.table s.pattern.strength s.pattern.variable p good)
begins_text laws s matches_law settled_law items_law p taken good finder handed compiled some utf8 begins h goes_on =
    let codes = begins-chars laws taken good begins in
    let both = begins_found s finder (chars (whole taken)) (chars (drop (characters_end taken) good)) handed (length good) h goes_on good codes in
    let key = has_key s p compiled some in
    let read = items_law s.pattern.strength s.pattern.variable s.pattern.keys good (length good) in
    let cs = clusters s.table s.pattern.strength s.pattern.variable good in
    let all = matches_law s.pattern.strength s.pattern.variable p good compiled.text utf8 key ∙ ap (λ (ks : List Key). found ks cs (length good)) (sym compiled.keys) ∙ read.0 in
    let ended = settled_law s.pattern.strength s.pattern.variable p good compiled.text utf8 key ∙ ap (λ (ks : List Key). found_before_last ks cs (length good)) (sym compiled.keys) ∙ read.1 in
    ((both.0.0, all ∙ both.0.1), (both.1.0, ended ∙ both.1.1))

-- and of all matches
pub begins-found : TextLaws → (s : Sought) → matches_are_found s.table → settled_are_found s.table → items_give_ranges s.table → (p taken later : List ℕ) (finder : Finder) (handed : List (ℕ × ℕ)) →
    IsCompiledFrom s p → 1 ≤ length s.pattern.keys → is_good_so_far taken ≡ true →
    (h : FinderStandsFor s.table s.pattern finder (chars (whole taken)) handed) → finder.window.has_ended ≡ false →
    BeginsRanges (found_before h.matched.went.walked) (answer s.table s.pattern.strength s.pattern.variable p (taken ++ later)).ranges
begins-found laws s matches_law settled_law items_law p taken later finder handed compiled some open_bytes h goes_on =
    let bytes = taken ++ later in
    let at_fault = answer_at s.table s.pattern.strength s.pattern.variable p bytes in
    elim (either (fault bytes)) [
      | inl none ↦
          let b = begins_text laws s matches_law settled_law items_law p taken bytes finder handed compiled some (no_fault_text laws bytes none) (begins-append laws taken later) h goes_on in
          (b.0.0, ap (λ (a : Answer). a.ranges) (ap at_fault none) ∙ b.0.1)
      | inr bad ↦
          let at = bad.0 in
          let there : good_prefix bytes ≡ take at.offset bytes = ap (prefix_at bytes) bad.1 in
          let good = good_prefix_found laws.text laws.within bytes at bad.1 in
          let text : IsUtf8 (take at.offset bytes) = subst IsUtf8 (sym good.1.taken) good.1.text in
          let begins = begins-take taken bytes at.offset (fault_after laws taken later at open_bytes bad.1) (begins-append laws taken later) in
          let b = begins_text laws s matches_law settled_law items_law p taken (take at.offset bytes) finder handed compiled some text begins h goes_on in
          (b.1.0, ap (λ (a : Answer). a.ranges) (ap at_fault bad.1) ∙ ap (settled s.table s.pattern.strength s.pattern.variable p) there ∙ b.1.1)
    ]

-- so what was handed out begins the answer
pub begins-answer : TextLaws → (s : Sought) → matches_are_found s.table → settled_are_found s.table → items_give_ranges s.table → (p taken later : List ℕ) (finder : Finder) (handed : List (ℕ × ℕ)) →
    finder.matcher.walk.select ≡ s.select → IsCompiledFrom s p → 1 ≤ length s.pattern.keys → is_good_so_far taken ≡ true →
    FinderStandsFor s.table s.pattern finder (chars (whole taken)) handed → finder.window.has_ended ≡ false →
    BeginsRanges handed (answer_to s p (taken ++ later)).ranges
begins-answer laws s matches_law settled_law items_law p taken later finder handed same compiled some open_bytes h goes_on =
    let all = (answer s.table s.pattern.strength s.pattern.variable p (taken ++ later)).ranges in
    let m = h.matched in
    let begins = walks-select_begin s.pattern.keys m.went.items handed finder.matcher.walk all m.went.walked
    (begins-found laws s matches_law settled_law items_law p taken later finder handed compiled some open_bytes h goes_on) in
    (begins.0, ap (λ select. selected select all) (sym same) ∙ begins.1)
