-- What a search knows of the ranges that are still to come.
use Rattle.std.specs.Str.{chars, IsUtf8}
use Rattle.std.proofs.Common.{◌≡◌, ◌∙◌, ℕ, ◌-◌, ◌<◌, ◌≤◌, true, false, List, [], ◌∷◌, ◌++◌, length, drop, map, Option, Some, refl, sym, ap, subst, inl, inr, arith}
use Rattle.std.proofs.lemmas.List.{drop-map, length-map, length-take-le}
use Rattle.utf8_cut.specs.Characters.{characters_end}
use Rattle.nfd_points.specs.Points.{points}
use Rattle.collation_elements.specs.declared.keys.Key.{Key}
use Rattle.collation_elements.specs.declared.keys.Item.{Item}
use Rattle.collation_elements.specs.Clusters.{Cluster, clusters, clusters_from, starts, joined}
use Rattle.collation_elements.specs.Context.{BoundariesAreStarts}
use Rattle.collation_elements.specs.Items.{items}
use Rattle.collation_elements.specs.Units.{units}
use Rattle.collation_pattern.specs.Border.{border}
use Rattle.collation_matches.specs.declared.faults.TextFault.{TextFault}
use Rattle.collation_matches.specs.Answer.{answer}
use Rattle.collation_matches.specs.ByClusters.{PlacedKey, text_begin, found, placed}
use Rattle.collation_matches.specs.ByClustersLaws.{matches_are_found, settled_are_found, items_give_ranges}
use Rattle.collation_matches.specs.GoodPrefix.{fault, whole, is_good_so_far}
use Rattle.collation_matches.specs.Matches.{matches}
use Rattle.collation_matches.specs.Selecting.{selected}
use Rattle.collation_matches.specs.Sought.{Sought, IsCompiledFrom, answer_to}
use Rattle.collation_matches.proofs.BridgeFlat.{keys-placed, length-placed}
use Rattle.collation_matches.proofs.BridgeLists.{In, Rising}
use Rattle.collation_matches.proofs.BridgeMatches.{rising_boundaries}
use Rattle.collation_matches.proofs.BridgeRanges.{Below}
use Rattle.collation_matches.proofs.FewRanges.{answered-rise}
use Rattle.collation_matches.proofs.LagTexts.{TextLaws, BeginsWithWhole, begins-chars, fault_after, answers}
use Rattle.collation_states.specs.Laws.{AreInOrder}
use Rattle.collation_states.specs.State.{SavedPlace}
use Rattle.collation_walk.specs.Walks.{WalksOver, place_of}
use Rattle.collation_walk.specs.declared.walk.KeyPlace.{KeyPlace}
use Rattle.collation_walk.specs.declared.walk.Walk.{Walk}
use Rattle.collation_finder.specs.declared.finder.Finder.{Finder}
use Rattle.collation_finder.specs.Finding.{FinderStandsFor}
use Rattle.collation_search.specs.Searching.{Searched}
use Rattle.collation_search.specs.State.{kept_places, saved_places}
use Rattle.collation_search.specs.ToCome.{oldest_start}
use Rattle.utf8_cut.specs.Value.{CutState}
use Rattle.collation_search.proofs.LaterRanges.{later-only, goes-on, oldest, IsLater, is-later}
use Rattle.collation_search.proofs.SavedWalk.{walked-in_order}
use Rattle.collation_search.proofs.SearchAnswers.{has_key}
use Rattle.collation_search.proofs.SearchBegins.{begins-found, items_go_on}

-- ---- the oldest of the last keys

-- it does not stand behind the start of the current cluster
oldest-within : (start : ℕ) (places : List SavedPlace) → AreInOrder 0 start places → oldest_start start places ≤ start
oldest-within start [] h = omega arith
oldest-within start (place ∷ places) h = omega (arith, h.1)

oldest-saved : (start : ℕ) (ks : List PlacedKey) → oldest_start start (saved_places (map place_of ks)) ≡ oldest start ks
oldest-saved start [] = refl
oldest-saved start (k ∷ ks) = refl

-- of the keys that a walk keeps
oldest-kept : (pattern : List Key) (items : List Item) (ranges : List (ℕ × ℕ)) (w : Walk) → (h : WalksOver pattern items ranges w) →
    let ks = placed (h.before ++ h.current ∷ []) in
    let keys = joined (h.before ++ h.current ∷ []) in
    oldest_start w.start (saved_places (kept_places w)) ≡ oldest w.start (drop (length keys - border pattern keys) ks)
oldest-kept pattern items ranges w h =
    let cs = h.before ++ h.current ∷ [] in
    let ks = placed cs in
    let told : List KeyPlace → ℕ = λ ps. oldest_start w.start (saved_places ps) in
    let place : length (map place_of ks) - w.state ≡ length (joined cs) - border pattern (joined cs) =
    let all = ap (border pattern) (keys-placed cs) in omega (arith, length-map ks place_of, length-placed cs, h.state, all) in
    ap told h.places
    ∙ ap (λ n. told (drop n (map place_of ks))) place
    ∙ ap told (drop-map place_of (length (joined cs) - border pattern (joined cs)) ks)
    ∙ oldest-saved w.start (drop (length (joined cs) - border pattern (joined cs)) ks)

-- ---- a text that goes on

-- what is known of a range that is to come
abbrev pub IsToCome : Walk → ℕ × ℕ → Type 0
IsToCome w range = (oldest_start w.start (saved_places (kept_places w)) ≤ range.0) × (w.start < range.1)

module _ (laws : TextLaws) (bounded : BoundariesAreStarts) (s : Sought) (finder : Finder) (u : List ℕ) (handed : List (ℕ × ℕ))
    (h : FinderStandsFor s.table s.pattern finder (chars (whole u)) handed) (goes_on : finder.window.has_ended ≡ false)
    (in_order : AreInOrder 0 finder.matcher.walk.start (saved_places (kept_places finder.matcher.walk)))
  where
    abbrev walk : Walk
    walk = finder.matcher.walk

    abbrev walked : WalksOver s.pattern.keys h.matched.went.items handed finder.matcher.walk
    walked = h.matched.went.walked

    -- a range of a text that the whole characters begin
    later-in : (good : List ℕ) (range : ℕ × ℕ) → IsUtf8 good → BeginsWithWhole u good →
        In (found s.pattern.keys (clusters s.table s.pattern.strength s.pattern.variable good) (length good)) range →
        (In (found s.pattern.keys walked.before walked.current.start) range → ⊥) →
        IsLater s.pattern.keys walked.before walked.current range
    later-in [] range utf8 begins there fresh = absurd there
    later-in (b ∷ bs) range utf8 begins there fresh =
        let good = b ∷ bs in
        let end = length good in
        let cs = clusters s.table s.pattern.strength s.pattern.variable good in
        let all_items = items s.table s.pattern.strength s.pattern.variable false in
        let more = items_go_on s finder (chars (whole u)) (chars (drop (characters_end u) good)) handed h goes_on in
        let g = goes-on walked.current more.0 in
        let all : cs ≡ walked.before ++ g.first ∷ g.following =
        ap (λ cps. clusters_from text_begin (all_items (units s.table (points cps)))) (begins-chars laws u good begins)
        ∙ ap (clusters_from text_begin) more.1
        ∙ walked.clusters more.0
        ∙ ap (λ (l : List Cluster). walked.before ++ l) g.are in
        let up : Rising Below (starts cs ++ end ∷ []) =
        subst (Rising Below) (bounded s.table s.pattern.strength s.pattern.variable good utf8) (rising_boundaries s.table good) in
        is-later s.pattern.keys end walked.before walked.current g.first g.following g.more range g.start g.keys
        (subst (λ (l : List Cluster). Rising Below (starts l ++ end ∷ [])) all up)
        (subst (λ (l : List Cluster). In (found s.pattern.keys l end) range) all there)
        fresh

    to-come : (range : ℕ × ℕ) → IsLater s.pattern.keys walked.before walked.current range → IsToCome walk range
    to-come range later =
        let kept = oldest-kept s.pattern.keys h.matched.went.items handed walk walked in
        let within = oldest-within walk.start (saved_places (kept_places walk)) in_order in (
          elim later.begins [
            | inl new ↦ omega (arith, within, walked.start, new)
            | inr old ↦ omega (arith, kept, old walk.start)
          ],
          omega (arith, walked.start, later.ends),
        )

    -- a range of the answer behind those that were handed out
    pub is-to_come : matches_are_found s.table → settled_are_found s.table → items_give_ranges s.table → (p more : List ℕ) (range : ℕ × ℕ) →
        finder.matcher.walk.select ≡ s.select → IsCompiledFrom s p → 1 ≤ length s.pattern.keys → is_good_so_far u ≡ true →
        In (drop (length handed) (answer_to s p (u ++ more)).ranges) range → IsToCome walk range
    is-to_come found_law settled_law items_law p more range select compiled some open_bytes there =
        let raw = (answer s.table s.pattern.strength s.pattern.variable p (u ++ more)).ranges in
        let begins = begins-found laws s found_law settled_law items_law p u more finder handed compiled some open_bytes h goes_on in
        let early = found s.pattern.keys walked.before walked.current.start in
        let is : handed ≡ selected s.select early = walked.handed_out ∙ ap (λ which. selected which early) select in
        let fresh = later-only s.select raw early begins.0 handed range (answered-rise s.table s.pattern.strength s.pattern.variable p (u ++ more)) begins.1 is there in
        let a = answers laws s.table s.pattern.strength s.pattern.variable p u more open_bytes in
        let law = found_law s.pattern.strength s.pattern.variable p a.good compiled.text a.text (has_key s p compiled some) in
        let same : matches s.table s.pattern.strength s.pattern.variable p a.good
        ≡ found s.pattern.keys (clusters s.table s.pattern.strength s.pattern.variable a.good) (length a.good) =
        law ∙ ap (λ (ks : List Key). found ks (clusters s.table s.pattern.strength s.pattern.variable a.good) (length a.good)) (sym compiled.keys) in
        to-come range
        (later-in a.good range a.text a.begins (subst (λ (rs : List (ℕ × ℕ)). In rs range) same (a.ranges range fresh.0)) fresh.1)

-- a fault stands at the start of the current cluster or later
pub fault-to_come : TextLaws → BoundariesAreStarts → (s : Sought) (cut : CutState) (finder : Finder) (reported : Option TextFault) (u more : List ℕ) (handed : List (ℕ × ℕ)) →
    Searched s.table s.pattern cut finder reported u handed → finder.window.has_ended ≡ false →
    (at : TextFault) → fault (u ++ more) ≡ Some at → finder.matcher.walk.start ≤ at.offset
fault-to_come laws bounded s cut finder reported u more handed h goes_on at is =
    let w = h.found.matched.went.walked in
    let order = walked-in_order bounded s finder (whole u) handed h.found goes_on (laws.text u) in
    let behind = fault_after laws u more at h.open_bytes is in
    omega (arith, w.start, order.within, behind, length-take-le (characters_end u) u (laws.within u))
