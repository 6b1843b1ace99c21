-- What a search that goes on saves of its walk is as a state says.
use Rattle.std.specs.Str.{chars, IsUtf8}
use Rattle.std.proofs.Common.{◌≡◌, ℕ, zero, suc, ◌-◌, ◌<◌, ◌≤◌, ◌==◌, Bool, true, false, cond, ◌&&◌, not, List, [], ◌∷◌, ◌++◌, length, drop, map, slice_get, Option, refl, sym, ap, ◌∙◌, subst, arith, inl, inr, append-nil}
use Rattle.std.proofs.lemmas.Bool.{and_parts, eqb-true}
use Rattle.std.proofs.lemmas.List.{length-drop, length-map, length-take-le}
use Rattle.std.proofs.lemmas.Str.{chars-nil}
use Rattle.utf8_cut.specs.Characters.{characters_end, after_characters}
use Rattle.utf8_cut.specs.Value.{CutState}
use Rattle.nfd_points.specs.Points.{byte_len, points_from, points, ordered}
use Rattle.collation_elements.specs.declared.keys.Key.{Key}
use Rattle.collation_elements.specs.declared.keys.Item.{Item}
use Rattle.collation_elements.specs.Units.{units}
use Rattle.collation_elements.specs.Items.{items}
use Rattle.collation_elements.specs.Clusters.{Cluster, clusters, clusters_from, starts}
use Rattle.collation_elements.specs.Context.{BoundariesAreStarts}
use Rattle.circular_buffer.specs.Buffer.{keep_last}
use Rattle.collation_matches.specs.declared.faults.TextFault.{TextFault}
use Rattle.collation_states.specs.Laws.{AreInOrder, begins_with_first}
use Rattle.collation_finder.specs.declared.finder.Finder.{Finder}
use Rattle.collation_walk.specs.declared.walk.KeyPlace.{KeyPlace}
use Rattle.collation_walk.specs.declared.walk.Walk.{Walk}
use Rattle.collation_matches.specs.ByClusters.{PlacedKey, text_begin, placed, placed_at}
use Rattle.collation_finder.specs.Finding.{FinderStandsFor}
use Rattle.collation_matches.specs.GoodPrefix.{whole}
use Rattle.collation_matches.specs.Sought.{Sought}
use Rattle.collation_search.specs.Searching.{Searched}
use Rattle.collation_search.specs.State.{kept_places, saved_places, match_waits, is_first_place}
use Rattle.collation_walk.specs.Walks.{place_of}
use Rattle.collation_matches.proofs.BridgeLists.{In, Rising, in_left, in_right}
use Rattle.collation_matches.proofs.BridgeRanges.{Below}
use Rattle.collation_matches.proofs.BridgeMatches.{rising_boundaries}
use Rattle.collation_matches.proofs.LagRanges.{begins-with}
use Rattle.collation_search.proofs.LastEnds.{StartBy, walks-last_end}
use Rattle.collation_search.proofs.SavingLemmas.{drop-some}
use Rattle.collation_search.proofs.SearchBegins.{items_go_on}
use Rattle.collation_matches.proofs.SearchLemmas.{TextLaw, WithinLaw, either}
use Rattle.collation_matches.proofs.TextCheckLemmas.{open_cut, next_offset}
use Rattle.collation_walk.proofs.WalkSteps.{walks-within}
use Rattle.collation_walk.proofs.RestoredWalk.{kept_places-length}

-- ---- the starts of the clusters of a text rise

-- none starts before `least` nor before the one before it, and none after `most`
abbrev pub InOrder : ℕ → ℕ → List Cluster → Type 0
InOrder least most [] = Unit {0}
InOrder least most (c ∷ cs) = (least ≤ c.start) × (c.start ≤ most) × InOrder c.start most cs

rising-in_order : (before : List Cluster) (current c : Cluster) (following : List Cluster) (end least : ℕ) → current.start ≡ c.start →
    Rising Below (starts (before ++ c ∷ following) ++ end ∷ []) → ((at : ℕ) → In (starts (before ++ c ∷ following)) at → least ≤ at) →
    InOrder least current.start (before ++ current ∷ [])
rising-in_order [] current c following end least same up from = (omega (arith, same, from c.start (inl refl)), omega arith, tt)
rising-in_order (d ∷ before) current c following end least same up from =
    let after : (at : ℕ) → In (starts (before ++ c ∷ following)) at → d.start < at =
    λ at h. up.0 at (in_left (starts (before ++ c ∷ following)) (end ∷ []) at h) in (
      from d.start (inl refl),
      omega (arith, same, after c.start (among before)),
      rising-in_order before current c following end d.start same up.1 (λ at h. omega (arith, after at h)),
    )
  where
    among : (before : List Cluster) → In (starts (before ++ c ∷ following)) c.start
    among [] = inl refl
    among (e ∷ before) = inr (among before)

below-end : (before : List Cluster) (c : Cluster) (following : List Cluster) (end : ℕ) → Rising Below (starts (before ++ c ∷ following) ++ end ∷ []) → c.start < end
below-end [] c following end up = up.0 end (in_right (starts following) (end ∷ []) end (inl refl))
below-end (d ∷ before) c following end up = below-end before c following end up.1

-- ---- their places

abbrev pub ArePlaces : ℕ → ℕ → List KeyPlace → Type 0
ArePlaces least most ps = AreInOrder least most (saved_places ps)

places-from : (least later most : ℕ) (ps : List KeyPlace) → least ≤ later → ArePlaces later most ps → ArePlaces least most ps
places-from least later most [] h places = tt
places-from least later most (p ∷ ps) h places = (omega (arith, h, places.0), places.1, places.2)

places-drop : (least most n : ℕ) (ps : List KeyPlace) → ArePlaces least most ps → ArePlaces least most (drop n ps)
places-drop least most zero ps places = places
places-drop least most (suc n) [] places = tt
places-drop least most (suc n) (p ∷ ps) places = places-from least p.start most (drop n ps) places.0 (places-drop p.start most n ps places.2)

-- the keys of a cluster before others
places-keys : (least most start : ℕ) (is_first : Bool) (ks : List Key) (rest : List PlacedKey) → least ≤ start → start ≤ most → ArePlaces start most (map place_of rest) →
    ArePlaces least most (map place_of (placed_at start is_first ks ++ rest))
places-keys least most start is_first [] rest above below later = places-from least start most (map place_of rest) above later
places-keys least most start is_first (k ∷ ks) rest above below later =
    (above, below, places-keys start most start false ks rest (omega arith) below later)

places-placed : (least most : ℕ) (cs : List Cluster) → InOrder least most cs → ArePlaces least most (map place_of (placed cs))
places-placed least most [] h = tt
places-placed least most (c ∷ cs) h =
    places-keys least most c.start true c.keys (placed cs) h.0 h.1 (places-placed c.start most cs h.2)

-- ---- what a search has walked over

-- the clusters of the walk stand in order in the whole characters
pub record StandsInOrder (before : List Cluster) (current : Cluster) (end : ℕ) : Type 0 where
  pub in_order : InOrder 0 current.start (before ++ current ∷ [])
  pub within : current.start ≤ end

-- the clusters that a text begins with
text-in_order : BoundariesAreStarts → (s : Sought) (text : List ℕ) (before : List Cluster) (current : Cluster) (rest : List Item) → IsUtf8 text → 1 ≤ length text →
    clusters s.table s.pattern.strength s.pattern.variable text ≡ before ++ clusters_from current rest → StandsInOrder before current (length text)
text-in_order law s text before current rest utf8 some all =
    let end = length text in
    let first = begins-with current rest in
    let parts = all ∙ ap (λ (l : List Cluster). before ++ l) first.are in
    let rising : Rising Below (starts (clusters s.table s.pattern.strength s.pattern.variable text) ++ end ∷ []) =
    subst (Rising Below) (law s.table s.pattern.strength s.pattern.variable text utf8) (rising_boundaries s.table text) in
    let up = subst (λ (l : List Cluster). Rising Below (starts l ++ end ∷ [])) parts rising in
    record {
      in_order = rising-in_order before current first.first first.following end 0 (sym first.start) up (λ at h. omega arith);
      within = omega (arith, first.start, below-end before first.first first.following end up);
    }

-- a text without code points has none
no_points : points (chars []) ≡ []
unfolding points_from ordered
no_points = ap points chars-nil

no_items : (items rest : List Item) → [] ≡ items ++ rest → items ≡ []
no_items [] rest h = refl
no_items (i ∷ items) rest h = cc

begin-in_order : (before : List Cluster) (current : Cluster) → text_begin ∷ [] ≡ before ++ current ∷ [] → StandsInOrder before current 0
begin-in_order [] current h =
    let same : text_begin ≡ current = cc in
    let start = ap (λ c. c.start) same in
    record { in_order = (omega (arith, start), omega arith, tt); within = omega (arith, start) }
begin-in_order (d ∷ []) current h = cc
begin-in_order (d ∷ e ∷ before) current h = cc

pub walked-in_order : BoundariesAreStarts → (s : Sought) (finder : Finder) (text : List ℕ) (handed : List (ℕ × ℕ)) → (h : FinderStandsFor s.table s.pattern finder (chars text) handed) → finder.window.has_ended ≡ false →
    IsUtf8 text → StandsInOrder h.matched.went.walked.before h.matched.went.walked.current (length text)
walked-in_order law s finder [] handed h goes_on utf8 =
    let w = h.matched.went.walked in
    let more = items_go_on s finder (chars []) [] handed h goes_on in
    let all_items = items s.table s.pattern.strength s.pattern.variable false in
    let nothing = ap (λ ps. all_items (units s.table ps)) (sym no_points) ∙ ap (λ cs. all_items (units s.table (points cs))) (sym (append-nil (chars []))) ∙ more.1 in
    let none = no_items h.matched.went.items more.0 nothing in
    begin-in_order w.before w.current (ap (clusters_from text_begin) (sym (append-nil h.matched.went.items ∙ none)) ∙ w.clusters [])
walked-in_order law s finder (b ∷ bs) handed h goes_on utf8 =
    let text = b ∷ bs in
    let w = h.matched.went.walked in
    let more = items_go_on s finder (chars text) [] handed h goes_on in
    let all_items = items s.table s.pattern.strength s.pattern.variable false in
    let all = ap (λ cs. clusters_from text_begin (all_items (units s.table (points cs)))) (sym (append-nil (chars text)))
    ∙ ap (clusters_from text_begin) more.1 ∙ w.clusters more.0 in
    text-in_order law s text w.before w.current more.0 utf8 (omega arith) all

-- ---- what a state may say of the walk

-- the bytes before those held are the whole characters
pub searched-whole : WithinLaw → (s : Sought) (cut : CutState) (finder : Finder) (fault : Option TextFault) (taken : List ℕ) (handed : List (ℕ × ℕ)) →
    Searched s.table s.pattern cut finder fault taken handed → cut.count - length cut.held ≡ length (whole taken)
searched-whole within s cut finder fault taken handed h =
    let stands = h.cut_stands in
    let good : cut.is_bad ≡ false = stands.bad ∙ ap not (open_cut taken h.open_bytes) in
    let held : cut.held ≡ after_characters taken = stands.held ∙ ap (λ b. cond b [] (after_characters taken)) good in
    omega (arith, stands.count, ap length held, length-drop (characters_end taken) taken, length-take-le (characters_end taken) taken (within taken), within taken)

pub searched-end : TextLaw → WithinLaw → (s : Sought) (cut : CutState) (finder : Finder) (fault : Option TextFault) (taken : List ℕ) (handed : List (ℕ × ℕ)) →
    Searched s.table s.pattern cut finder fault taken handed → cut.count - length cut.held ≡ byte_len (chars (whole taken))
searched-end text_law within s cut finder fault taken handed h =
    omega (arith, searched-whole within s cut finder fault taken handed h, length-take-le (characters_end taken) taken (within taken), next_offset taken (text_law taken) (within taken))

-- the starts of the clusters of the last keys do not fall, and none is after that of the current one
pub searched-places : BoundariesAreStarts → TextLaw → (s : Sought) (cut : CutState) (finder : Finder) (fault : Option TextFault) (taken : List ℕ) (handed : List (ℕ × ℕ)) →
    Searched s.table s.pattern cut finder fault taken handed → finder.window.has_ended ≡ false →
    ArePlaces 0 finder.matcher.walk.start (kept_places finder.matcher.walk)
searched-places law text_law s cut finder fault taken handed h goes_on =
    let w = h.found.matched.went.walked in
    let order = walked-in_order law s finder (whole taken) handed h.found goes_on (text_law taken) in
    let cs = w.before ++ w.current ∷ [] in
    let ps = map place_of (placed cs) in
    let all : ArePlaces 0 w.current.start ps = places-placed 0 w.current.start cs order.in_order in
    let kept : ArePlaces 0 w.current.start (keep_last finder.matcher.walk.state ps) = places-drop 0 w.current.start (length ps - finder.matcher.walk.state) ps all in
    subst (λ n. ArePlaces 0 n (kept_places finder.matcher.walk)) (sym w.start) (subst (ArePlaces 0 w.current.start) (sym w.places) kept)

-- the current cluster starts within the whole characters
pub searched-start : BoundariesAreStarts → TextLaw → WithinLaw → (s : Sought) (cut : CutState) (finder : Finder) (fault : Option TextFault) (taken : List ℕ) (handed : List (ℕ × ℕ)) →
    Searched s.table s.pattern cut finder fault taken handed → finder.window.has_ended ≡ false →
    finder.matcher.walk.start ≤ cut.count - length cut.held
searched-start law text_law within s cut finder fault taken handed h goes_on =
    let w = h.found.matched.went.walked in
    let order = walked-in_order law s finder (whole taken) handed h.found goes_on (text_law taken) in
    omega (arith, w.start, order.within, searched-whole within s cut finder fault taken handed h)

-- the last range of a chain ends at the start of the current cluster or before
in_order-start_by : (least most : ℕ) (before : List Cluster) (current : Cluster) → InOrder least most (before ++ current ∷ []) → StartBy most before
in_order-start_by least most [] current h = λ start none. absurd none
in_order-start_by least most (d ∷ before) current h =
    λ start there. elim there [
      | inl e ↦ omega (arith, h.1, e)
      | inr later ↦ in_order-start_by d.start most before current h.2 start later
    ]

pub searched-last_end : BoundariesAreStarts → TextLaw → (s : Sought) (cut : CutState) (finder : Finder) (fault : Option TextFault) (taken : List ℕ) (handed : List (ℕ × ℕ)) →
    Searched s.table s.pattern cut finder fault taken handed → finder.window.has_ended ≡ false →
    finder.matcher.walk.last_end ≤ finder.matcher.walk.start
searched-last_end law text_law s cut finder fault taken handed h goes_on =
    let m = h.found.matched in
    let w = m.went.walked in
    let order = walked-in_order law s finder (whole taken) handed h.found goes_on (text_law taken) in
    walks-last_end s.pattern.keys m.went.items handed finder.matcher.walk w (in_order-start_by 0 w.current.start w.before w.current order.in_order)

pub searched-state : (s : Sought) (cut : CutState) (finder : Finder) (fault : Option TextFault) (taken : List ℕ) (handed : List (ℕ × ℕ)) →
    Searched s.table s.pattern cut finder fault taken handed → finder.matcher.walk.state ≤ length s.pattern.keys
searched-state s cut finder fault taken handed h =
    let m = h.found.matched in walks-within s.pattern.keys m.went.items handed finder.matcher.walk m.went.walked

-- what a state says of the walk, where the whole characters end there
pub record WalkIsSaved (pattern_len : ℕ) (walk : Walk) (end : ℕ) : Type 0 where
  pub many : length (saved_places (kept_places walk)) ≡ walk.state
  pub places : ArePlaces 0 walk.start (kept_places walk)
  pub start : walk.start ≤ end
  pub state : walk.state ≤ pattern_len
  pub last_end : walk.last_end ≤ walk.start
  pub waits : match_waits pattern_len walk ≡ true → (walk.state ≡ pattern_len) × (begins_with_first (saved_places (kept_places walk)) ≡ true) × (walk.has_keys ≡ true)

-- a match waits as a state says
saved-match_waits : (pattern_len : ℕ) (walk : Walk) → match_waits pattern_len walk ≡ true →
    (walk.state ≡ pattern_len) × (begins_with_first (saved_places (kept_places walk)) ≡ true) × (walk.has_keys ≡ true)
saved-match_waits pattern_len walk waits =
    let at = length walk.places.items - walk.state in
    let oldest = is_first_place (slice_get walk.places.items at) in
    let a = and_parts walk.has_keys (walk.state == pattern_len && oldest) waits in
    let b = and_parts (walk.state == pattern_len) oldest a.1 in
    (eqb-true walk.state pattern_len b.0, first-place walk.places.items at b.1, a.0)
  where
    first-place : (ps : List KeyPlace) (i : ℕ) → is_first_place (slice_get ps i) ≡ true → begins_with_first (saved_places (drop i ps)) ≡ true
    first-place ps i h =
        elim (either (slice_get ps i)) [
          | inl none ↦ let no : false ≡ true = sym (ap is_first_place none) ∙ h in cc
          | inr some ↦ ap (λ (l : List KeyPlace). begins_with_first (saved_places l)) (drop-some ps i some.0 some.1) ∙ sym (ap is_first_place some.1) ∙ h
        ]

pub walk-saved : BoundariesAreStarts → TextLaw → WithinLaw → (s : Sought) (cut : CutState) (finder : Finder) (fault : Option TextFault) (taken : List ℕ) (handed : List (ℕ × ℕ)) →
    Searched s.table s.pattern cut finder fault taken handed → finder.window.has_ended ≡ false →
    WalkIsSaved (length s.pattern.keys) finder.matcher.walk (cut.count - length cut.held)
walk-saved law text_law within s cut finder fault taken handed h goes_on =
    let m = h.found.matched in
    record {
      many = kept_len finder.matcher.walk ∙ kept_places-length s.pattern.keys m.went.items handed finder.matcher.walk m.went.walked;
      places = searched-places law text_law s cut finder fault taken handed h goes_on;
      start = searched-start law text_law within s cut finder fault taken handed h goes_on;
      state = searched-state s cut finder fault taken handed h;
      last_end = searched-last_end law text_law s cut finder fault taken handed h goes_on;
      waits = saved-match_waits (length s.pattern.keys) finder.matcher.walk;
    }
  where
    kept_len : (walk : Walk) → length (saved_places (kept_places walk)) ≡ length (kept_places walk)
    kept_len walk = length-map (kept_places walk) _
