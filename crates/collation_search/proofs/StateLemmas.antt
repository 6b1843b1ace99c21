-- What a search holds and has handed out is a function of the bytes that it took.
use Rattle.std.specs.Str.{chars}
use Rattle.std.proofs.Common.{◌≡◌, ◌∙◌, ℕ, zero, suc, ◌-◌, ◌≤◌, ◌==◌, nat_lt, Bool, true, false, cond, ◌&&◌, not, List, [], ◌∷◌, ◌++◌, length, map, drop, slice_get, take, Option, None, Some, refl, sym, ap, ap₂, arith}
use Rattle.std.proofs.lemmas.Bool.{cond-true, cond-false, eqb-true}
use Rattle.std.proofs.lemmas.List.{append-nil, append_cancel_right, drop-map, length-map, take-append-le}
use Rattle.std.proofs.lemmas.Str.{chars-nil}
use Rattle.utf8_cut.specs.Characters.{after_characters, characters_end}
use Rattle.utf8_cut.specs.Value.{CutState}
use Rattle.circular_buffer.specs.Buffer.{keep_last}
use Rattle.nfd_points.specs.declared.points.Point.{Point}
use Rattle.nfd_points.specs.Points.{points_from, points, ordered}
use Rattle.nfd_points.specs.Reordering.{up_to_last_starter}
use Rattle.nfd_points.specs.Laws.{GivenAreFinal, WaitingAreOthers}
use Rattle.collation_table.specs.Table.{TableMap}
use Rattle.collation_elements.specs.declared.keys.Key.{Key}
use Rattle.collation_elements.specs.declared.keys.Item.{Item}
use Rattle.collation_elements.specs.Clusters.{Cluster, clusters_from, clusters_of}
use Rattle.collation_elements.specs.Decided.{decided_units, left_points, DecidedUnitsBegin}
use Rattle.collation_elements.specs.Items.{items}
use Rattle.collation_elements.specs.Units.{units}
use Rattle.collation_elements.specs.Weighing.{after_units}
use Rattle.collation_matches.specs.declared.faults.TextFault.{TextFault}
use Rattle.collation_matches.specs.ByClusters.{PlacedKey, text_begin, has_keys, ended, found_before_last, placed}
use Rattle.collation_matches.specs.GoodPrefix.{fault, good_prefix, is_good_so_far, prefix_at, whole}
use Rattle.collation_matches.specs.Selecting.{selected, remembered}
use Rattle.collation_matches.specs.Sought.{Sought}
use Rattle.collation_matches.proofs.TextCheckLemmas.{open_cut}
use Rattle.collation_states.specs.State.{SavedPlace, State}
use Rattle.collation_finder.specs.declared.finder.Finder.{Finder}
use Rattle.collation_walk.specs.declared.walk.KeyPlace.{KeyPlace}
use Rattle.collation_walk.specs.declared.walk.Walk.{Walk}
use Rattle.collation_search.specs.Searching.{Searched}
use Rattle.collation_search.specs.State.{kept_places, saved_places, is_first_place, match_waits, open_state}
use Rattle.collation_search.specs.StateAfter.{final_points, waiting_points, fault_so_far, IsReported, known_units, known_clusters, reported_after, last_cluster, last_places, open_after}
use Rattle.collation_walk.specs.Walks.{WalksOver, place_of}
use Rattle.collation_search.proofs.SearchAnswers.{items_in}
use Rattle.collation_walk.proofs.WalkSteps.{all_clusters, ended_at, range_at, walks-settled}

-- ---- lists

last_cluster-last : (before : List Cluster) (c : Cluster) → last_cluster (before ++ c ∷ []) ≡ c
last_cluster-last [] c = refl
last_cluster-last (d ∷ []) c = refl
last_cluster-last (d ∷ e ∷ before) c = last_cluster-last (e ∷ before) c

abbrev as_saved : PlacedKey → SavedPlace
as_saved k = record { start = k.start; is_first = k.is_first }

places-saved : (ks : List PlacedKey) → saved_places (map place_of ks) ≡ map as_saved ks
places-saved [] = refl
places-saved (k ∷ ks) = ap (λ ps. as_saved k ∷ ps) (places-saved ks)

-- the last n of them
last_saved : (n : ℕ) (ks : List PlacedKey) → saved_places (keep_last n (map place_of ks)) ≡ map as_saved (drop (length ks - n) ks)
last_saved n ks =
    ap (λ m. saved_places (drop (m - n) (map place_of ks))) (length-map ks place_of)
    ∙ ap saved_places (drop-map place_of (length ks - n) ks)
    ∙ places-saved (drop (length ks - n) ks)

drop-length : (xs ys : List Point) → drop (length xs) (xs ++ ys) ≡ ys
drop-length [] ys = refl
drop-length (x ∷ xs) ys = drop-length xs ys

-- ---- no bytes

abbrev no_bytes : List ℕ
no_bytes = []

take-none : (n : ℕ) → take n no_bytes ≡ no_bytes
take-none zero = refl
take-none (suc n) = refl

none_whole : whole no_bytes ≡ no_bytes
none_whole = take-none (characters_end no_bytes)

no_points : points [] ≡ []
unfolding points_from ordered
no_points = refl

none_final : final_points [] ≡ []
unfolding up_to_last_starter
none_final = ap up_to_last_starter no_points

pub none-left : (table : TableMap) → left_points table (final_points (chars (whole []))) ≡ []
none-left table = ap (λ bs. left_points table (final_points (chars bs))) none_whole ∙ ap (λ cs. left_points table (final_points cs)) chars-nil ∙ ap (left_points table) none_final

-- ---- whether a match waits

first-waits : (ps : List KeyPlace) (end : ℕ) → is_first_place (slice_get ps 0) ≡ nat_lt 0 (length (range_at ps end))
first-waits [] end = refl
first-waits (p ∷ ps) end = by_flag p.is_first where
  by_flag : (b : Bool) → b ≡ nat_lt 0 (length {A = ℕ × ℕ} (cond b ((p.start, end) ∷ []) []))
  by_flag true = refl
  by_flag false = refl

waits-if : (keys matched first : Bool) (ranges : List (ℕ × ℕ)) → (matched ≡ true → first ≡ nat_lt 0 (length ranges)) →
    (keys && (matched && first)) ≡ nat_lt 0 (length (cond keys (cond matched ranges []) []))
waits-if true true first ranges h = h refl
waits-if true false first ranges h = refl
waits-if false matched first ranges h = refl

walk-waits : (pattern : List Key) (items : List Item) (ranges : List (ℕ × ℕ)) (w : Walk) (end : ℕ) → (h : WalksOver pattern items ranges w) →
    match_waits (length pattern) w ≡ nat_lt 0 (length (ended pattern (h.before ++ h.current ∷ []) end))
walk-waits pattern items ranges w end h =
    waits-if w.has_keys (w.state == length pattern) (is_first_place (slice_get w.places.items (length w.places.items - w.state))) (range_at w.places.items end)
    (λ matched.
    let all = eqb-true w.state (length pattern) matched in
    let few = h.few in
    let none : length w.places.items - w.state ≡ 0 = omega (arith, all, few) in
    ap (λ n. is_first_place (slice_get w.places.items n)) none ∙ first-waits w.places.items end)
    ∙ ap (λ rs. nat_lt 0 (length rs)) (sym (ended_at h end))

-- ---- a state

abbrev state_with : ℕ → List ℕ → Bool → ℕ → Bool → Bool → ℕ → List SavedPlace → List Point → List Point → State
state_with taken held after start keys waits end places window waiting = record {
  taken = taken;
  fault = None;
  held = held;
  after_variable = after;
  start = start;
  has_keys = keys;
  waits = waits;
  last_end = end;
  places = places;
  window = window;
  waiting = waiting;
}

-- ---- at a fault

-- where the whole characters of the first bytes end at a fault, the ranges of all units before it are reported
pub reported-at_fault : (s : Sought) (u rest : List ℕ) (ranges : List (ℕ × ℕ)) (w : Walk) (f : TextFault) → w.select ≡ s.select → characters_end u ≤ length u →
    WalksOver s.pattern.keys (items_in s (whole u)) ranges w → fault (u ++ rest) ≡ Some f → f.offset ≡ characters_end u → is_good_so_far (u ++ rest) ≡ false → IsReported s (u ++ rest) ranges (Some f)
reported-at_fault s u rest ranges w f select within walked bad at closed =
    let prefix : good_prefix (u ++ rest) ≡ whole u = ap (prefix_at (u ++ rest)) bad ∙ ap (λ n. take n (u ++ rest)) at ∙ take-append-le (characters_end u) u rest within in
    let all : known_units s.table (u ++ rest) ≡ units s.table (points (chars (whole u))) = cond-false _ _ _ closed ∙ ap (λ t. units s.table (points (chars t))) prefix in
    let end = length (u ++ rest) in (
      walks-settled s.pattern.keys (items_in s (whole u)) ranges w end walked
          ∙ ap (λ which. selected which (found_before_last s.pattern.keys (clusters_from text_begin (items_in s (whole u))) end)) select
          ∙ sym (ap (λ us. selected s.select (found_before_last s.pattern.keys (clusters_of (items s.table s.pattern.strength s.pattern.variable false us)) end)) all),
      sym (cond-false _ _ _ closed ∙ bad),
    )

-- ---- a search

pub record StateLaws : Type 0 where
  pub begin : DecidedUnitsBegin
  pub last : GivenAreFinal
  pub others : WaitingAreOthers

pub state_laws : DecidedUnitsBegin → GivenAreFinal → WaitingAreOthers → StateLaws
state_laws begin last others = record { begin = begin; last = last; others = others }

module _ (laws : StateLaws) (s : Sought) (cut : CutState) (finder : Finder) (fault : Option TextFault) (u : List ℕ) (handed : List (ℕ × ℕ))
    (h : Searched s.table s.pattern cut finder fault u handed) (select : finder.matcher.walk.select ≡ s.select) where
  abbrev cs : List ℕ
  cs = chars (whole u)

  given-final : h.found.points ≡ final_points cs
  given-final = laws.last finder.reorder cs h.found.points h.found.reordered

  -- the units that were cut are those that are decided
  units-decided : h.found.matched.units ≡ decided_units s.table (final_points cs)
  units-decided =
      let m = h.found.matched in
      let rest = units s.table (left_points s.table (final_points cs)) in
      let all : units s.table (h.found.points ++ []) ≡ m.units ++ units s.table (finder.window.points ++ []) = m.cut.continues [] (λ e. refl) in
      let cut_here : m.units ++ rest ≡ units s.table (final_points cs) =
      ap (λ ps. m.units ++ units s.table ps) (sym (append-nil finder.window.points ∙ h.left)) ∙ sym all ∙ ap (units s.table) (append-nil h.found.points ∙ given-final) in
      append_cancel_right m.units (decided_units s.table (final_points cs)) rest (cut_here ∙ laws.begin s.table (final_points cs))

  units-known : h.found.matched.units ≡ known_units s.table u
  units-known = units-decided ∙ sym (cond-true _ _ _ h.open_bytes)

  items-known : h.found.matched.went.items ≡ items s.table s.pattern.strength s.pattern.variable false (known_units s.table u)
  items-known =
      let m = h.found.matched in
      m.went.weighed.items ∙ ap₂ (λ strength variable. items s.table strength variable false m.units) m.went.strength m.went.variable
      ∙ ap (items s.table s.pattern.strength s.pattern.variable false) units-known

  clusters-known : known_clusters s u ≡ h.found.matched.went.walked.before ++ h.found.matched.went.walked.current ∷ []
  clusters-known = ap (clusters_from text_begin) (sym items-known) ∙ all_clusters h.found.matched.went.walked

  -- what was handed out is what is reported by then
  pub reported-known : handed ≡ reported_after s u
  reported-known =
      walks-settled s.pattern.keys h.found.matched.went.items handed finder.matcher.walk (length u) h.found.matched.went.walked
      ∙ ap (λ which. selected which (found_before_last s.pattern.keys (clusters_from text_begin h.found.matched.went.items) (length u))) select
      ∙ ap (λ its. selected s.select (found_before_last s.pattern.keys (clusters_from text_begin its) (length u))) items-known

  -- and no fault
  pub fault-known : None ≡ fault_so_far u
  fault-known = sym (cond-true _ _ _ h.open_bytes)

  held-known : cut.held ≡ after_characters u
  held-known =
      let sound : cut.is_bad ≡ false = h.cut_stands.bad ∙ ap not (open_cut u h.open_bytes) in
      h.cut_stands.held ∙ ap (λ b. cond b [] (after_characters u)) sound

  current-known : finder.matcher.walk.start ≡ (last_cluster (known_clusters s u)).start
  current-known =
      let w = h.found.matched.went.walked in
      w.start ∙ sym (ap (λ cs'. (last_cluster cs').start) clusters-known ∙ ap (λ (c : Cluster). c.start) (last_cluster-last w.before w.current))

  keys-known : finder.matcher.walk.has_keys ≡ has_keys (last_cluster (known_clusters s u))
  keys-known =
      let w = h.found.matched.went.walked in
      w.has_keys ∙ sym (ap (λ cs'. has_keys (last_cluster cs')) clusters-known ∙ ap has_keys (last_cluster-last w.before w.current))

  after-known : finder.matcher.weigher.after_variable ≡ after_units s.table s.pattern.variable false (known_units s.table u)
  after-known =
      let m = h.found.matched in
      m.went.weighed.after ∙ ap (λ v. after_units s.table v false m.units) m.went.variable ∙ ap (after_units s.table s.pattern.variable false) units-known

  waits-known : match_waits (length s.pattern.keys) finder.matcher.walk ≡ nat_lt 0 (length (ended s.pattern.keys (known_clusters s u) (length u)))
  waits-known =
      walk-waits s.pattern.keys h.found.matched.went.items handed finder.matcher.walk (length u) h.found.matched.went.walked
      ∙ ap (λ cs'. nat_lt 0 (length (ended s.pattern.keys cs' (length u)))) (sym clusters-known)

  end-known : finder.matcher.walk.last_end ≡ remembered s.select (reported_after s u)
  end-known = h.found.matched.went.walked.last_end ∙ ap₂ remembered select reported-known

  places-known : saved_places (kept_places finder.matcher.walk) ≡ last_places s (placed (known_clusters s u))
  places-known =
      let w = h.found.matched.went.walked in
      let ks = placed (w.before ++ w.current ∷ []) in
      ap saved_places w.places ∙ last_saved finder.matcher.walk.state ks
      ∙ ap (λ n. map as_saved (drop (length ks - n) ks)) w.state
      ∙ ap (λ cs'. last_places s (placed cs')) (sym clusters-known)

  waiting-known : finder.reorder.held ≡ waiting_points cs
  waiting-known =
      let all : points cs ≡ final_points cs ++ finder.reorder.held =
      laws.others finder.reorder cs h.found.points h.found.reordered ∙ ap (λ ps. ps ++ finder.reorder.held) given-final in
      sym (ap (drop (length (final_points cs))) all ∙ drop-length (final_points cs) finder.reorder.held)

  -- the state that it holds is the one after these bytes
  pub state-known : open_state s.pattern cut finder ≡ open_after s u
  state-known =
      let c = known_clusters s u in
      let waits = nat_lt 0 (length (ended s.pattern.keys c (length u))) in
      let after = after_units s.table s.pattern.variable false (known_units s.table u) in
      let start = (last_cluster c).start in
      let keys = has_keys (last_cluster c) in
      let end = remembered s.select (reported_after s u) in
      ap₂ (λ t hd. state_with t hd finder.matcher.weigher.after_variable finder.matcher.walk.start finder.matcher.walk.has_keys (match_waits (length s.pattern.keys) finder.matcher.walk) finder.matcher.walk.last_end (saved_places (kept_places finder.matcher.walk)) finder.window.points finder.reorder.held) h.cut_stands.count held-known
      ∙ ap₂ (λ a b. state_with (length u) (after_characters u) a b finder.matcher.walk.has_keys (match_waits (length s.pattern.keys) finder.matcher.walk) finder.matcher.walk.last_end (saved_places (kept_places finder.matcher.walk)) finder.window.points finder.reorder.held) after-known current-known
      ∙ ap₂ (λ a b. state_with (length u) (after_characters u) after start a b finder.matcher.walk.last_end (saved_places (kept_places finder.matcher.walk)) finder.window.points finder.reorder.held) keys-known waits-known
      ∙ ap₂ (λ a b. state_with (length u) (after_characters u) after start keys waits a b finder.window.points finder.reorder.held) end-known places-known
      ∙ ap₂ (λ a b. state_with (length u) (after_characters u) after start keys waits end (last_places s (placed c)) a b) h.left waiting-known
