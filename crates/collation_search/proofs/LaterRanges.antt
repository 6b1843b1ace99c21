-- Ranges that end with a cluster which has not ended yet: they end behind its start, and of the keys so far they have those at most that
-- begin the pattern.
use Rattle.std.proofs.Common.{◌≡◌, ◌⊎◌, ℕ, zero, suc, ◌+◌, ◌-◌, ◌<◌, ◌≤◌, ◌==◌, Bool, true, false, cond, List, [], ◌∷◌, ◌++◌, length, take, drop, min, refl, sym, ap, ◌∙◌, subst, arith, inl, inr, length-append, append_assoc}
use Rattle.std.proofs.lemmas.Bool.{cases_Bool, cases_lt, cond-true, cond-false, le-leb, ltb-true}
use Rattle.std.proofs.lemmas.List.{append-nil, append_cancel_left, take-append-drop, take-append-le, take_all}
use Rattle.std.proofs.lemmas.List.Concat.{flat_map-append}
use Rattle.collation_elements.specs.declared.keys.Key.{Key}
use Rattle.collation_elements.specs.declared.keys.Item.{Item}
use Rattle.collation_elements.specs.declared.keys.Item.TheVariants.{ClusterStart, Element}
use Rattle.collation_elements.specs.Clusters.{Cluster, clusters_from, starts, joined}
use Rattle.collation_pattern.specs.Border.{same_keys, ends_with_prefix, border_up_to, border}
use Rattle.collation_pattern.proofs.KeyEquality.{same_keys-same}
use Rattle.collation_matches.specs.declared.select.Select.{Select}
use Rattle.collation_matches.specs.declared.select.Select.TheVariants.{All, Chain}
use Rattle.collation_matches.specs.ByClusters.{PlacedKey, found, found_within, placed, placed_at}
use Rattle.collation_matches.specs.Selecting.{chain_after, chain, selected, remembered}
use Rattle.collation_matches.proofs.BridgeClusters.{bound, bound_in, bound_rises, prefix, keyed}
use Rattle.collation_matches.proofs.BridgeFound.{in_found, found_in}
use Rattle.collation_matches.proofs.BridgeGrowing.{take_prefix, found-prefix}
use Rattle.collation_matches.proofs.BridgeLists.{In, Rising, in_right}
use Rattle.collation_matches.proofs.BridgeRanges.{Below}
use Rattle.collation_matches.proofs.FewRanges.{From}
use Rattle.collation_matches.proofs.SelectedInTime.{selected-among}
use Rattle.collation_matches.proofs.SelectingLemmas.{selected_after, selected-append, chain-taken}

-- ---- ranges behind those that were handed out

-- no range stands twice in a list whose starts rise
rising_once : (early later : List (ℕ × ℕ)) (range : ℕ × ℕ) → Rising From (early ++ later) → In early range → In later range → ⊥
rising_once [] later range up here there = absurd here
rising_once (first ∷ early) later range up (inl here) there =
    let less = up.0 range (in_right early later range there) in
    let same = ap (λ (r : ℕ × ℕ). r.0) here in
    omega (arith, less, same)
rising_once (first ∷ early) later range up (inr here) there = rising_once early later range up.1 here there

-- what goes on a chain is among the ranges: a chain of these has it too behind another range that ends there
among-after : (select : Select) (end : ℕ) (ranges : List (ℕ × ℕ)) (range : ℕ × ℕ) → In (selected_after select end ranges) range → In ranges range
among-after All end ranges range h = h
among-after Chain end ranges range h =
    let other : ℕ × ℕ = (suc range.0, end) in
    let taken : chain (other ∷ ranges) ≡ other ∷ chain_after end ranges = chain-taken 0 other ranges (le-leb 0 other.0 (omega arith)) in
    let there : In (chain (other ∷ ranges)) range = subst (λ (rs : List (ℕ × ℕ)). In rs range) (sym taken) (inr h) in
    elim (selected-among Chain (other ∷ ranges) range there) [
      | inl same ↦ absurd (omega (arith, ap (λ (r : ℕ × ℕ). r.0) same))
      | inr among ↦ among
    ]

drop-length : {A : Type 0} (xs ys : List A) → drop (length xs) (xs ++ ys) ≡ ys
drop-length [] ys = refl
drop-length (x ∷ xs) ys = drop-length xs ys

-- a range behind those that were handed out is not among those that were found before
pub later-only : (select : Select) (all early later handed : List (ℕ × ℕ)) (range : ℕ × ℕ) → Rising From all → all ≡ early ++ later → handed ≡ selected select early →
    In (drop (length handed) (selected select all)) range → In all range × (In early range → ⊥)
later-only select all early later handed range up parts is h =
    let after = selected_after select (remembered select (selected select early)) later in
    let split : selected select all ≡ handed ++ after =
    ap (selected select) parts ∙ selected-append select early later ∙ ap (λ (rs : List (ℕ × ℕ)). rs ++ after) (sym is) in
    let there : In after range = subst (λ (rs : List (ℕ × ℕ)). In rs range) (ap (drop (length handed)) split ∙ drop-length handed after) h in
    let behind = among-after select (remembered select (selected select early)) later range there in (
      subst (λ (rs : List (ℕ × ℕ)). In rs range) (sym parts) (in_right early later range behind),
      λ before. rising_once early later range (subst (Rising From) parts up) before behind,
    )

-- ---- clusters that go on

-- the first of the clusters starts where the one that has begun does, and goes on with its keys
pub record GoesOnWithKeys (begun : Cluster) (cs : List Cluster) : Type 0 where
  pub first : Cluster
  pub following : List Cluster
  pub more : List Key
  pub are : cs ≡ first ∷ following
  pub start : first.start ≡ begun.start
  pub keys : first.keys ≡ begun.keys ++ more

goes-on-either : (begun : Cluster) (b : Bool) (cs ds : List Cluster) → GoesOnWithKeys begun cs → GoesOnWithKeys begun ds → GoesOnWithKeys begun (cond b cs ds)
goes-on-either begun true cs ds h k = h
goes-on-either begun false cs ds h k = k

pub goes-on : (begun : Cluster) (is : List Item) → GoesOnWithKeys begun (clusters_from begun is)
goes-on begun [] = record { first = begun; following = []; more = []; are = refl; start = refl; keys = sym (append-nil begun.keys) }
goes-on begun (Element k ∷ is) =
    let g = goes-on (record { start = begun.start; keys = begun.keys ++ k ∷ [] }) is in
    record { first = g.first; following = g.following; more = k ∷ g.more; are = g.are; start = g.start; keys = g.keys ∙ append_assoc begun.keys (k ∷ []) g.more }
goes-on begun (ClusterStart s ∷ is) =
    let next : Cluster = record { start = s; keys = [] } in
    goes-on-either begun (s == 0) (clusters_from begun is) (begun ∷ clusters_from next is)
    (goes-on begun is)
    (record { first = begun; following = clusters_from next is; more = []; are = refl; start = refl; keys = sym (append-nil begun.keys) })

-- ---- the border

-- no longer prefix of the pattern ends the keys
border_up_to-greatest : (pattern ks : List Key) (m j : ℕ) → j ≤ m → ends_with_prefix pattern ks j ≡ true → j ≤ border_up_to pattern ks m
border_up_to-greatest pattern ks zero j h ends = omega (arith, h)
border_up_to-greatest pattern ks (suc m) j h ends =
    let shorter = border_up_to pattern ks m in
    elim (cases_Bool (ends_with_prefix pattern ks (suc m))) [
      | inl yes' ↦ omega (arith, h, cond-true (ends_with_prefix pattern ks (suc m)) (suc m) shorter yes')
      | inr no' ↦
          elim (cases_lt j (suc m)) [
            | inl less ↦
                let rest = border_up_to-greatest pattern ks m j (omega arith) ends in
                omega (arith, rest, cond-false (ends_with_prefix pattern ks (suc m)) (suc m) shorter no')
            | inr more ↦
                let same : j ≡ suc m = omega arith in
                let both : true ≡ false = sym ends ∙ ap (ends_with_prefix pattern ks) same ∙ no' in
                absurd cc
          ]
    ]

-- keys that begin the pattern and end the keys so far are at most as many as the border says
border-greatest : (pattern before last more : List Key) → last ++ more ≡ pattern → length last ≤ border pattern (before ++ last)
border-greatest pattern before last more fits =
    let ks = before ++ last in
    let n = length last in
    let total = length-append before last in
    let place : length ks - n ≡ length before = omega (arith, total) in
    let ends : drop (length ks - n) ks ≡ last = ap (λ i. drop i ks) place ∙ drop-length before last in
    let begins : take n pattern ≡ last = ap (take n) (sym fits) ∙ take-append-le n last more (omega arith) ∙ take_all n last (omega arith) in
    let test : ends_with_prefix pattern ks n ≡ true =
    ap (λ (ls : List Key). same_keys ls (take n pattern)) ends ∙ ap (same_keys last) begins ∙ same_keys-same last in
    border_up_to-greatest pattern ks (min (length pattern) (length ks)) n
    (omega (arith, total, ap (λ (ls : List Key). length ls) fits, length-append last more)) test

-- ---- the keys so far

-- the keys before a cluster and from it on, up to the current one
keys-from : (before : List Cluster) (current : Cluster) (a : ℕ) →
    joined (before ++ current ∷ []) ≡ prefix before a ++ joined (drop a before ++ current ∷ [])
keys-from before current a =
    let rest = drop a before ++ current ∷ [] in
    ap (λ (cs : List Cluster). joined (cs ++ current ∷ [])) (sym (take-append-drop a before))
    ∙ ap joined (append_assoc (take a before) (drop a before) (current ∷ []))
    ∙ flat_map-append (λ (c : Cluster). c.keys) (take a before) rest

-- clusters up to one behind the current one have the keys so far, and more
keys-upto : (before : List Cluster) (current c : Cluster) (following : List Cluster) (more : List Key) (upto : ℕ) → c.keys ≡ current.keys ++ more → length before ≤ upto →
    (later : List Key) × (prefix (before ++ c ∷ following) (suc upto) ≡ joined (before ++ current ∷ []) ++ later)
keys-upto [] current c following more upto same h =
    let later = more ++ prefix following upto in (
      later,
      ap (λ (ks : List Key). ks ++ prefix following upto) same
          ∙ append_assoc current.keys more (prefix following upto)
          ∙ ap (λ (ks : List Key). ks ++ later) (sym (append-nil current.keys)),
    )
keys-upto (d ∷ before) current c following more zero same h = absurd (omega arith)
keys-upto (d ∷ before) current c following more (suc upto) same h =
    let r = keys-upto before current c following more upto same (omega arith) in (
      r.0,
      ap (λ (ks : List Key). d.keys ++ ks) r.1 ∙ sym (append_assoc d.keys (joined (before ++ current ∷ [])) r.0),
    )

-- of a range that begins with a cluster which has ended, and ends later, as many keys are known at most as the border says
known-keys : (pattern : List Key) (before : List Cluster) (current c : Cluster) (following : List Cluster) (more : List Key) (a upto : ℕ) → c.keys ≡ current.keys ++ more →
    a < length before → length before ≤ upto → prefix (before ++ c ∷ following) (suc upto) ≡ prefix (before ++ c ∷ following) a ++ pattern →
    length (joined (before ++ current ∷ [])) ≤ length (prefix (before ++ c ∷ following) a) + border pattern (joined (before ++ current ∷ []))
known-keys pattern before current c following more a upto same ha hu fits =
    let first = prefix before a in
    let last = joined (drop a before ++ current ∷ []) in
    let so_far = joined (before ++ current ∷ []) in
    let begins : prefix (before ++ c ∷ following) a ≡ first = ap joined (take_prefix a before (c ∷ following) (omega arith)) in
    let parts : so_far ≡ first ++ last = keys-from before current a in
    let upper = keys-upto before current c following more upto same hu in
    let all : first ++ (last ++ upper.0) ≡ first ++ pattern =
    sym (append_assoc first last upper.0) ∙ ap (λ (ks : List Key). ks ++ upper.0) (sym parts) ∙ sym upper.1 ∙ fits ∙ ap (λ (ks : List Key). ks ++ pattern) begins in
    let least = border-greatest pattern first last upper.0 (append_cancel_left first (last ++ upper.0) pattern all) in
    let there = ap (border pattern) parts in
    omega (arith, least, there, ap (λ (ks : List Key). length ks) parts, length-append first last, ap (λ (ks : List Key). length ks) begins)

-- ---- where the oldest of the last keys stands

-- where the first of these keys stands, or, without one, there
abbrev pub oldest : ℕ → List PlacedKey → ℕ
oldest start [] = start
oldest start (k ∷ ks) = k.start

oldest-within : (default start : ℕ) (is_first : Bool) (ks : List Key) (rest : List PlacedKey) (i : ℕ) → i < length ks →
    oldest default (drop i (placed_at start is_first ks ++ rest)) ≡ start
oldest-within default start is_first [] rest i h = absurd (omega arith)
oldest-within default start is_first (k ∷ ks) rest zero h = refl
oldest-within default start is_first (k ∷ ks) rest (suc i) h = oldest-within default start false ks rest i (omega arith)

drop-past : (start : ℕ) (is_first : Bool) (ks : List Key) (rest : List PlacedKey) (i : ℕ) → length ks ≤ i →
    drop i (placed_at start is_first ks ++ rest) ≡ drop (i - length ks) rest
drop-past start is_first [] rest i h = let e : i ≡ i - 0 = omega arith in ap (λ n. drop n rest) e
drop-past start is_first (k ∷ ks) rest zero h = absurd (omega arith)
drop-past start is_first (k ∷ ks) rest (suc i) h =
    let e : i - length ks ≡ suc i - length (k ∷ ks) = omega arith in
    drop-past start false ks rest i (omega arith) ∙ ap (λ n. drop n rest) e

-- from no more keys on than stand before a cluster with keys that has ended, the first key stands there or before it
pub oldest-by : (default end : ℕ) (before : List Cluster) (current c : Cluster) (following : List Cluster) (a i : ℕ) → Rising Below (starts (before ++ c ∷ following) ++ end ∷ []) →
    a < length before → keyed (before ++ c ∷ following) a ≡ true → i ≤ length (prefix (before ++ c ∷ following) a) →
    oldest default (drop i (placed (before ++ current ∷ []))) ≤ bound end (before ++ c ∷ following) a
oldest-by default end [] current c following a i up ha key h = absurd (omega arith)
oldest-by default end (d ∷ before) current c following zero i up ha key h =
    let some = ltb-true 0 (length d.keys) key in
    let here = oldest-within default d.start true d.keys (placed (before ++ current ∷ [])) i (omega (arith, some, h)) in
    omega (arith, here)
oldest-by default end (d ∷ before) current c following (suc a) i up ha key h =
    let rest = placed (before ++ current ∷ []) in
    let cs = before ++ c ∷ following in
    elim (cases_lt i (length d.keys)) [
      | inl less ↦
          let here = oldest-within default d.start true d.keys rest i less in
          let rises = up.0 (bound end cs a) (bound_in end cs a) in
          omega (arith, here, rises)
      | inr more ↦
          let past = ap (oldest default) (drop-past d.start true d.keys rest i more) in
          let further = oldest-by default end before current c following a (i - length d.keys) up.1 (omega arith) key
          (omega (arith, h, length-append d.keys (prefix cs a))) in
          omega (arith, past, further)
    ]

-- ---- a later range

bound-after : (end : ℕ) (before : List Cluster) (c : Cluster) (following : List Cluster) → bound end (before ++ c ∷ following) (length before) ≡ c.start
bound-after end [] c following = refl
bound-after end (d ∷ before) c following = bound-after end before c following

-- A range that is found with clusters that follow, and is not among those found before: it ends behind the start of the current cluster, and
-- begins at its start or later, or no earlier than the oldest of as many of the keys so far as the border says.
pub record IsLater (pattern : List Key) (before : List Cluster) (current : Cluster) (range : ℕ × ℕ) : Type 0 where
  pub ends : current.start < range.1
  pub begins : (current.start ≤ range.0) ⊎ ((default : ℕ) →
      let ks = placed (before ++ current ∷ []) in
      let keys = joined (before ++ current ∷ []) in
      oldest default (drop (length keys - border pattern keys) ks) ≤ range.0)

pub is-later : (pattern : List Key) (end : ℕ) (before : List Cluster) (current c : Cluster) (following : List Cluster) (more : List Key) (range : ℕ × ℕ) →
    c.start ≡ current.start → c.keys ≡ current.keys ++ more → Rising Below (starts (before ++ c ∷ following) ++ end ∷ []) →
    In (found pattern (before ++ c ∷ following) end) range → (In (found pattern before current.start) range → ⊥) →
    IsLater pattern before current range
is-later pattern end before current c following more range start keys up h fresh =
    let cs = before ++ c ∷ following in
    let counts = length-append before (c ∷ following) in
    let s = in_found pattern end cs (length cs) range (omega arith) h in
    let from_is = ap (λ (r : ℕ × ℕ). r.0) s.0.is in
    let upto_is = ap (λ (r : ℕ × ℕ). r.1) s.0.is in
    let here = bound-after end before c following in
    elim (cases_lt s.0.upto (length before)) [
      | inl ended ↦
          let there = found_in pattern end cs (length before) s.0.from s.0.upto (omega (arith, counts)) s.0.in_order ended s.0.from_keyed s.0.upto_keyed s.0.fits in
          let early : In (found pattern before c.start) range =
          subst (λ (rs : List (ℕ × ℕ)). In rs range) (found-prefix pattern before c following end)
          (subst (λ (r : ℕ × ℕ). In (found_within pattern cs end (length before)) r) s.0.is there) in
          absurd (fresh (subst (λ n. In (found pattern before n) range) start early))
      | inr later ↦
          let rises = bound_rises end cs (length before) (suc s.0.upto) up (omega arith) (omega (arith, s.1)) in
          record {
            ends = omega (arith, rises, upto_is, here, start);
            begins = elim (cases_lt s.0.from (length before)) [
              | inl old ↦ inr (λ default.
                  let known = known-keys pattern before current c following more s.0.from s.0.upto keys old later s.0.fits in
                  let by = oldest-by default end before current c following s.0.from (length (joined (before ++ current ∷ [])) - border pattern (joined (before ++ current ∷ [])))
                  up old s.0.from_keyed (omega (arith, known)) in
                  omega (arith, by, from_is))
              | inr new ↦ inl (elim (cases_lt (length before) s.0.from) [
                | inl behind ↦
                    let rise = bound_rises end cs (length before) s.0.from up behind (omega (arith, s.0.in_order, s.1)) in
                    omega (arith, rise, from_is, here, start)
                | inr not_behind ↦
                    let same : s.0.from ≡ length before = omega arith in
                    omega (arith, ap (bound end cs) same, from_is, here, start)
              ])
            ];
          }
    ]
