-- Which ranges end with the clusters before one of the clusters, and at which units clusters start.
use Rattle.std.specs.Prelude.{slice_get}
use Rattle.std.proofs.Common.{◌≡◌, ◌⊎◌, ℕ, suc, ◌==◌, ◌<◌, ◌≤◌, ◌||◌, Bool, true, false, cond, List, [], ◌∷◌, ◌++◌, length, map, refl, sym, ap, ◌∙◌, subst, arith, inl, inr, length-append, append_assoc}
use Rattle.std.specs.List.{list_any}
use Rattle.std.specs.Str.{chars}
use Rattle.std.proofs.lemmas.Bool.{cases_lt, or_cases, eqb-true}
use Rattle.nfd_points.specs.declared.points.Point.{Point}
use Rattle.nfd_points.specs.Points.{points}
use Rattle.collation_table.specs.Table.{TableMap}
use Rattle.collation_elements.specs.declared.settings.Variable.{Variable}
use Rattle.collation_elements.specs.declared.settings.Strength.{Strength}
use Rattle.collation_elements.specs.declared.keys.Key.{Key}
use Rattle.collation_elements.specs.declared.keys.Item.{Item}
use Rattle.collation_elements.specs.declared.keys.Item.TheVariants.{ClusterStart, Element}
use Rattle.collation_elements.specs.Units.{units}
use Rattle.collation_elements.specs.Elements.{unit_row, weighted_row, begins_cluster}
use Rattle.collation_elements.specs.Keys.{row_keys}
use Rattle.collation_elements.specs.Items.{start_items, unit_items, after_unit, items}
use Rattle.collation_elements.specs.Weighing.{after_units}
use Rattle.collation_elements.specs.Boundaries.{boundaries, offsets_to, is_boundary, unit_starts, cluster_starts}
use Rattle.collation_elements.specs.Clusters.{Cluster, clusters_from, starts}
use Rattle.collation_matches.specs.ByClusters.{found, found_within}
use Rattle.collation_matches.proofs.BridgeLists.{In, Rising, in_left, in_right, in_filter, in_flat_map, any_in}
use Rattle.collation_matches.proofs.BridgeRanges.{Below}
use Rattle.collation_matches.proofs.BridgeClusters.{bound, bound_in, bound_rises}
use Rattle.collation_matches.proofs.BridgeFound.{in_found, found_in}
use Rattle.collation_matches.proofs.BridgeGrowing.{found-prefix}

-- ---- ranges and the clusters that have ended

bound-after : (end : ℕ) (before : List Cluster) (c : Cluster) (following : List Cluster) → bound end (before ++ c ∷ following) (length before) ≡ c.start
bound-after end [] c following = refl
bound-after end (d ∷ before) c following = bound-after end before c following

-- a range that ends where one of the clusters starts, or before, ends with one of those before it
pub found-in_time : (pattern : List Key) (end : ℕ) (before : List Cluster) (c : Cluster) (following : List Cluster) (r : ℕ × ℕ) →
    Rising Below (starts (before ++ c ∷ following) ++ end ∷ []) → In (found pattern (before ++ c ∷ following) end) r → r.1 ≤ c.start →
    In (found pattern before c.start) r
found-in_time pattern end before c following r up h in_time =
    let cs = before ++ c ∷ following in
    let s = in_found pattern end cs (length cs) r (omega arith) h in
    let at : bound end cs (suc s.0.upto) ≡ r.1 = ap (λ (q : ℕ × ℕ). q.1) s.0.is in
    let here = bound-after end before c following in
    let counts = length-append before (c ∷ following) in
    elim (cases_lt (length before) (suc s.0.upto)) [
      | inl later ↦
          let rises = bound_rises end cs (length before) (suc s.0.upto) up later (omega (arith, s.1)) in
          absurd (omega (arith, rises, at, here, in_time))
      | inr ended ↦
          let there = found_in pattern end cs (length before) s.0.from s.0.upto (omega (arith, counts)) s.0.in_order (omega (arith, ended)) s.0.from_keyed s.0.upto_keyed s.0.fits in
          subst (λ (rs : List (ℕ × ℕ)). In rs r) (found-prefix pattern before c following end)
          (subst (λ (q : ℕ × ℕ). In (found_within pattern cs end (length before)) q) s.0.is there)
    ]

-- a range ends at the start of a cluster but the first one, or at the end
pub found-ends : (pattern : List Key) (end : ℕ) (cs : List Cluster) (r : ℕ × ℕ) → Rising Below (starts cs ++ end ∷ []) → In (found pattern cs end) r →
    In (starts cs ++ end ∷ []) r.1 × (0 < r.1)
found-ends pattern end cs r up h =
    let s = in_found pattern end cs (length cs) r (omega arith) h in
    let at : bound end cs (suc s.0.upto) ≡ r.1 = ap (λ (q : ℕ × ℕ). q.1) s.0.is in
    let rises = bound_rises end cs 0 (suc s.0.upto) up (omega arith) (omega (arith, s.1)) in
    (subst (In (starts cs ++ end ∷ [])) at (bound_in end cs (suc s.0.upto)), omega (arith, rises, at))

-- ---- where clusters start

-- a boundary within a text is the start of a cluster
pub boundary-start : (table : TableMap) (text : List ℕ) (at : ℕ) → In (boundaries table text) at → 0 < at →
    (at ≡ length text) ⊎ In (cluster_starts table (points (chars text))) at
boundary-start table text at h some =
    let starts_there = cluster_starts table (points (chars text)) in
    let test = (in_filter (is_boundary starts_there (length text)) (offsets_to (length text)) at h).1 in
    elim (or_cases (at == 0 || at == length text) (list_any (λ start. start == at) starts_there) test) [
      | inl outer ↦
          elim (or_cases (at == 0) (at == length text) outer) [
            | inl zero' ↦ let e = eqb-true at 0 zero' in absurd (omega arith)
            | inr last ↦ inl (eqb-true at (length text) last)
          ]
      | inr any ↦ let m = any_in (λ start. start == at) starts_there any in inr (subst (In starts_there) (eqb-true m.0 at m.2) m.1)
    ]

-- a unit among some units, which begins a cluster at an offset
pub record BeginsAt (table : TableMap) (us : List (List Point)) (at : ℕ) : Type 0 where
  pub p : Point
  pub ps : List Point
  pub among : In us (p ∷ ps)
  pub begins : begins_cluster table (p ∷ ps) ≡ true
  pub offset : p.offset ≡ at

in_one : (b : Bool) (x y : ℕ) → In (cond b (x ∷ []) []) y → (b ≡ true) × (x ≡ y)
in_one true x y (inl e) = (refl, e)
in_one true x y (inr h) = absurd h
in_one false x y h = absurd h

unit_begins : (table : TableMap) (us : List (List Point)) (u : List Point) (at : ℕ) → In us u → In (unit_starts table u) at → BeginsAt table us at
unit_begins table us [] at among h = absurd h
unit_begins table us (p ∷ ps) at among h =
    let one = in_one (begins_cluster table (p ∷ ps)) p.offset at h in
    record { p = p; ps = ps; among = among; begins = one.0; offset = one.1 }

pub start-begins : (table : TableMap) (ps : List Point) (at : ℕ) → In (cluster_starts table ps) at → BeginsAt table (units table ps) at
start-begins table ps at h =
    let m = in_flat_map (unit_starts table) (units table ps) at h in unit_begins table (units table ps) m.0 at m.1 m.2

-- ---- items

pub items-append : (table : TableMap) (strength : Strength) (variable : Variable) (after : Bool) (us vs : List (List Point)) →
    items table strength variable after (us ++ vs)
    ≡ items table strength variable after us ++ items table strength variable (after_units table variable after us) vs
items-append table strength variable after [] vs = refl
items-append table strength variable after (u ∷ us) vs =
    ap (λ rest. unit_items table strength variable after u ++ rest) (items-append table strength variable (after_unit table variable after u) us vs)
    ∙ sym (append_assoc (unit_items table strength variable after u) (items table strength variable (after_unit table variable after u) us) (items table strength variable (after_units table variable (after_unit table variable after u) us) vs))

one_in : (b : Bool) (x : Item) → b ≡ true → In (cond b (x ∷ []) []) x
one_in true x h = inl refl
one_in false x h = cc

-- a unit that begins a cluster has its start among the items
pub unit-item : (table : TableMap) (strength : Strength) (variable : Variable) (after : Bool) (us : List (List Point)) (p : Point) (ps : List Point) →
    In us (p ∷ ps) → begins_cluster table (p ∷ ps) ≡ true → In (items table strength variable after us) (ClusterStart p.offset)
unit-item table strength variable after [] p ps h begins = absurd h
unit-item table strength variable after (u ∷ us) p ps (inl e) begins =
    let keys = map (λ key. Element key) (row_keys strength (weighted_row variable after (unit_row table u))) in
    let here : In (start_items (slice_get u 0) (unit_row table u)) (ClusterStart p.offset) =
    subst (λ w. In (start_items (slice_get w 0) (unit_row table w)) (ClusterStart p.offset)) (sym e) (one_in (begins_cluster table (p ∷ ps)) (ClusterStart p.offset) begins) in
    in_left (unit_items table strength variable after u) (items table strength variable (after_unit table variable after u) us) (ClusterStart p.offset)
    (in_left (start_items (slice_get u 0) (unit_row table u)) keys (ClusterStart p.offset) here)
unit-item table strength variable after (u ∷ us) p ps (inr h) begins =
    in_right (unit_items table strength variable after u) (items table strength variable (after_unit table variable after u) us) (ClusterStart p.offset)
    (unit-item table strength variable (after_unit table variable after u) us p ps h begins)

in_either : (b : Bool) (cs ds : List Cluster) (at : ℕ) → (b ≡ true → In (starts cs) at) → (b ≡ false → In (starts ds) at) → In (starts (cond b cs ds)) at
in_either true cs ds at h k = h refl
in_either false cs ds at h k = k refl

-- the first of the clusters starts where the one that has begun does
pub record StartsWhereBegun (begun : Cluster) (cs : List Cluster) : Type 0 where
  pub first : Cluster
  pub following : List Cluster
  pub are : cs ≡ first ∷ following
  pub start : first.start ≡ begun.start

begins_either : (begun : Cluster) (b : Bool) (cs ds : List Cluster) → StartsWhereBegun begun cs → StartsWhereBegun begun ds → StartsWhereBegun begun (cond b cs ds)
begins_either begun true cs ds h k = h
begins_either begun false cs ds h k = k

pub begins-with : (begun : Cluster) (is : List Item) → StartsWhereBegun begun (clusters_from begun is)
begins-with begun [] = record { first = begun; following = []; are = refl; start = refl }
begins-with begun (Element k ∷ is) =
    let b = begins-with (record { start = begun.start; keys = begun.keys ++ k ∷ [] }) is in
    record { first = b.first; following = b.following; are = b.are; start = b.start }
begins-with begun (ClusterStart s ∷ is) =
    let next : Cluster = record { start = s; keys = [] } in
    begins_either begun (s == 0) (clusters_from begun is) (begun ∷ clusters_from next is)
    (begins-with begun is)
    (record { first = begun; following = clusters_from next is; are = refl; start = refl })

begun-start : (begun : Cluster) (is : List Item) → In (starts (clusters_from begun is)) begun.start
begun-start begun is =
    let b = begins-with begun is in subst (λ (cs : List Cluster). In (starts cs) begun.start) (sym b.are) (inl b.start)

-- a start among the items starts a cluster
pub item-start : (begun : Cluster) (is : List Item) (at : ℕ) → In is (ClusterStart at) → 0 < at → In (starts (clusters_from begun is)) at
item-start begun [] at h some = absurd h
item-start begun (Element k ∷ is) at (inl e) some = absurd cc
item-start begun (Element k ∷ is) at (inr h) some = item-start (record { start = begun.start; keys = begun.keys ++ k ∷ [] }) is at h some
item-start begun (ClusterStart s ∷ is) at (inl e) some =
    let same : s ≡ at = cc in
    let next : Cluster = record { start = s; keys = [] } in
    in_either (s == 0) (clusters_from begun is) (begun ∷ clusters_from next is) at
    (λ zero'. let none = eqb-true s 0 zero' in absurd (omega arith))
    (λ later. inr (subst (In (starts (clusters_from next is))) same (begun-start next is)))
item-start begun (ClusterStart s ∷ is) at (inr h) some =
    let next : Cluster = record { start = s; keys = [] } in
    in_either (s == 0) (clusters_from begun is) (begun ∷ clusters_from next is) at
    (λ e. item-start begun is at h some)
    (λ e. inr (item-start next is at h some))

-- ---- rising starts

start-among : (before : List Cluster) (c : Cluster) (following : List Cluster) (end : ℕ) → In (starts (before ++ c ∷ following) ++ end ∷ []) c.start
start-among [] c following end = inl refl
start-among (d ∷ before) c following end = inr (start-among before c following end)

-- clusters before one start before it
pub starts-rise : (before : List Cluster) (begun c : Cluster) (following : List Cluster) (end at : ℕ) → begun.start ≡ c.start →
    Rising Below (starts (before ++ c ∷ following) ++ end ∷ []) → In (starts (before ++ begun ∷ [])) at → at ≤ c.start
starts-rise [] begun c following end at same up (inl e) = omega (arith, e, same)
starts-rise [] begun c following end at same up (inr h) = absurd h
starts-rise (d ∷ before) begun c following end at same up (inl e) = let below = up.0 c.start (start-among before c following end) in omega (arith, e, below)
starts-rise (d ∷ before) begun c following end at same up (inr h) = starts-rise before begun c following end at same up.1 h
