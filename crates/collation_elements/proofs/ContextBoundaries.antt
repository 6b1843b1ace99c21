-- The boundaries of a text are where its clusters start, and its end.
use Rattle.std.proofs.Common.{◌≡◌, ℕ, zero, suc, ◌+◌, ◌<◌, ◌≤◌, ◌==◌, ◌||◌, Bool, true, false, List, [], ◌∷◌, ◌++◌, length, flat_map, filter, refl, sym, ap, ap₂, ◌∙◌, subst, subst₂, ◌⊎◌, arith, inl, inr, append_assoc, eqb-true, eq-eqb}
use Rattle.std.proofs.lemmas.Bool.{cases_Bool, cases_eq, cond-true, cond-false, ne_eqb, or_left}
use Rattle.std.specs.List.{list_any}
use Rattle.std.specs.Str.{chars, IsUtf8}
use Rattle.nfd_points.specs.declared.points.Point.{Point}
use Rattle.nfd_points.specs.Points.{points}
use Rattle.collation_table.specs.Table.{TableMap}
use Rattle.collation_elements.specs.declared.settings.Variable.{Variable}
use Rattle.collation_elements.specs.declared.settings.Strength.{Strength}
use Rattle.collation_elements.specs.Units.{units}
use Rattle.collation_elements.specs.Boundaries.{unit_starts, cluster_starts, offsets_to, is_boundary}
use Rattle.collation_elements.specs.Clusters.{Cluster, clusters, starts, start_or}
use Rattle.collation_elements.specs.Context.{BoundariesAreStarts}
use Rattle.collation_elements.specs.Elements.{begins_cluster}
use Rattle.collation_elements.specs.Items.{after_unit}
use Rattle.std.proofs.lemmas.Str.{chars-encodes}
use Rattle.collation_elements.proofs.ContextClusters.{unit_keys, unit_starts-more, unit_starts-next, starts-clusters_on}
use Rattle.collation_elements.proofs.PointLaws.{PointLaws}
use Rattle.collation_elements.proofs.ContextParts.{starts_at_zero}
use Rattle.collation_elements.proofs.ContextLaw.{text_by_units, text_part}

-- ---- rising lists of numbers are what a test of membership keeps of the numbers in a row

-- `count` numbers from `from` on
abbrev counted : ℕ → ℕ → List ℕ
counted from zero = []
counted from (suc count) = from ∷ counted (suc from) count

counted-more : (from count : ℕ) → counted from (suc count) ≡ counted from count ++ (from + count) ∷ []
counted-more from zero = ap (λ n. n ∷ []) (omega arith)
counted-more from (suc count) =
    ap (λ l. from ∷ l) (counted-more (suc from) count) ∙ ap (λ n. from ∷ (counted (suc from) count ++ n ∷ [])) (omega arith)

offsets_to-counted : (n : ℕ) → offsets_to n ≡ counted 0 (suc n)
offsets_to-counted zero = refl
offsets_to-counted (suc n) =
    ap (λ l. l ++ suc n ∷ []) (offsets_to-counted n)
    ∙ ap (λ m. counted 0 (suc n) ++ m ∷ []) (omega arith)
    ∙ sym (counted-more 0 (suc n))

abbrev pub is_in : List ℕ → ℕ → Bool
is_in xs n = list_any (λ x. x == n) xs

-- each number is at least `low`, below `high` and above the one before it
abbrev pub RisesIn : ℕ → ℕ → List ℕ → Type 0
RisesIn low high [] = Unit {0}
RisesIn low high (x ∷ xs) = (low ≤ x) × (x < high) × RisesIn (suc x) high xs

not_below : (low high n : ℕ) (xs : List ℕ) → RisesIn low high xs → n < low → is_in xs n ≡ false
not_below low high n [] h lt = refl
not_below low high n (x ∷ xs) h lt = ap₂ (λ s t. s || t) (ne_eqb x n (λ e. omega arith)) (not_below (suc x) high n xs h.2 (omega arith))

RisesIn-above : (low high : ℕ) (xs : List ℕ) → high ≤ low → RisesIn low high xs → xs ≡ []
RisesIn-above low high [] le h = refl
RisesIn-above low high (x ∷ xs) le h = absurd (omega arith)

kept : (from count : ℕ) (xs : List ℕ) (test : ℕ → Bool) → RisesIn from (from + count) xs → ((n : ℕ) → from ≤ n → test n ≡ is_in xs n) → filter test (counted from count) ≡ xs
kept from zero xs test h agree = sym (RisesIn-above from (from + 0) xs (omega arith) h)
kept from (suc count) [] test h agree =
    cond-false _ _ _ (agree from (omega arith)) ∙ kept (suc from) count [] test tt (λ n le. agree n (omega arith))
kept from (suc count) (x ∷ xs) test h agree =
    let high : from + suc count ≡ suc from + count = omega arith in
    elim (cases_eq x from) [
      | inl here ↦
          let test_here : test from ≡ true = agree from (omega arith) ∙ or_left (x == from) (is_in xs from) (eq-eqb x from here) in
          let rest : RisesIn (suc from) (suc from + count) xs = subst₂ (λ l u. RisesIn l u xs) (ap suc here) high h.2 in
          let others : (n : ℕ) → suc from ≤ n → test n ≡ is_in xs n =
          λ n le. agree n (omega arith) ∙ ap (λ t. t || is_in xs n) (ne_eqb x n (λ e. omega arith)) in
          cond-true _ _ _ test_here ∙ ap₂ (λ y ys. y ∷ ys) (sym here) (kept (suc from) count xs test rest others)
      | inr above ↦
          let first : from ≤ x = h.0 in
          let more : RisesIn (suc from) (from + suc count) (x ∷ xs) = (omega arith, h.1, h.2) in
          let none : test from ≡ false = agree from (omega arith) ∙ not_below (suc from) (from + suc count) from (x ∷ xs) more (omega arith) in
          cond-false _ _ _ none ∙ kept (suc from) count (x ∷ xs) test (subst (λ u. RisesIn (suc from) u (x ∷ xs)) high more) (λ n le. agree n (omega arith))
    ]

kept_of_all : (high : ℕ) (xs : List ℕ) (test : ℕ → Bool) → RisesIn 0 (suc high) xs → ((n : ℕ) → test n ≡ is_in xs n) → filter test (offsets_to high) ≡ xs
kept_of_all high xs test h agree =
    let same : suc high ≡ 0 + suc high = omega arith in
    ap (filter test) (offsets_to-counted high) ∙ kept 0 (suc high) xs test (subst (λ u. RisesIn 0 u xs) same h) (λ n le. agree n)

-- ---- clusters rise

-- each cluster starts before the next one, or before the end
abbrev pub Rise : ℕ → List Cluster → Type 0
Rise end [] = Unit {0}
Rise end (c ∷ cs) = (c.start < start_or end cs) × Rise end cs

rise_from : (end : ℕ) (all before cs : List Cluster) → all ≡ before ++ cs → ((before : List Cluster) (d : Cluster) (after : List Cluster) → all ≡ before ++ d ∷ after → d.start < start_or end after) → Rise end cs
rise_from end all before [] e each = tt
rise_from end all before (c ∷ cs) e each =
    (each before c cs e, rise_from end all (before ++ c ∷ []) cs (e ∙ sym (append_assoc before (c ∷ []) cs)) each)

below_end : (end : ℕ) (cs : List Cluster) → Rise end cs → start_or end cs ≤ end
below_end end [] h = omega arith
below_end end (c ∷ cs) h = omega (arith, below_end end cs h.1)

RisesIn-starts : (end low : ℕ) (cs : List Cluster) → Rise end cs → low ≤ start_or end cs → RisesIn low (suc end) (starts cs ++ end ∷ [])
RisesIn-starts end low [] h le = (le, omega arith, tt)
RisesIn-starts end low (c ∷ cs) h le = (le, omega (arith, below_end end cs h.1), RisesIn-starts end (suc c.start) cs h.1 h.0)

pub starts_rise : PointLaws → (table : TableMap) (strength : Strength) (variable : Variable) (text : List ℕ) → IsUtf8 text → Rise (length text) (clusters table strength variable text)
starts_rise laws table strength variable text utf8 =
    rise_from (length text) (clusters table strength variable text) [] (clusters table strength variable text) refl
    (λ before d after e. (text_part laws table strength variable text before d [] after utf8 e).part.longer)

-- ---- the test of a boundary

any-append : (n : ℕ) (xs ys : List ℕ) → is_in (xs ++ ys) n ≡ (is_in xs n || is_in ys n)
any-append n [] ys = refl
any-append n (x ∷ xs) ys = ap (λ t. (x == n) || t) (any-append n xs ys) ∙ or_assoc (x == n) (is_in xs n) (is_in ys n)
  where
    or_assoc : (a b c : Bool) → (a || (b || c)) ≡ ((a || b) || c)
    or_assoc true b c = refl
    or_assoc false b c = refl

-- the first unit begins a cluster at 0 or none
pub first_starts : PointLaws → (table : TableMap) (cs : List ℕ) (u : List Point) (us : List (List Point)) → units table (points cs) ≡ u ∷ us → (unit_starts table u ≡ []) ⊎ (unit_starts table u ≡ 0 ∷ [])
first_starts laws table cs [] us e = inl refl
first_starts laws table cs (p ∷ ps) us e =
    elim (cases_Bool (begins_cluster table (p ∷ ps))) [
      | inl begins ↦ inr (unit_starts-next table p ps begins ∙ ap (λ n. n ∷ []) (eqb-true p.offset 0 (starts_at_zero laws table cs p ps us begins e)))
      | inr more ↦ inl (unit_starts-more table (p ∷ ps) more)
    ]

eqb_comm : (m n : ℕ) → (m == n) ≡ (n == m)
eqb_comm m n =
    elim (cases_eq m n) [
      | inl same ↦ eq-eqb m n same ∙ sym (eq-eqb n m (sym same))
      | inr other ↦ ne_eqb m n other ∙ sym (ne_eqb n m (λ e. other (sym e)))
    ]

last_or : (z l o : Bool) → (z || l || o) ≡ (z || (o || (l || false)))
last_or true l o = refl
last_or false true true = refl
last_or false true false = refl
last_or false false true = refl
last_or false false false = refl

twice_or : (z l o : Bool) → (z || l || (z || o)) ≡ (z || (o || (l || false)))
twice_or true l o = refl
twice_or false true true = refl
twice_or false true false = refl
twice_or false false true = refl
twice_or false false false = refl

is_boundary-in : (len n : ℕ) (first others : List ℕ) → (first ≡ []) ⊎ (first ≡ 0 ∷ []) → is_boundary (first ++ others) len n ≡ is_in ((0 ∷ others) ++ len ∷ []) n
is_boundary-in len n first others (inl none) =
    ap (λ l. is_boundary (l ++ others) len n) none
    ∙ ap₂ (λ z l. z || l || is_in others n) (eqb_comm n 0) (eqb_comm n len)
    ∙ last_or (0 == n) (len == n) (is_in others n)
    ∙ ap (λ t. (0 == n) || t) (sym (any-append n others (len ∷ [])))
is_boundary-in len n first others (inr at_zero) =
    ap (λ l. is_boundary (l ++ others) len n) at_zero
    ∙ ap₂ (λ z l. z || l || ((0 == n) || is_in others n)) (eqb_comm n 0) (eqb_comm n len)
    ∙ twice_or (0 == n) (len == n) (is_in others n)
    ∙ ap (λ t. (0 == n) || t) (sym (any-append n others (len ∷ [])))

boundaries_of : PointLaws → (table : TableMap) (cs : List ℕ) (len : ℕ) (u : List Point) (us : List (List Point)) → units table (points cs) ≡ u ∷ us → RisesIn 0 (suc len) ((0 ∷ flat_map (unit_starts table) us) ++ len ∷ []) → filter (is_boundary (cluster_starts table (points cs)) len) (offsets_to len) ≡ (0 ∷ flat_map (unit_starts table) us) ++ len ∷ []
boundaries_of laws table cs len u us e h =
    ap (λ l. filter (is_boundary (flat_map (unit_starts table) l) len) (offsets_to len)) e
    ∙ kept_of_all len ((0 ∷ flat_map (unit_starts table) us) ++ len ∷ []) (is_boundary (unit_starts table u ++ flat_map (unit_starts table) us) len) h
    (λ n. is_boundary-in len n (unit_starts table u) (flat_map (unit_starts table) us) (first_starts laws table cs u us e))

pub boundaries_start : PointLaws → BoundariesAreStarts
boundaries_start laws table strength variable [] utf8 = refl
boundaries_start laws table strength variable (b ∷ bs) utf8 =
    let all = text_by_units laws table strength variable b bs utf8.0 utf8.1.0 utf8.1.1 in
    let are : chars (b ∷ bs) ≡ utf8.0 = sym (ap chars utf8.1.1) ∙ chars-encodes utf8.0 utf8.1.0 in
    let starts_are : starts (clusters table strength variable (b ∷ bs)) ≡ 0 ∷ flat_map (unit_starts table) all.us =
    ap starts all.are ∙ starts-clusters_on table strength variable (after_unit table variable false all.u) (record { start = 0; keys = unit_keys table strength variable false all.u }) all.us all.low in
    let rise : RisesIn 0 (suc (length (b ∷ bs))) (starts (clusters table strength variable (b ∷ bs)) ++ length (b ∷ bs) ∷ []) =
    RisesIn-starts (length (b ∷ bs)) 0 (clusters table strength variable (b ∷ bs)) (starts_rise laws table strength variable (b ∷ bs) utf8) (omega arith) in
    boundaries_of laws table (chars (b ∷ bs)) (length (b ∷ bs)) all.u all.us (ap (λ l. units table (points l)) are ∙ all.units_are)
    (subst (λ l. RisesIn 0 (suc (length (b ∷ bs))) (l ++ length (b ∷ bs) ∷ [])) starts_are rise)
    ∙ ap (λ l. l ++ length (b ∷ bs) ∷ []) (sym starts_are)
