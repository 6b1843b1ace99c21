-- The starts of minimal ranges rise strictly, and none is after the end of the text.
use Rattle.std.proofs.Common.{◌≡◌, ℕ, suc, ◌+◌, ◌<◌, ◌≤◌, List, [], ◌∷◌, length, take, nat_lt, Option, Some, None, refl, ap, arith, inl, inr}
use Rattle.std.proofs.lemmas.List.{length-take}
use Rattle.collation_table.specs.Table.{TableMap}
use Rattle.collation_elements.specs.declared.settings.Strength.{Strength}
use Rattle.collation_elements.specs.declared.settings.Variable.{Variable}
use Rattle.std.specs.Str.{chars}
use Rattle.nfd_points.specs.Points.{points}
use Rattle.collation_elements.specs.Boundaries.{boundaries, offsets_to, is_boundary, cluster_starts}
use Rattle.collation_pattern.specs.SortKey.{text_sort_key}
use Rattle.collation_matches.specs.Answer.{answer, answer_at}
use Rattle.collation_matches.specs.GoodPrefix.{fault, good_prefix, prefix_at}
use Rattle.collation_matches.specs.Matches.{ranges_among, ranges_with_sort_key, minimal, matches, settled}
use Rattle.collation_matches.specs.declared.faults.TextFault.{TextFault}
use Rattle.collation_matches.proofs.BridgeLists.{In, Rising, in_filter, rising_filter}
use Rattle.collation_matches.proofs.BridgeMatches.{below_offsets, rising_boundaries}
use Rattle.collation_matches.proofs.BridgeRanges.{Before, in_ranges, rising_ranges, is_within_from, in_minimal, rising_minimal}

-- the second range starts after the first
abbrev pub From : ℕ × ℕ → ℕ × ℕ → Type 0
From r s = r.0 < s.0

rising_stronger : {A : Type 0} (R S : A → A → Type 0) (xs : List A) → ((x y : A) → In xs x → In xs y → R x y → S x y) → Rising R xs → Rising S xs
rising_stronger R S [] h r = tt
rising_stronger R S (x ∷ xs) h r =
    (λ y k. h x y (inl refl) (inr k) (r.0 y k), rising_stronger R S xs (λ a b ha hb. h a b (inr ha) (inr hb)) r.1)

starts_rise : (all : List (ℕ × ℕ)) → Rising Before all → Rising From (minimal all)
starts_rise all up =
    rising_stronger Before From (minimal all)
    (λ r s hr hs before.
    let mr = in_minimal all r hr in
    let ms = in_minimal all s hs in
    elim before [
      | inl less ↦ less
      | inr longer ↦
          absurd (ms.1 r mr.0 (is_within_from s r (let e = longer.0 in omega arith) (let e = longer.1 in omega arith) (λ same. let e = same.1 in let f = longer.1 in omega arith)))
    ])
    (rising_minimal all up)

few_starts : (xs : List (ℕ × ℕ)) (low high : ℕ) → low ≤ high → Rising From xs → ((r : ℕ × ℕ) → In xs r → (low ≤ r.0) × (r.0 < high)) → length xs + low ≤ high
few_starts [] low high h up within = omega (arith, h)
few_starts (x ∷ xs) low high h up within =
    let first = within x (inl refl) in
    let rest = few_starts xs (suc x.0) high first.1 up.1 (λ r k. (up.0 r k, (within r (inr k)).1)) in
    omega (arith, first, rest)

module _ (table : TableMap) (strength : Strength) (variable : Variable) (pattern text : List ℕ) where
  abbrev key : List ℕ
  key = text_sort_key table strength variable pattern

  abbrev bounds : List ℕ
  bounds = boundaries table text

  abbrev all : List (ℕ × ℕ)
  all = ranges_with_sort_key table strength variable key text

  matches_rise : Rising From (matches table strength variable pattern text)
  matches_rise = starts_rise all (rising_filter Before _ (ranges_among bounds) (rising_ranges bounds (rising_boundaries table text)))

  starts_within : (r : ℕ × ℕ) → In (matches table strength variable pattern text) r → (0 ≤ r.0) × (r.0 < suc (length text))
  starts_within r h =
      let m = in_minimal all r h in
      let k = in_filter _ (ranges_among bounds) r m.0 in
      let b = in_ranges bounds r k.0 in
      let o = in_filter (is_boundary (cluster_starts table (points (chars text))) (length text)) (offsets_to (length text)) r.0 b.0 in
      let le = below_offsets (length text) r.0 o.0 in (omega arith, omega (arith, le))

  few-matches : length (matches table strength variable pattern text) ≤ length text + 1
  few-matches =
      let few = few_starts (matches table strength variable pattern text) 0 (suc (length text)) (omega arith) matches_rise starts_within in
      omega (arith, few)

  pub few-settled : length (settled table strength variable pattern text) ≤ length text + 1
  few-settled =
      let few = few_starts (settled table strength variable pattern text) 0 (suc (length text)) (omega arith)
      (rising_filter From (λ range. nat_lt range.1 (length text)) (matches table strength variable pattern text) matches_rise)
      (λ r h. starts_within r (in_filter (λ range. nat_lt range.1 (length text)) (matches table strength variable pattern text) r h).0) in
      omega (arith, few)

rise_at : (table : TableMap) (strength : Strength) (variable : Variable) (pattern bytes : List ℕ) (at : Option TextFault) →
    Rising From (answer_at table strength variable pattern bytes at).ranges
rise_at table strength variable pattern bytes None = matches_rise table strength variable pattern bytes
rise_at table strength variable pattern bytes (Some at) =
    let text = good_prefix bytes in
    rising_filter From (λ range. nat_lt range.1 (length text)) (matches table strength variable pattern text) (matches_rise table strength variable pattern text)

-- the starts of an answer's ranges rise
pub answered-rise : (table : TableMap) (strength : Strength) (variable : Variable) (pattern bytes : List ℕ) →
    Rising From (answer table strength variable pattern bytes).ranges
answered-rise table strength variable pattern bytes = rise_at table strength variable pattern bytes (fault bytes)

few_at : (table : TableMap) (strength : Strength) (variable : Variable) (pattern bytes : List ℕ) (at : Option TextFault) → fault bytes ≡ at →
    length (answer_at table strength variable pattern bytes at).ranges ≤ length bytes + 1
few_at table strength variable pattern bytes None is = few-matches table strength variable pattern bytes
few_at table strength variable pattern bytes (Some at) is =
    let there : good_prefix bytes ≡ take at.offset bytes = ap (prefix_at bytes) is in
    let few = few-settled table strength variable pattern (good_prefix bytes) in
    let short = ap (λ (t : List ℕ). length t) there in
    omega (arith, few, short, length-take at.offset bytes)

pub few-answered : (table : TableMap) (strength : Strength) (variable : Variable) (pattern bytes : List ℕ) →
    length (answer table strength variable pattern bytes).ranges ≤ length bytes + 1
few-answered table strength variable pattern bytes = few_at table strength variable pattern bytes (fault bytes) refl
