-- How many ranges a piece of a text can make known. The ranges of an answer end one after the other, and those that end before the last
-- code points of what was taken were handed out.
use Rattle.std.proofs.Common.{◌≡◌, ◌∙◌, ℕ, suc, ◌+◌, ◌-◌, ◌*◌, ◌<◌, ◌≤◌, true, cond, ◌&&◌, is_none, nat_le, nat_lt, List, [], ◌∷◌, ◌++◌, length, take, filter, Contains, Option, Some, None, refl, sym, ap, subst, arith, inl, inr, length-append, length-take, length-drop}
use lib.Utf8.{encodes, encode}
use Rattle.std.specs.Char.{len_utf8}
use Rattle.std.specs.Str.{chars, IsUtf8}
use Rattle.std.proofs.lemmas.Bool.{cases_Bool, cases_lt, and_parts, le-leb, lt-leb}
use Rattle.std.proofs.lemmas.Str.{len_utf8_bounds, length-encode, encodes-chars}
use Rattle.utf8_cut.specs.Characters.{characters_end, after_characters, is_incomplete_or_empty, is_utf8_prefix, with_offsets}
use Rattle.nfd_points.specs.Points.{points}
use Rattle.nfd_points.specs.PointFaults.{point_fault}
use Rattle.collation_table.specs.Table.{TableMap, longest_mapped}
use Rattle.collation_elements.specs.declared.settings.Strength.{Strength}
use Rattle.collation_elements.specs.declared.settings.Variable.{Variable}
use Rattle.collation_elements.specs.Boundaries.{boundaries, offsets_to, is_boundary, cluster_starts}
use Rattle.collation_pattern.specs.SortKey.{text_sort_key}
use Rattle.collation_matches.specs.declared.faults.TextFault.{TextFault}
use Rattle.collation_matches.specs.declared.select.Select.{Select}
use Rattle.collation_matches.specs.declared.select.Select.TheVariants.{All, Chain}
use Rattle.collation_matches.specs.Answer.{answer, answer_at}
use Rattle.collation_matches.specs.GoodPrefix.{fault, good_prefix, prefix_at, whole, is_good_so_far, most_bytes}
use Rattle.collation_matches.specs.Lag.{code_points_from}
use Rattle.collation_matches.specs.Matches.{ranges_among, ranges_with_sort_key, minimal, matches, settled}
use Rattle.collation_matches.specs.Selecting.{chain_after, selected}
use Rattle.collation_matches.specs.Sought.{Sought, answer_to}
use Rattle.collation_matches.proofs.BridgeLists.{In, Rising, in_left, in_right, in_filter, rising_filter}
use Rattle.collation_matches.proofs.BridgeMatches.{below_offsets, rising_boundaries}
use Rattle.collation_matches.proofs.BridgeRanges.{Before, in_ranges, rising_ranges, is_within_from, in_minimal, rising_minimal}
use Rattle.collation_matches.proofs.LagLaw.{contains-in, in-contains}
use Rattle.collation_matches.proofs.SelectedInTime.{selected-among}
use Rattle.collation_matches.proofs.SelectingLemmas.{chain-taken, chain-passed}

-- ---- lists whose elements rise

rising_stronger : {A : Type 0} (R S : A → A → Type 0) (xs : List A) → ((x y : A) → In xs x → In xs y → R x y → S x y) → Rising R xs → Rising S xs
rising_stronger R S [] h r = tt
rising_stronger R S (x ∷ xs) h r =
    (λ y k. h x y (inl refl) (inr k) (r.0 y k), rising_stronger R S xs (λ a b ha hb. h a b (inr ha) (inr hb)) r.1)

rising_left : {A : Type 0} (R : A → A → Type 0) (xs ys : List A) → Rising R (xs ++ ys) → Rising R xs
rising_left R [] ys up = tt
rising_left R (x ∷ xs) ys up = (λ y h. up.0 y (in_left xs ys y h), rising_left R xs ys up.1)

rising_right : {A : Type 0} (R : A → A → Type 0) (xs ys : List A) → Rising R (xs ++ ys) → Rising R ys
rising_right R [] ys up = up
rising_right R (x ∷ xs) ys up = rising_right R xs ys up.1

rising_across : {A : Type 0} (R : A → A → Type 0) (xs ys : List A) (a b : A) → Rising R (xs ++ ys) → In xs a → In ys b → R a b
rising_across R [] ys a b up ha hb = absurd ha
rising_across R (x ∷ xs) ys a b up (inl e) hb = subst (λ z. R z b) e (up.0 b (in_right xs ys b hb))
rising_across R (x ∷ xs) ys a b up (inr h) hb = rising_across R xs ys a b up.1 h hb

-- ---- the ends of an answer's ranges

-- the second range ends after the first
abbrev pub Until : ℕ × ℕ → ℕ × ℕ → Type 0
Until r s = r.1 < s.1

ends_rise : (all : List (ℕ × ℕ)) → Rising Before all → Rising Until (minimal all)
ends_rise all up =
    rising_stronger Before Until (minimal all)
    (λ r s hr hs before.
    let mr = in_minimal all r hr in
    let ms = in_minimal all s hs in
    elim before [
      | inl less ↦
          elim (cases_lt r.1 s.1) [
            | inl later ↦ later
            | inr within ↦ absurd (mr.1 s ms.0 (is_within_from r s (omega (arith, less)) within (λ same. let e = same.0 in omega (arith, e, less))))
          ]
      | inr longer ↦ longer.1
    ])
    (rising_minimal all up)

-- what is asked of the ranges of an answer
abbrev RiseUpTo : List (ℕ × ℕ) → ℕ → Type 0
RiseUpTo ranges last = Rising Until ranges × ((r : ℕ × ℕ) → In ranges r → r.1 ≤ last)

module _ (table : TableMap) (strength : Strength) (variable : Variable) (pattern text : List ℕ) where
  abbrev all : List (ℕ × ℕ)
  all = ranges_with_sort_key table strength variable (text_sort_key table strength variable pattern) text

  matches_end : RiseUpTo (matches table strength variable pattern text) (length text)
  matches_end = (
    ends_rise all (rising_filter Before _ (ranges_among (boundaries table text)) (rising_ranges (boundaries table text) (rising_boundaries table text))),
    λ r h.
        let m = in_minimal all r h in
        let k = in_filter _ (ranges_among (boundaries table text)) r m.0 in
        let b = in_ranges (boundaries table text) r k.0 in
        let o = in_filter (is_boundary (cluster_starts table (points (chars text))) (length text)) (offsets_to (length text)) r.1 b.1 in
        below_offsets (length text) r.1 o.0,
  )

  settled_end : RiseUpTo (settled table strength variable pattern text) (length text)
  settled_end = (
    rising_filter Until (λ range. nat_lt range.1 (length text)) (matches table strength variable pattern text) matches_end.0,
    λ r h. matches_end.1 r (in_filter (λ range. nat_lt range.1 (length text)) (matches table strength variable pattern text) r h).0,
  )

ends_at : (table : TableMap) (strength : Strength) (variable : Variable) (pattern bytes : List ℕ) (at : Option TextFault) → fault bytes ≡ at →
    RiseUpTo (answer_at table strength variable pattern bytes at).ranges (length bytes)
ends_at table strength variable pattern bytes None is = matches_end table strength variable pattern bytes
ends_at table strength variable pattern bytes (Some at) is =
    let there : good_prefix bytes ≡ take at.offset bytes = ap (prefix_at bytes) is in
    let short = ap (λ (t : List ℕ). length t) there in
    let ends = settled_end table strength variable pattern (good_prefix bytes) in
    (ends.0, λ r h. let le = ends.1 r h in omega (arith, le, short, length-take at.offset bytes))

answer_ends : (table : TableMap) (strength : Strength) (variable : Variable) (pattern bytes : List ℕ) → RiseUpTo (answer table strength variable pattern bytes).ranges (length bytes)
answer_ends table strength variable pattern bytes = ends_at table strength variable pattern bytes (fault bytes) refl

chain_among : (end : ℕ) (ranges : List (ℕ × ℕ)) (range : ℕ × ℕ) → In (chain_after end ranges) range → In ranges range
chain_among end [] range h = h
chain_among end (first ∷ ranges) range h =
    elim (cases_Bool (nat_le end first.0)) [
      | inl taken ↦
          let there : In (first ∷ chain_after first.1 ranges) range = subst (λ (rs : List (ℕ × ℕ)). In rs range) (chain-taken end first ranges taken) h in
          elim there [
            | inl here ↦ inl here
            | inr later ↦ inr (chain_among first.1 ranges range later)
          ]
      | inr passed ↦ inr (chain_among end ranges range (subst (λ (rs : List (ℕ × ℕ)). In rs range) (chain-passed end first ranges passed) h))
    ]

chain_rises : (end : ℕ) (ranges : List (ℕ × ℕ)) → Rising Until ranges → Rising Until (chain_after end ranges)
chain_rises end [] up = tt
chain_rises end (first ∷ ranges) up =
    elim (cases_Bool (nat_le end first.0)) [
      | inl taken ↦
          subst (Rising Until) (sym (chain-taken end first ranges taken)) (λ y h. up.0 y (chain_among first.1 ranges y h), chain_rises first.1 ranges up.1)
      | inr passed ↦ subst (Rising Until) (sym (chain-passed end first ranges passed)) (chain_rises end ranges up.1)
    ]

selected_rises : (select : Select) (ranges : List (ℕ × ℕ)) → Rising Until ranges → Rising Until (selected select ranges)
selected_rises All ranges up = up
selected_rises Chain ranges up = chain_rises 0 ranges up

answered_ends : (s : Sought) (pattern bytes : List ℕ) → RiseUpTo (answer_to s pattern bytes).ranges (length bytes)
answered_ends s pattern bytes =
    let ends = answer_ends s.table s.pattern.strength s.pattern.variable pattern bytes in
    let all = (answer s.table s.pattern.strength s.pattern.variable pattern bytes).ranges in
    (selected_rises s.select all ends.0, λ r h. ends.1 r (selected-among s.select all r h))

few_ends : (xs : List (ℕ × ℕ)) (low high : ℕ) → low ≤ high → Rising Until xs → ((r : ℕ × ℕ) → In xs r → (low ≤ r.1) × (r.1 < high)) → length xs + low ≤ high
few_ends [] low high h up within = omega (arith, h)
few_ends (x ∷ xs) low high h up within =
    let first = within x (inl refl) in
    let rest = few_ends xs (suc x.1) high first.1 up.1 (λ r k. (up.0 r k, (within r (inr k)).1)) in
    omega (arith, first, rest)

-- ---- how many bytes stand from a place on

abbrev points_from : ℕ → ℕ → List ℕ → ℕ
points_from place at cs = length (filter (λ c. nat_le place c.1) (with_offsets at cs))

length_of : (c : ℕ) (cs : List ℕ) → length (encodes (c ∷ cs)) ≡ len_utf8 c + length (encodes cs)
length_of c cs = length-append (encode c) (encodes cs) ∙ ap (λ n. n + length (encodes cs)) (length-encode c)

from_here : (place at : ℕ) (cs : List ℕ) → place ≤ at → length (encodes cs) ≤ 4 * points_from place at cs
from_here place at [] h = omega arith
from_here place at (c ∷ cs) h =
    let rest = from_here place (at + len_utf8 c) cs (omega (arith, h)) in
    let kept : points_from place at (c ∷ cs) ≡ suc (points_from place (at + len_utf8 c) cs)
    = ap (λ b. length (cond b ((c, at) ∷ filter (λ d. nat_le place d.1) (with_offsets (at + len_utf8 c) cs)) (filter (λ d. nat_le place d.1) (with_offsets (at + len_utf8 c) cs)))) (le-leb place at h) in
    omega (arith, rest, kept, length_of c cs, (len_utf8_bounds c).1)

up_to_here : (place at : ℕ) (cs : List ℕ) → at ≤ place → at + length (encodes cs) ≤ place + 4 * points_from place at cs + 3
up_to_here place at [] h = omega (arith, h)
up_to_here place at (c ∷ cs) h =
    elim (cases_lt at place) [
      | inl before ↦
          let left : points_from place at (c ∷ cs) ≡ points_from place (at + len_utf8 c) cs
          = ap (λ b. length (cond b ((c, at) ∷ filter (λ d. nat_le place d.1) (with_offsets (at + len_utf8 c) cs)) (filter (λ d. nat_le place d.1) (with_offsets (at + len_utf8 c) cs)))) (lt-leb place at before) in
          elim (cases_lt place (at + len_utf8 c)) [
            | inl past ↦
                let rest = from_here place (at + len_utf8 c) cs (omega (arith, past)) in
                omega (arith, rest, left, length_of c cs, (len_utf8_bounds c).1, before)
            | inr within ↦
                let rest = up_to_here place (at + len_utf8 c) cs within in
                omega (arith, rest, left, length_of c cs)
          ]
      | inr here ↦ let all = from_here place at (c ∷ cs) here in omega (arith, all, h)
    ]

incomplete_is_short : (bytes : List ℕ) → is_incomplete_or_empty bytes ≡ true → length bytes ≤ 3
incomplete_is_short [] h = omega arith
incomplete_is_short (a ∷ []) h = omega arith
incomplete_is_short (a ∷ b ∷ []) h = omega arith
incomplete_is_short (a ∷ b ∷ c ∷ []) h = omega arith
incomplete_is_short (a ∷ b ∷ c ∷ d ∷ bytes) h = cc

-- so many bytes at most stand from a place on from which on fewer code points stand than this
bytes_from : (u : List ℕ) (place count : ℕ) → IsUtf8 (whole u) → is_good_so_far u ≡ true → code_points_from place (chars (whole u)) < count → length u ≤ place + 4 * count + 2
bytes_from u place count text good few =
    let parts = and_parts (nat_le (length u) most_bytes && is_utf8_prefix u) (is_none (point_fault (chars (whole u)))) good in
    let cut = and_parts (nat_le (length u) most_bytes) (is_utf8_prefix u) parts.0 in
    let held = incomplete_is_short (after_characters u) cut.1 in
    let spelled = ap (λ (t : List ℕ). length t) (encodes-chars (whole u) text) in
    let upto = up_to_here place 0 (chars (whole u)) (omega arith) in
    omega (arith, few, held, spelled, upto, length-take (characters_end u) u, length-drop (characters_end u) u)

-- ---- the ranges of a piece

pub few_found : (s : Sought) → longest_mapped s.table ≤ 64 → (pattern u piece : List ℕ) (handed found rest : List (ℕ × ℕ))
    → IsUtf8 (whole u) → is_good_so_far u ≡ true
    → ((range : ℕ × ℕ) → longest_mapped s.table + 31 ≤ code_points_from range.1 (chars (whole u)) → Contains (answer_to s pattern (u ++ piece)).ranges range → Contains handed range)
    → (answer_to s pattern (u ++ piece)).ranges ≡ (handed ++ found) ++ rest → length found ≤ length piece + 383
few_found s short pattern u piece handed found rest text good in_time is =
    let ends = answered_ends s pattern (u ++ piece) in
    let up : Rising Until (handed ++ found) = rising_left Until (handed ++ found) rest (subst (Rising Until) is ends.0) in
    let among : (r : ℕ × ℕ) → In found r → In (answer_to s pattern (u ++ piece)).ranges r
    = λ r h. subst (λ (rs : List (ℕ × ℕ)). In rs r) (sym is) (in_left (handed ++ found) rest r (in_right handed found r h)) in
    let late : (r : ℕ × ℕ) → In found r → (length u - 382 ≤ r.1) × (r.1 < suc (length (u ++ piece)))
    = λ r h. (
      elim (cases_lt (code_points_from r.1 (chars (whole u))) (longest_mapped s.table + 31)) [
        | inl few ↦ let bytes = bytes_from u r.1 95 text good (omega (arith, few, short)) in omega (arith, bytes)
        | inr enough ↦
            let again = rising_across Until handed found r r up (contains-in handed r (in_time r enough (in-contains (answer_to s pattern (u ++ piece)).ranges r (among r h)))) h in
            absurd (omega (arith, again))
      ],
      let end = ends.1 r (among r h) in omega (arith, end),
    ) in
    let few = few_ends found (length u - 382) (suc (length (u ++ piece))) (omega (arith, length-append u piece)) (rising_right Until handed found up) late in
    omega (arith, few, length-append u piece)
