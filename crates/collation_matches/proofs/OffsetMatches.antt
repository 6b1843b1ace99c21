-- The minimal matches of the rest of a text are those of the text that begin there or later.
use Rattle.std.proofs.Common.{◌≡◌, ℕ, zero, suc, ◌+◌, ◌-◌, ◌≤◌, Bool, nat_le, nat_lt, List, [], ◌∷◌, length, take, drop, map, bytes_eq, sym, ap, ap₂, ◌∙◌, subst, arith, inl, inr}
use Rattle.std.proofs.lemmas.Bool.{leb-true, le-leb, lt-ltb, ltb-true}
use Rattle.std.proofs.lemmas.List.{length-drop}
use Rattle.std.proofs.Math.Seq.{drop-nil}
use Rattle.collation_table.specs.Table.{TableMap}
use Rattle.collation_elements.specs.declared.settings.Strength.{Strength}
use Rattle.collation_elements.specs.declared.settings.Variable.{Variable}
use Rattle.collation_elements.specs.Boundaries.{boundaries}
use Rattle.collation_pattern.specs.SortKey.{text_sort_key}
use Rattle.collation_matches.specs.Matches.{ranges_among, part, ranges_with_sort_key, matches, settled}
use Rattle.collation_matches.specs.Offsets.{range_moved}
use Rattle.collation_matches.specs.OffsetLaws.{ranges_from}
use Rattle.collation_matches.proofs.BridgeLists.{In, Rising, in_filter, filter_in, in_map, map_in, rising_filter, rising_map, same_members}
use Rattle.collation_matches.proofs.BridgeMatches.{rising_boundaries}
use Rattle.collation_matches.proofs.BridgeRanges.{Before, Before-asym, in_ranges, ranges_in, rising_ranges, in_minimal, minimal_in, rising_minimal, is_within-true, is_within_from}
use Rattle.collation_matches.proofs.OffsetBoundaries.{HasBoundariesFrom}

drop-both : (n m : ℕ) (xs : List ℕ) → drop (n + m) xs ≡ drop m (drop n xs)
drop-both zero m xs = let same : 0 + m ≡ m = omega arith in ap (λ k. drop k xs) same
drop-both (suc n) m [] = drop-nil (suc n + m) ∙ sym (drop-nil m)
drop-both (suc n) m (x ∷ xs) = let same : suc n + m ≡ suc (n + m) = omega arith in ap (λ k. drop k (x ∷ xs)) same ∙ drop-both n m xs

-- the same part of the text
part-moved : (text : List ℕ) (from : ℕ) (r : ℕ × ℕ) → part text (range_moved from r) ≡ part (drop from text) r
part-moved text from r =
    let long : (from + r.1) - (from + r.0) ≡ r.1 - r.0 = omega arith in ap₂ (λ n (l : List ℕ). take n l) long (drop-both from r.0 text)

abbrev back_by : ℕ → ℕ × ℕ → ℕ × ℕ
back_by from r = (r.0 - from, r.1 - from)

module _ (table : TableMap) (strength : Strength) (variable : Variable) (pattern text : List ℕ) (from : ℕ) (bounds : HasBoundariesFrom table text from) where
  abbrev rest : List ℕ
  rest = drop from text

  abbrev key : List ℕ
  key = text_sort_key table strength variable pattern

  abbrev has_key : List ℕ → ℕ × ℕ → Bool
  has_key t r = bytes_eq (text_sort_key table strength variable (part t r)) key

  abbrev all : List ℕ → List (ℕ × ℕ)
  all t = ranges_with_sort_key table strength variable key t

  same-key : (r : ℕ × ℕ) → has_key text (range_moved from r) ≡ has_key rest r
  same-key r = ap (λ p. bytes_eq (text_sort_key table strength variable p) key) (part-moved text from r)

  -- ---- the ranges that have the key

  all-forth : (r : ℕ × ℕ) → In (all rest) r → In (all text) (range_moved from r)
  all-forth r h =
      let k = in_filter (has_key rest) (ranges_among (boundaries table rest)) r h in
      let b = in_ranges (boundaries table rest) r k.0 in
      filter_in (has_key text) (ranges_among (boundaries table text)) (range_moved from r)
      (ranges_in (boundaries table text) (from + r.0) (from + r.1) (bounds.forth r.0 b.0) (bounds.forth r.1 b.1) (omega (arith, b.2)))
      (same-key r ∙ k.1)

  again : (r : ℕ × ℕ) → from ≤ r.0 → r.0 ≤ r.1 → range_moved from (back_by from r) ≡ r
  again r h le = let one : from + (r.0 - from) ≡ r.0 = omega arith in let two : from + (r.1 - from) ≡ r.1 = omega arith in ap₂ (λ a b. (a, b)) one two

  all-ordered : (r : ℕ × ℕ) → In (all text) r → r.0 ≤ r.1
  all-ordered r h = (in_ranges (boundaries table text) r (in_filter (has_key text) (ranges_among (boundaries table text)) r h).0).2

  all-back : (r : ℕ × ℕ) → In (all text) r → from ≤ r.0 → In (all rest) (back_by from r)
  all-back r h le =
      let k = in_filter (has_key text) (ranges_among (boundaries table text)) r h in
      let b = in_ranges (boundaries table text) r k.0 in
      filter_in (has_key rest) (ranges_among (boundaries table rest)) (back_by from r)
      (ranges_in (boundaries table rest) (r.0 - from) (r.1 - from) (bounds.back r.0 b.0 le) (bounds.back r.1 b.1 (omega (arith, le, b.2))) (omega (arith, b.2)))
      (sym (same-key (back_by from r)) ∙ ap (has_key text) (again r le b.2) ∙ k.1)

  -- ---- those with no other within

  pub matches-forth : (r : ℕ × ℕ) → In (matches table strength variable pattern rest) r → In (matches table strength variable pattern text) (range_moved from r)
  matches-forth r h =
      let m = in_minimal (all rest) r h in
      minimal_in (all text) (range_moved from r) (all-forth r m.0)
      (λ s hs w.
      let parts = is_within-true (range_moved from r) s w in
      let late : from ≤ s.0 = omega (arith, parts.0) in
      let up = all-ordered s hs in
      m.1 (back_by from s) (all-back s hs late)
      (is_within_from r (back_by from s) (omega (arith, parts.0)) (omega (arith, parts.1, late, up))
      (λ e. parts.2 (omega (arith, e.0, late), omega (arith, e.1, late, up)))))

  pub matches-back : (r : ℕ × ℕ) → In (matches table strength variable pattern text) r → from ≤ r.0 → In (matches table strength variable pattern rest) (back_by from r)
  matches-back r h le =
      let m = in_minimal (all text) r h in
      let up = all-ordered r m.0 in
      minimal_in (all rest) (back_by from r) (all-back r m.0 le)
      (λ s hs w.
      let parts = is_within-true (back_by from r) s w in
      m.1 (range_moved from s) (all-forth s hs)
      (is_within_from r (range_moved from s) (omega (arith, parts.0, le)) (omega (arith, parts.1, le, up))
      (λ e. parts.2 (omega (arith, e.0), omega (arith, e.1)))))

  -- ---- as lists

  matches-rise : (t : List ℕ) → Rising Before (matches table strength variable pattern t)
  matches-rise t = rising_minimal (all t) (rising_filter Before (has_key t) (ranges_among (boundaries table t)) (rising_ranges (boundaries table t) (rising_boundaries table t)))

  moved-rise : (rs : List (ℕ × ℕ)) → Rising Before rs → Rising Before (map (range_moved from) rs)
  moved-rise rs up = rising_map Before Before (range_moved from) rs (λ x y h. elim h [ inl less ↦ inl (omega (arith, less)) | inr same ↦ inr (omega (arith, same.0), omega (arith, same.1)) ]) up

  abbrev begins_from : ℕ × ℕ → Bool
  begins_from r = nat_le from r.0

  pub matches-from : map (range_moved from) (matches table strength variable pattern rest) ≡ ranges_from from (matches table strength variable pattern text)
  matches-from =
      same_members Before Before-asym (map (range_moved from) (matches table strength variable pattern rest)) (ranges_from from (matches table strength variable pattern text))
      (moved-rise (matches table strength variable pattern rest) (matches-rise rest))
      (rising_filter Before begins_from (matches table strength variable pattern text) (matches-rise text))
      (λ r h.
      let m = in_map (range_moved from) (matches table strength variable pattern rest) r h in
      subst (In (ranges_from from (matches table strength variable pattern text))) m.2
      (filter_in begins_from (matches table strength variable pattern text) (range_moved from m.0) (matches-forth m.0 m.1) (le-leb from (from + m.0.0) (omega arith))))
      (λ r h.
      let k = in_filter begins_from (matches table strength variable pattern text) r h in
      let le = leb-true from r.0 k.1 in
      let up = all-ordered r (in_minimal (all text) r k.0).0 in
      subst (In (map (range_moved from) (matches table strength variable pattern rest))) (again r le up)
      (map_in (range_moved from) (matches table strength variable pattern rest) (back_by from r) (matches-back r k.0 le)))

  -- ---- and those that end before the end

  abbrev ends_before : List ℕ → ℕ × ℕ → Bool
  ends_before t r = nat_lt r.1 (length t)

  pub settled-from : map (range_moved from) (settled table strength variable pattern rest) ≡ ranges_from from (settled table strength variable pattern text)
  settled-from =
      let len : length rest ≡ length text - from = length-drop from text in
      let within = bounds.within in
      same_members Before Before-asym (map (range_moved from) (settled table strength variable pattern rest)) (ranges_from from (settled table strength variable pattern text))
      (moved-rise (settled table strength variable pattern rest) (rising_filter Before (ends_before rest) (matches table strength variable pattern rest) (matches-rise rest)))
      (rising_filter Before begins_from (settled table strength variable pattern text) (rising_filter Before (ends_before text) (matches table strength variable pattern text) (matches-rise text)))
      (λ r h.
      let m = in_map (range_moved from) (settled table strength variable pattern rest) r h in
      let k = in_filter (ends_before rest) (matches table strength variable pattern rest) m.0 m.1 in
      let less = ltb-true m.0.1 (length rest) k.1 in
      subst (In (ranges_from from (settled table strength variable pattern text))) m.2
      (filter_in begins_from (settled table strength variable pattern text) (range_moved from m.0)
      (filter_in (ends_before text) (matches table strength variable pattern text) (range_moved from m.0) (matches-forth m.0 k.0) (lt-ltb (from + m.0.1) (length text) (omega (arith, less, len, within))))
      (le-leb from (from + m.0.0) (omega arith))))
      (λ r h.
      let k = in_filter begins_from (settled table strength variable pattern text) r h in
      let e = in_filter (ends_before text) (matches table strength variable pattern text) r k.0 in
      let le = leb-true from r.0 k.1 in
      let up = all-ordered r (in_minimal (all text) r e.0).0 in
      let less = ltb-true r.1 (length text) e.1 in
      subst (In (map (range_moved from) (settled table strength variable pattern rest))) (again r le up)
      (map_in (range_moved from) (settled table strength variable pattern rest) (back_by from r)
      (filter_in (ends_before rest) (matches table strength variable pattern rest) (back_by from r) (matches-back r e.0 le) (lt-ltb (r.1 - from) (length rest) (omega (arith, less, len, le, up))))))
