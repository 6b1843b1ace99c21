-- Calls that each go back from the end of the range before give all ranges, the last one first.
use Rattle.std.proofs.Common.{◌≡◌, ◌∙◌, ℕ, zero, suc, ◌-◌, ◌<◌, ◌≤◌, nat_lt, List, [], ◌∷◌, ◌++◌, length, take, reverse, Option, Some, None, refl, sym, ap, subst, arith, inl, inr}
use Rattle.std.proofs.lemmas.List.{reverse-append, reverse-reverse}
use Rattle.std.proofs.lemmas.Bool.{cases_lt}
use Rattle.collation_table.specs.Table.{TableMap}
use Rattle.collation_elements.specs.declared.keys.Key.{Key}
use Rattle.collation_elements.specs.declared.settings.Strength.{Strength}
use Rattle.collation_elements.specs.declared.settings.Variable.{Variable}
use Rattle.collation_elements.specs.Boundaries.{boundaries}
use Rattle.collation_elements.specs.Context.{BoundariesAreStarts}
use Rattle.collation_pattern.specs.SortKey.{text_sort_key}
use Rattle.collation_matches.specs.declared.faults.TextFault.{TextFault}
use Rattle.collation_matches.specs.declared.select.Select.{Select}
use Rattle.collation_matches.specs.Answer.{answer, answer_at}
use Rattle.collation_matches.specs.ByClustersLaws.{matches_are_found}
use Rattle.collation_matches.specs.GoodPrefix.{fault, good_prefix}
use Rattle.collation_matches.specs.Matches.{ranges_among, ranges_with_sort_key, minimal, matches}
use Rattle.collation_matches.specs.Selecting.{selected}
use Rattle.collation_matches.proofs.BridgeLists.{In, Rising, in_append, rising_append, rising_filter}
use Rattle.collation_matches.proofs.BridgeMatches.{rising_boundaries}
use Rattle.collation_matches.proofs.BridgeRanges.{Before, rising_ranges, is_within_from, in_minimal, rising_minimal}
use Rattle.collation_matches.proofs.OffsetBounds.{answered-within}
use Rattle.collation_matches.proofs.OffsetChains.{AreLong}
use Rattle.collation_matches.proofs.OffsetFaults.{RestLaws}
use Rattle.collation_matches.proofs.OffsetLemmas.{answered-long}
use Rattle.collation_backward.specs.Backward.{last_up_to}
use Rattle.collation_backward.specs.Laws.{found_backward, CallsGoBack}
use Rattle.collation_backward.proofs.Ranges.{up-to-in, up-to-more, up-to-late}

-- ---- the ends of minimal ranges rise

abbrev EndsEarlier : ℕ × ℕ → ℕ × ℕ → Type 0
EndsEarlier r s = r.1 < s.1

among : {A : Type 0} (R S : A → A → Type 0) (xs : List A) → ((x y : A) → In xs x → In xs y → R x y → S x y) → Rising R xs → Rising S xs
among R S [] h r = tt
among R S (x ∷ xs) h r = (λ y k. h x y (inl refl) (inr k) (r.0 y k), among R S xs (λ a b ha hb. h a b (inr ha) (inr hb)) r.1)

-- a range that begins later and does not end later lies within
ends-rise : (all : List (ℕ × ℕ)) → Rising Before all → Rising EndsEarlier (minimal all)
ends-rise all up =
    among Before EndsEarlier (minimal all)
    (λ r s hr hs before.
    let mr = in_minimal all r hr in
    let ms = in_minimal all s hs in
    elim before [
      | inr longer ↦ longer.1
      | inl later ↦ elim (cases_lt r.1 s.1) [
        | inl less ↦ less
        | inr behind ↦ absurd (mr.1 s ms.0 (is_within_from r s (omega (arith, later)) behind (λ same. let e = same.0 in omega (arith, later, e))))
      ]
    ])
    (rising_minimal all up)

module _ (table : TableMap) (strength : Strength) (variable : Variable) (pattern : List ℕ) where
  match-ends-rise : (text : List ℕ) → Rising EndsEarlier (matches table strength variable pattern text)
  match-ends-rise text =
      let bounds = boundaries table text in
      let all = ranges_with_sort_key table strength variable (text_sort_key table strength variable pattern) text in
      ends-rise all (rising_filter Before _ (ranges_among bounds) (rising_ranges bounds (rising_boundaries table text)))

  ends-rise-at : (bytes : List ℕ) (at : Option TextFault) → Rising EndsEarlier (answer_at table strength variable pattern bytes at).ranges
  ends-rise-at bytes None = match-ends-rise bytes
  ends-rise-at bytes (Some at) =
      let text = good_prefix bytes in
      rising_filter EndsEarlier (λ range. nat_lt range.1 (length text)) (matches table strength variable pattern text) (match-ends-rise text)

  answer-ends-rise : (bytes : List ℕ) → Rising EndsEarlier (answer table strength variable pattern bytes).ranges
  answer-ends-rise bytes = ends-rise-at bytes (fault bytes)

-- ---- calls over a list

-- the calls, by what the first one finds
abbrev calls : ℕ → List (ℕ × ℕ) → Option (ℕ × ℕ) → List (ℕ × ℕ)
calls n ranges found = elim found [ None ↦ [] | Some range ↦ range ∷ found_backward n ranges (range.1 - 1) ]

-- a range that ends behind the offset is never met
abbrev Passed : ℕ → List (ℕ × ℕ) → ℕ × ℕ → Type 0
Passed n rs r = (at : ℕ) → at < r.1 → found_backward n (rs ++ r ∷ []) at ≡ found_backward n rs at

passed-by : (n at : ℕ) (rs : List (ℕ × ℕ)) (r : ℕ × ℕ) → at < r.1 → Passed n rs r → (found : Option (ℕ × ℕ)) → last_up_to at rs ≡ found →
    found_backward (suc n) (rs ++ r ∷ []) at ≡ found_backward (suc n) rs at
passed-by n at rs r less passed None e = ap (calls n (rs ++ r ∷ [])) (up-to-late at rs r less ∙ e) ∙ sym (ap (calls n rs) e)
passed-by n at rs r less passed (Some range) e =
    let within = (up-to-in at rs range e).1 in
    ap (calls n (rs ++ r ∷ [])) (up-to-late at rs r less ∙ e)
    ∙ ap (λ (l : List (ℕ × ℕ)). range ∷ l) (passed (range.1 - 1) (omega (arith, within, less)))
    ∙ sym (ap (calls n rs) e)

later-passed : (n : ℕ) (rs : List (ℕ × ℕ)) (r : ℕ × ℕ) → Passed n rs r
later-passed zero rs r at less = refl
later-passed (suc n) rs r at less = passed-by n at rs r less (later-passed n rs r) (last_up_to at rs) refl

-- ends fall, and none is 0
abbrev Falls : List (ℕ × ℕ) → Type 0
Falls rs = Rising (λ r s. EndsEarlier s r) rs × ((r : ℕ × ℕ) → In rs r → 0 < r.1)

none-found : (n at : ℕ) → found_backward n [] at ≡ []
none-found zero at = refl
none-found (suc n) at = refl

turned : {A : Type 0} (x : A) (xs : List A) → reverse (x ∷ xs) ≡ reverse xs ++ x ∷ []
turned x xs = reverse-append (x ∷ []) xs

found-reversed : (n at : ℕ) (rs : List (ℕ × ℕ)) → Falls rs → ((r : ℕ × ℕ) → In rs r → r.1 ≤ at) → found_backward n (reverse rs) at ≡ take n rs
found-reversed zero at rs falls within = refl
found-reversed (suc n) at [] falls within = none-found (suc n) at
found-reversed (suc n) at (r ∷ rs) falls within =
    let some = falls.1 r (inl refl) in
    let front = reverse rs in
    ap (λ (l : List (ℕ × ℕ)). found_backward (suc n) l at) (turned r rs)
    ∙ ap (calls n (front ++ r ∷ [])) (up-to-more at front r (within r (inl refl)))
    ∙ ap (λ (l : List (ℕ × ℕ)). r ∷ l)
    (later-passed n front r (r.1 - 1) (omega (arith, some))
    ∙ found-reversed n (r.1 - 1) rs (falls.0.1, λ s h. falls.1 s (inr h)) (λ s h. let less = falls.0.0 s h in omega (arith, less)))

in-reverse : {A : Type 0} (xs : List A) (x : A) → In (reverse xs) x → In xs x
in-reverse [] x h = h
in-reverse (y ∷ ys) x h = elim (in_append (reverse ys) (y ∷ []) x (subst (λ zs. In zs x) (turned y ys) h)) [
  | inl early ↦ inr (in-reverse ys x early)
  | inr last ↦ elim last [ inl e ↦ inl e | inr never ↦ absurd never ]
]

falls-reversed : {A : Type 0} (R : A → A → Type 0) (xs : List A) → Rising R xs → Rising (λ x y. R y x) (reverse xs)
falls-reversed R [] up = tt
falls-reversed R (x ∷ xs) up =
    subst (Rising (λ y z. R z y)) (sym (turned x xs))
    (rising_append (λ x y. R y x) (reverse xs) (x ∷ []) (falls-reversed R xs up.1) (λ y never. absurd never, tt)
    (λ y z hy hz. elim hz [ inl e ↦ subst (λ w. R w y) e (up.0 y (in-reverse xs y hy)) | inr never ↦ absurd never ]))

found-all : (n at : ℕ) (rs : List (ℕ × ℕ)) → Rising EndsEarlier rs → AreLong rs → ((r : ℕ × ℕ) → In rs r → r.1 ≤ at) → found_backward n rs at ≡ take n (reverse rs)
found-all n at rs up long within =
    ap (λ (l : List (ℕ × ℕ)). found_backward n l at) (sym (reverse-reverse rs))
    ∙ found-reversed n at (reverse rs)
    (falls-reversed EndsEarlier rs up, λ r h. let less = long r (in-reverse rs r h) in omega (arith, less))
    (λ r h. within r (in-reverse rs r h))

-- ---- the law

pub calls-go-back : RestLaws → BoundariesAreStarts → (table : TableMap) → matches_are_found table → CallsGoBack table
calls-go-back laws bounded table all_found s p text n same all compiled some few =
    let found_here = subst matches_are_found (sym same) all_found in
    let has_key = subst (λ (ks : List Key). 0 < length ks) compiled.keys some in
    let strength = s.pattern.strength in
    let variable = s.pattern.variable in
    let ranges = (answer s.table strength variable p text).ranges in
    let P : Select → Type 0 = λ select. found_backward n (selected select ranges) (length text) ≡ take n (reverse (selected select ranges)) in
    subst P (sym all)
    (found-all n (length text) ranges
    (answer-ends-rise s.table strength variable p text)
    (answered-long laws bounded s.table found_here strength variable p compiled.text has_key text few)
    (λ r h. (answered-within s.table strength variable p text r h).1))
