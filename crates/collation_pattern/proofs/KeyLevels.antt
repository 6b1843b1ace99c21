-- The levels of a text's keys are its sort key.
use Rattle.std.proofs.Common.{◌≡◌, ℕ, Bool, true, false, cond, ◌&&◌, nat_lt, List, [], ◌∷◌, ◌++◌, map, flat_map, inl, inr, sym, ◌∙◌, refl}
use Rattle.std.proofs.lemmas.Bool.{cases_Bool, and_parts, eqb-true}
use Rattle.std.proofs.lemmas.List.{map-append}
use Rattle.std.proofs.lemmas.List.Elements.{filter-append}
use Rattle.std.proofs.lemmas.Grind.{flat_map-append}
use Rattle.collation_table.specs.declared.elements.Element.{Element}
use Rattle.collation_table.specs.WellFormed.{is_lead, is_follower}
use Rattle.collation_elements.specs.declared.settings.Strength.{Strength}
use Rattle.collation_elements.specs.declared.settings.Strength.TheVariants.{One, Two, Three}
use Rattle.collation_elements.specs.declared.keys.Key.{Key}
use Rattle.collation_elements.specs.declared.keys.Key.TheVariants.{Secondary, Tertiary}
use Rattle.collation_elements.specs.Keys.{element_keys, pair_key, row_keys}
use Rattle.collation_pattern.specs.Levels.{first_weights, second_weights, third_weights, levels}
use Rattle.collation_pattern.specs.SortKey.{level, sort_key}

no_firsts : (b c : Bool) (x y z : ℕ) → flat_map first_weights (cond b (Secondary x y ∷ []) (cond c (Tertiary z ∷ []) [])) ≡ []
no_firsts true c x y z = refl
no_firsts false true x y z = refl
no_firsts false false x y z = refl

element_firsts : (s : Strength) (e : Element) → level (e.w1 ∷ []) ≡ level (flat_map first_weights (element_keys s e))
element_firsts s e = elim (cases_Bool (nat_lt 0 e.w1)) [ inl h ↦ simp h | inr h ↦ simp (h, no_firsts) ]

-- ---- the second weights, from strength two on

no_seconds : (c : Bool) (z : ℕ) → flat_map second_weights (cond c (Tertiary z ∷ []) []) ≡ []
no_seconds true z = refl
no_seconds false z = refl

element_seconds_two : (e : Element) → level (e.w2 ∷ []) ≡ level (flat_map second_weights (element_keys Two e))
element_seconds_two e =
    elim (cases_Bool (nat_lt 0 e.w1)) [
      | inl h ↦ simp h
      | inr h ↦ elim (cases_Bool (nat_lt 0 e.w2)) [ inl k ↦ simp (h, k) | inr k ↦ simp (h, k) ]
    ]

element_seconds_three : (e : Element) → level (e.w2 ∷ []) ≡ level (flat_map second_weights (element_keys Three e))
element_seconds_three e =
    elim (cases_Bool (nat_lt 0 e.w1)) [
      | inl h ↦ simp h
      | inr h ↦ elim (cases_Bool (nat_lt 0 e.w2)) [ inl k ↦ simp (h, k) | inr k ↦ simp (h, k, no_seconds) ]
    ]

-- ---- the third weights, at strength three

element_thirds : (e : Element) → level (e.w3 ∷ []) ≡ level (flat_map third_weights (element_keys Three e))
element_thirds e =
    elim (cases_Bool (nat_lt 0 e.w1)) [
      | inl h ↦ simp h
      | inr h ↦ elim (cases_Bool (nat_lt 0 e.w2)) [
        | inl k ↦ simp (h, k)
        | inr k ↦ elim (cases_Bool (nat_lt 0 e.w3)) [ inl l ↦ simp (h, k, l) | inr l ↦ simp (h, k, l) ]
      ]
    ]

-- ---- a row

-- what agrees level by level agrees when joined
level-append : (xs ys us vs : List ℕ) → level xs ≡ level us → level ys ≡ level vs → level (xs ++ ys) ≡ level (us ++ vs)
level-append xs ys us vs g h = filter-append (nat_lt 0) xs ys ∙ (rw (g, h) (sym (filter-append (nat_lt 0) us vs)))

level_flat : (weights : Key → List ℕ) (xs ys : List ℕ) (ks ls : List Key) →
    level xs ≡ level (flat_map weights ks) → level ys ≡ level (flat_map weights ls) → level (xs ++ ys) ≡ level (flat_map weights (ks ++ ls))
level_flat weights xs ys ks ls g h = rw (flat_map-append weights ks ls) (level-append xs ys (flat_map weights ks) (flat_map weights ls) g h)

-- Of a weight that each element's keys keep and each pair's key keeps, a row's keys keep all.
keeps_row : (s : Strength) (weight : Element → ℕ) (weights : Key → List ℕ) →
    ((e : Element) → level (weight e ∷ []) ≡ level (flat_map weights (element_keys s e))) →
    ((e f : Element) → (is_lead e && is_follower f) ≡ true → level (weight e ∷ weight f ∷ []) ≡ level (weights (pair_key s e f))) →
    (row : List Element) → level (map weight row) ≡ level (flat_map weights (row_keys s row))
keeps_row s weight weights alone paired [] = refl
keeps_row s weight weights alone paired (e ∷ []) = alone e
keeps_row s weight weights alone paired (e ∷ f ∷ es) =
    elim (cases_Bool (is_lead e && is_follower f)) [
      | inl h ↦
          let rest = keeps_row s weight weights alone paired es in
          simp h (level-append (weight e ∷ weight f ∷ []) (map weight es) (weights (pair_key s e f)) (flat_map weights (row_keys s es)) (paired e f h) rest)
      | inr h ↦
          let rest = keeps_row s weight weights alone paired (f ∷ es) in
          simp h (level_flat weights (weight e ∷ []) (map weight (f ∷ es)) (element_keys s e) (row_keys s (f ∷ es)) (alone e) rest)
    ]

follower_zero : (e f : Element) → (is_lead e && is_follower f) ≡ true → (f.w2 ≡ 0) × (f.w3 ≡ 0)
follower_zero e f h =
    let follower = (and_parts _ _ h).1 in
    let third = and_parts _ _ follower in
    let second = and_parts _ _ third.0 in
    (eqb-true f.w2 0 second.1, eqb-true f.w3 0 third.1)

paired_seconds : (x y : ℕ) → y ≡ 0 → level (x ∷ y ∷ []) ≡ level (x ∷ [])
paired_seconds x y h = rw h refl

-- ---- some rows

keeps_rows : (s : Strength) (weight : Element → ℕ) (weights : Key → List ℕ) →
    ((row : List Element) → level (map weight row) ≡ level (flat_map weights (row_keys s row))) →
    (rows : List (List Element)) → level (map weight (flat_map (λ row. row) rows)) ≡ level (flat_map weights (flat_map (row_keys s) rows))
keeps_rows s weight weights each [] = refl
keeps_rows s weight weights each (row ∷ rows) =
    let rest = keeps_rows s weight weights each rows in
    rw (map-append weight row (flat_map (λ r. r) rows)) (level_flat weights (map weight row) (map weight (flat_map (λ r. r) rows)) (row_keys s row) (flat_map (row_keys s) rows) (each row) rest)

-- the levels of the keys of some rows are the sort key of their elements
pub levels_of_rows : (s : Strength) (rows : List (List Element)) → sort_key s (flat_map (λ row. row) rows) ≡ levels s (flat_map (row_keys s) rows)
levels_of_rows One rows =
    keeps_rows One (λ e. e.w1) first_weights (keeps_row One (λ e. e.w1) first_weights (element_firsts One) (λ e f h. refl)) rows
levels_of_rows Two rows =
    let firsts = keeps_rows Two (λ e. e.w1) first_weights (keeps_row Two (λ e. e.w1) first_weights (element_firsts Two) (λ e f h. refl)) rows in
    let seconds = keeps_rows Two (λ e. e.w2) second_weights (keeps_row Two (λ e. e.w2) second_weights element_seconds_two (λ e f h. paired_seconds e.w2 f.w2 (follower_zero e f h).0)) rows in
    rw (firsts, seconds) refl
levels_of_rows Three rows =
    let firsts = keeps_rows Three (λ e. e.w1) first_weights (keeps_row Three (λ e. e.w1) first_weights (element_firsts Three) (λ e f h. refl)) rows in
    let seconds = keeps_rows Three (λ e. e.w2) second_weights (keeps_row Three (λ e. e.w2) second_weights element_seconds_three (λ e f h. paired_seconds e.w2 f.w2 (follower_zero e f h).0)) rows in
    let thirds = keeps_rows Three (λ e. e.w3) third_weights (keeps_row Three (λ e. e.w3) third_weights element_thirds (λ e f h. paired_seconds e.w3 f.w3 (follower_zero e f h).1)) rows in
    rw (firsts, seconds, thirds) refl
