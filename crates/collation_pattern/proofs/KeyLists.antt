-- A list of keys can be read from its levels in one way only, where the secondary weights of secondary keys lie above those
-- of primary ones, and the tertiary weights of tertiary keys above those of both.
use Rattle.std.specs.List.{AllByRecursion}
use Rattle.std.proofs.Common.{◌≡◌, ◌↔◌, inl, inr, ℕ, ◌<◌, ◌≤◌, nat_lt, List, [], ◌∷◌, ◌++◌, filter, flat_map, sym, ◌∙◌, ap, arith, refl}
use Rattle.std.proofs.lemmas.Bool.{lt-ltb, ltb-true, cases_Bool}
use Rattle.std.proofs.lemmas.List.{append_assoc}
use Rattle.collation_elements.specs.declared.settings.Strength.{Strength}
use Rattle.collation_elements.specs.declared.settings.Strength.TheVariants.{One, Two, Three}
use Rattle.collation_elements.specs.declared.keys.Key.{Key}
use Rattle.collation_elements.specs.declared.keys.Key.TheVariants.{Primary, Pair, Secondary, Tertiary}
use Rattle.collation_pattern.specs.Levels.{first_weights, second_weights, third_weights, levels}
use Rattle.collation_pattern.specs.SortKey.{level}

-- which second and third weights primary keys (low) and the others (high) may have
pub record Scale : Type 1 where
  pub low2 : ℕ → Type 0
  pub high2 : ℕ → Type 0
  pub low3 : ℕ → Type 0
  pub high3 : ℕ → Type 0
  pub apart2 : (b c : ℕ) → low2 b → high2 c → b < c
  pub apart3 : (b c : ℕ) → low3 b → high3 c → b < c

abbrev pub Low2 : Scale → Strength → ℕ → Type 0
Low2 S One b = b ≡ 0
Low2 S Two b = (0 < b) × S.low2 b
Low2 S Three b = (0 < b) × S.low2 b

abbrev pub High2 : Scale → Strength → ℕ → Type 0
High2 S One b = ⊥
High2 S Two b = (0 < b) × S.high2 b
High2 S Three b = (0 < b) × S.high2 b

abbrev pub Low3 : Scale → Strength → ℕ → Type 0
Low3 S One c = c ≡ 0
Low3 S Two c = c ≡ 0
Low3 S Three c = (0 < c) × S.low3 c

abbrev pub High3 : Scale → Strength → ℕ → Type 0
High3 S One c = ⊥
High3 S Two c = ⊥
High3 S Three c = (0 < c) × S.high3 c

abbrev pub IsReadable : Scale → Strength → Key → Type 0
IsReadable S s (Primary a b c) = (0 < a) × (0xFB00 ≤ a → 0xFBFF < a) × Low2 S s b × Low3 S s c
IsReadable S s (Pair a d b c) = (0xFB00 ≤ a) × (a ≤ 0xFBFF) × (0 < d) × Low2 S s b × Low3 S s c
IsReadable S s (Secondary b c) = High2 S s b × Low3 S s c
IsReadable S s (Tertiary c) = High3 S s c

abbrev pub AreReadable : Scale → Strength → List Key → Type 0
AreReadable S s ks = AllByRecursion (IsReadable S s) ks

abbrev pub firsts : List Key → List ℕ
firsts ks = flat_map first_weights ks

abbrev pub seconds : List Key → List ℕ
seconds ks = flat_map second_weights ks

abbrev pub thirds : List Key → List ℕ
thirds ks = flat_map third_weights ks

-- strength one
one : (S : Scale) (ks ls : List Key) → AreReadable S One ks → AreReadable S One ls → firsts ks ≡ firsts ls → ks ≡ ls
one S [] [] hk hl e = refl
one S (Secondary b c ∷ ks) ls hk hl e = absurd hk.0.0
one S (Tertiary c ∷ ks) ls hk hl e = absurd hk.0
one S [] (Secondary b c ∷ ls) hk hl e = absurd hl.0.0
one S [] (Tertiary c ∷ ls) hk hl e = absurd hl.0
one S [] (Primary a b c ∷ ls) hk hl e = cc
one S [] (Pair a d b c ∷ ls) hk hl e = cc
one S (Primary a b c ∷ ks) [] hk hl e = cc
one S (Primary a b c ∷ ks) (Secondary y z ∷ ls) hk hl e = absurd hl.0.0
one S (Primary a b c ∷ ks) (Tertiary z ∷ ls) hk hl e = absurd hl.0
one S (Primary a b c ∷ ks) (Primary x y z ∷ ls) hk hl e =
    let rest : firsts ks ≡ firsts ls = cc in
    let tails : ks ≡ ls = one S ks ls hk.1 hl.1 rest in
    let b0 = hk.0.2 in let y0 = hl.0.2 in let c0 = hk.0.3 in let z0 = hl.0.3 in cc
one S (Primary a b c ∷ ks) (Pair x w y z ∷ ls) hk hl e = let same : a ≡ x = cc in absurd (omega (arith, hk.0.1))
one S (Pair a d b c ∷ ks) [] hk hl e = cc
one S (Pair a d b c ∷ ks) (Secondary y z ∷ ls) hk hl e = absurd hl.0.0
one S (Pair a d b c ∷ ks) (Tertiary z ∷ ls) hk hl e = absurd hl.0
one S (Pair a d b c ∷ ks) (Primary x y z ∷ ls) hk hl e = let same : a ≡ x = cc in absurd (omega (arith, hl.0.1))
one S (Pair a d b c ∷ ks) (Pair x w y z ∷ ls) hk hl e =
    let rest : firsts ks ≡ firsts ls = cc in
    let tails : ks ≡ ls = one S ks ls hk.1 hl.1 rest in
    let b0 = hk.0.3 in let y0 = hl.0.3 in let c0 = hk.0.4 in let z0 = hl.0.4 in cc

-- strength two
two : (S : Scale) (ks ls : List Key) → AreReadable S Two ks → AreReadable S Two ls → firsts ks ≡ firsts ls → seconds ks ≡ seconds ls → ks ≡ ls
two S [] [] hk hl e f = refl
two S (Tertiary c ∷ ks) ls hk hl e f = absurd hk.0
two S [] (Tertiary z ∷ ls) hk hl e f = absurd hl.0
two S [] (Primary x y z ∷ ls) hk hl e f = cc
two S [] (Pair x w y z ∷ ls) hk hl e f = cc
two S [] (Secondary y z ∷ ls) hk hl e f = cc
two S (Primary a b c ∷ ks) [] hk hl e f = cc
two S (Primary a b c ∷ ks) (Tertiary z ∷ ls) hk hl e f = absurd hl.0
two S (Primary a b c ∷ ks) (Primary x y z ∷ ls) hk hl e f =
    let rest1 : firsts ks ≡ firsts ls = cc in
    let rest2 : seconds ks ≡ seconds ls = cc in
    let tails : ks ≡ ls = two S ks ls hk.1 hl.1 rest1 rest2 in
    let c0 = hk.0.3 in let z0 = hl.0.3 in cc
two S (Primary a b c ∷ ks) (Pair x w y z ∷ ls) hk hl e f =
    let same : a ≡ x = cc in absurd (omega (arith, hk.0.1))
two S (Primary a b c ∷ ks) (Secondary y z ∷ ls) hk hl e f =
    let same : b ≡ y = cc in absurd (omega (arith, S.apart2 b y hk.0.2.1 hl.0.0.1))
two S (Pair a d b c ∷ ks) [] hk hl e f = cc
two S (Pair a d b c ∷ ks) (Tertiary z ∷ ls) hk hl e f = absurd hl.0
two S (Pair a d b c ∷ ks) (Primary x y z ∷ ls) hk hl e f =
    let same : a ≡ x = cc in absurd (omega (arith, hl.0.1))
two S (Pair a d b c ∷ ks) (Pair x w y z ∷ ls) hk hl e f =
    let rest1 : firsts ks ≡ firsts ls = cc in
    let rest2 : seconds ks ≡ seconds ls = cc in
    let tails : ks ≡ ls = two S ks ls hk.1 hl.1 rest1 rest2 in
    let c0 = hk.0.4 in let z0 = hl.0.4 in cc
two S (Pair a d b c ∷ ks) (Secondary y z ∷ ls) hk hl e f =
    let same : b ≡ y = cc in absurd (omega (arith, S.apart2 b y hk.0.3.1 hl.0.0.1))
two S (Secondary b c ∷ ks) [] hk hl e f = cc
two S (Secondary b c ∷ ks) (Tertiary z ∷ ls) hk hl e f = absurd hl.0
two S (Secondary b c ∷ ks) (Primary x y z ∷ ls) hk hl e f =
    let same : b ≡ y = cc in absurd (omega (arith, S.apart2 y b hl.0.2.1 hk.0.0.1))
two S (Secondary b c ∷ ks) (Pair x w y z ∷ ls) hk hl e f =
    let same : b ≡ y = cc in absurd (omega (arith, S.apart2 y b hl.0.3.1 hk.0.0.1))
two S (Secondary b c ∷ ks) (Secondary y z ∷ ls) hk hl e f =
    let rest1 : firsts ks ≡ firsts ls = cc in
    let rest2 : seconds ks ≡ seconds ls = cc in
    let tails : ks ≡ ls = two S ks ls hk.1 hl.1 rest1 rest2 in
    let c0 = hk.0.1 in let z0 = hl.0.1 in cc

-- strength three
three : (S : Scale) (ks ls : List Key) → AreReadable S Three ks → AreReadable S Three ls → firsts ks ≡ firsts ls → seconds ks ≡ seconds ls → thirds ks ≡ thirds ls → ks ≡ ls
three S [] [] hk hl e f g = refl
three S [] (Primary x y z ∷ ls) hk hl e f g = cc
three S [] (Pair x w y z ∷ ls) hk hl e f g = cc
three S [] (Secondary y z ∷ ls) hk hl e f g = cc
three S [] (Tertiary z ∷ ls) hk hl e f g = cc
three S (Primary a b c ∷ ks) [] hk hl e f g = cc
three S (Primary a b c ∷ ks) (Primary x y z ∷ ls) hk hl e f g =
    let rest1 : firsts ks ≡ firsts ls = cc in
    let rest2 : seconds ks ≡ seconds ls = cc in
    let rest3 : thirds ks ≡ thirds ls = cc in
    let tails : ks ≡ ls = three S ks ls hk.1 hl.1 rest1 rest2 rest3 in
    cc
three S (Primary a b c ∷ ks) (Pair x w y z ∷ ls) hk hl e f g =
    let same : a ≡ x = cc in absurd (omega (arith, hk.0.1))
three S (Primary a b c ∷ ks) (Secondary y z ∷ ls) hk hl e f g =
    let same : b ≡ y = cc in absurd (omega (arith, S.apart2 b y hk.0.2.1 hl.0.0.1))
three S (Primary a b c ∷ ks) (Tertiary z ∷ ls) hk hl e f g =
    let same : c ≡ z = cc in absurd (omega (arith, S.apart3 c z hk.0.3.1 hl.0.1))
three S (Pair a d b c ∷ ks) [] hk hl e f g = cc
three S (Pair a d b c ∷ ks) (Primary x y z ∷ ls) hk hl e f g =
    let same : a ≡ x = cc in absurd (omega (arith, hl.0.1))
three S (Pair a d b c ∷ ks) (Pair x w y z ∷ ls) hk hl e f g =
    let rest1 : firsts ks ≡ firsts ls = cc in
    let rest2 : seconds ks ≡ seconds ls = cc in
    let rest3 : thirds ks ≡ thirds ls = cc in
    let tails : ks ≡ ls = three S ks ls hk.1 hl.1 rest1 rest2 rest3 in
    cc
three S (Pair a d b c ∷ ks) (Secondary y z ∷ ls) hk hl e f g =
    let same : b ≡ y = cc in absurd (omega (arith, S.apart2 b y hk.0.3.1 hl.0.0.1))
three S (Pair a d b c ∷ ks) (Tertiary z ∷ ls) hk hl e f g =
    let same : c ≡ z = cc in absurd (omega (arith, S.apart3 c z hk.0.4.1 hl.0.1))
three S (Secondary b c ∷ ks) [] hk hl e f g = cc
three S (Secondary b c ∷ ks) (Primary x y z ∷ ls) hk hl e f g =
    let same : b ≡ y = cc in absurd (omega (arith, S.apart2 y b hl.0.2.1 hk.0.0.1))
three S (Secondary b c ∷ ks) (Pair x w y z ∷ ls) hk hl e f g =
    let same : b ≡ y = cc in absurd (omega (arith, S.apart2 y b hl.0.3.1 hk.0.0.1))
three S (Secondary b c ∷ ks) (Secondary y z ∷ ls) hk hl e f g =
    let rest1 : firsts ks ≡ firsts ls = cc in
    let rest2 : seconds ks ≡ seconds ls = cc in
    let rest3 : thirds ks ≡ thirds ls = cc in
    let tails : ks ≡ ls = three S ks ls hk.1 hl.1 rest1 rest2 rest3 in
    cc
three S (Secondary b c ∷ ks) (Tertiary z ∷ ls) hk hl e f g =
    let same : c ≡ z = cc in absurd (omega (arith, S.apart3 c z hk.0.1.1 hl.0.1))
three S (Tertiary c ∷ ks) [] hk hl e f g = cc
three S (Tertiary c ∷ ks) (Primary x y z ∷ ls) hk hl e f g =
    let same : c ≡ z = cc in absurd (omega (arith, S.apart3 z c hl.0.3.1 hk.0.1))
three S (Tertiary c ∷ ks) (Pair x w y z ∷ ls) hk hl e f g =
    let same : c ≡ z = cc in absurd (omega (arith, S.apart3 z c hl.0.4.1 hk.0.1))
three S (Tertiary c ∷ ks) (Secondary y z ∷ ls) hk hl e f g =
    let same : c ≡ z = cc in absurd (omega (arith, S.apart3 z c hl.0.1.1 hk.0.1))
three S (Tertiary c ∷ ks) (Tertiary z ∷ ls) hk hl e f g =
    let rest1 : firsts ks ≡ firsts ls = cc in
    let rest2 : seconds ks ≡ seconds ls = cc in
    let rest3 : thirds ks ≡ thirds ls = cc in
    let tails : ks ≡ ls = three S ks ls hk.1 hl.1 rest1 rest2 rest3 in
    cc

-- ---- the levels give the weights of each level

abbrev AllPositive : List ℕ → Type 0
AllPositive xs = AllByRecursion (λ x. 0 < x) xs

filter_positive : (xs : List ℕ) → AllPositive xs → filter (nat_lt 0) xs ≡ xs
filter_positive [] h = refl
filter_positive (x ∷ xs) h = let test = lt-ltb 0 x h.0 in rw test (ap (λ t. x ∷ t) (filter_positive xs h.1))

-- a separator stands at one place only
split : (xs ys us vs : List ℕ) → AllPositive xs → AllPositive ys → xs ++ 0 ∷ us ≡ ys ++ 0 ∷ vs → (xs ≡ ys) × (us ≡ vs)
split [] [] us vs hx hy e = (refl, cc)
split [] (y ∷ ys) us vs hx hy e = let same : 0 ≡ y = cc in absurd (omega (arith, hy.0))
split (x ∷ xs) [] us vs hx hy e = let same : x ≡ 0 = cc in absurd (omega (arith, hx.0))
split (x ∷ xs) (y ∷ ys) us vs hx hy e =
    let heads : x ≡ y = cc in
    let tails : xs ++ 0 ∷ us ≡ ys ++ 0 ∷ vs = cc in
    let rest = split xs ys us vs hx.1 hy.1 tails in (let r0 = rest.0 in cc, rest.1)

firsts_positive : (S : Scale) (s : Strength) (ks : List Key) → AreReadable S s ks → AllPositive (firsts ks)
firsts_positive S s [] h = tt
firsts_positive S s (Primary a b c ∷ ks) h = (h.0.0, firsts_positive S s ks h.1)
firsts_positive S s (Pair a d b c ∷ ks) h = (omega (arith, h.0.0), (h.0.2, firsts_positive S s ks h.1))
firsts_positive S s (Secondary b c ∷ ks) h = firsts_positive S s ks h.1
firsts_positive S s (Tertiary c ∷ ks) h = firsts_positive S s ks h.1

seconds_two : (S : Scale) (ks : List Key) → AreReadable S Two ks → AllPositive (seconds ks)
seconds_two S [] h = tt
seconds_two S (Primary a b c ∷ ks) h = (h.0.2.0, seconds_two S ks h.1)
seconds_two S (Pair a d b c ∷ ks) h = (h.0.3.0, seconds_two S ks h.1)
seconds_two S (Secondary b c ∷ ks) h = (h.0.0.0, seconds_two S ks h.1)
seconds_two S (Tertiary c ∷ ks) h = absurd h.0

seconds_three : (S : Scale) (ks : List Key) → AreReadable S Three ks → AllPositive (seconds ks)
seconds_three S [] h = tt
seconds_three S (Primary a b c ∷ ks) h = (h.0.2.0, seconds_three S ks h.1)
seconds_three S (Pair a d b c ∷ ks) h = (h.0.3.0, seconds_three S ks h.1)
seconds_three S (Secondary b c ∷ ks) h = (h.0.0.0, seconds_three S ks h.1)
seconds_three S (Tertiary c ∷ ks) h = seconds_three S ks h.1

thirds_three : (S : Scale) (ks : List Key) → AreReadable S Three ks → AllPositive (thirds ks)
thirds_three S [] h = tt
thirds_three S (Primary a b c ∷ ks) h = (h.0.3.0, thirds_three S ks h.1)
thirds_three S (Pair a d b c ∷ ks) h = (h.0.4.0, thirds_three S ks h.1)
thirds_three S (Secondary b c ∷ ks) h = (h.0.1.0, thirds_three S ks h.1)
thirds_three S (Tertiary c ∷ ks) h = (h.0.0, thirds_three S ks h.1)

-- readable lists of keys that have the same levels are equal
pub same_levels : (S : Scale) (s : Strength) (ks ls : List Key) → AreReadable S s ks → AreReadable S s ls → levels s ks ≡ levels s ls → ks ≡ ls
same_levels S One ks ls hk hl e =
    let left = filter_positive _ (firsts_positive S One ks hk) in
    let right = filter_positive _ (firsts_positive S One ls hl) in
    one S ks ls hk hl (sym left ∙ e ∙ right)
same_levels S Two ks ls hk hl e =
    let k1 = filter_positive _ (firsts_positive S Two ks hk) in
    let l1 = filter_positive _ (firsts_positive S Two ls hl) in
    let k2 = filter_positive _ (seconds_two S ks hk) in
    let l2 = filter_positive _ (seconds_two S ls hl) in
    let plain : firsts ks ++ 0 ∷ seconds ks ≡ firsts ls ++ 0 ∷ seconds ls = cc in
    let parts = split _ _ _ _ (firsts_positive S Two ks hk) (firsts_positive S Two ls hl) plain in
    two S ks ls hk hl parts.0 parts.1
same_levels S Three ks ls hk hl e =
    let k1 = filter_positive _ (firsts_positive S Three ks hk) in
    let l1 = filter_positive _ (firsts_positive S Three ls hl) in
    let k2 = filter_positive _ (seconds_three S ks hk) in
    let l2 = filter_positive _ (seconds_three S ls hl) in
    let k3 = filter_positive _ (thirds_three S ks hk) in
    let l3 = filter_positive _ (thirds_three S ls hl) in
    let plain : (firsts ks ++ 0 ∷ seconds ks) ++ 0 ∷ thirds ks ≡ (firsts ls ++ 0 ∷ seconds ls) ++ 0 ∷ thirds ls = cc in
    let ka = append_assoc (firsts ks) (0 ∷ seconds ks) (0 ∷ thirds ks) in
    let la = append_assoc (firsts ls) (0 ∷ seconds ls) (0 ∷ thirds ls) in
    let joined : firsts ks ++ 0 ∷ (seconds ks ++ 0 ∷ thirds ks) ≡ firsts ls ++ 0 ∷ (seconds ls ++ 0 ∷ thirds ls) = sym ka ∙ plain ∙ la in
    let parts = split _ _ _ _ (firsts_positive S Three ks hk) (firsts_positive S Three ls hl) joined in
    let later = split _ _ _ _ (seconds_three S ks hk) (seconds_three S ls hl) parts.1 in
    three S ks ls hk hl parts.0 later.0 later.1

-- ---- levels and the weights of each level

level_positive : (xs : List ℕ) → AllPositive (level xs)
level_positive [] = tt
level_positive (x ∷ xs) = elim (cases_Bool (nat_lt 0 x)) [ inl h ↦ simp h (ltb-true 0 x h, level_positive xs) | inr h ↦ simp h (level_positive xs) ]

pub levels_two : (ks ls : List Key) → (levels Two ks ≡ levels Two ls) ↔ ((level (firsts ks) ≡ level (firsts ls)) × (level (seconds ks) ≡ level (seconds ls)))
levels_two ks ls = (
  λ e. split _ _ _ _ (level_positive (firsts ks)) (level_positive (firsts ls)) e,
  λ e. let first = e.0 in let second = e.1 in rw (first, second) refl,
)

pub levels_three : (ks ls : List Key) →
    (levels Three ks ≡ levels Three ls) ↔ ((level (firsts ks) ≡ level (firsts ls)) × (level (seconds ks) ≡ level (seconds ls)) × (level (thirds ks) ≡ level (thirds ls)))
levels_three ks ls = (
  λ e.
      let ka = append_assoc (level (firsts ks)) (0 ∷ level (seconds ks)) (0 ∷ level (thirds ks)) in
      let la = append_assoc (level (firsts ls)) (0 ∷ level (seconds ls)) (0 ∷ level (thirds ls)) in
      let joined : level (firsts ks) ++ 0 ∷ (level (seconds ks) ++ 0 ∷ level (thirds ks)) ≡ level (firsts ls) ++ 0 ∷ (level (seconds ls) ++ 0 ∷ level (thirds ls)) = sym ka ∙ e ∙ la in
      let parts = split _ _ _ _ (level_positive (firsts ks)) (level_positive (firsts ls)) joined in
      let later = split _ _ _ _ (level_positive (seconds ks)) (level_positive (seconds ls)) parts.1 in
      (parts.0, later.0, later.1),
  λ e. let first = e.0 in let second = e.1 in let third = e.2 in rw (first, second, third) refl,
)

pub levels_first : (s : Strength) (ks ls : List Key) → levels s ks ≡ levels s ls → level (firsts ks) ≡ level (firsts ls)
levels_first One ks ls e = e
levels_first Two ks ls e = ((levels_two ks ls).0 e).0
levels_first Three ks ls e = ((levels_three ks ls).0 e).0
