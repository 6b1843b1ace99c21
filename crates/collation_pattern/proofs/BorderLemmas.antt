-- Borders, key by key: what ends a list is followed through one key more, and from one candidate to the next shorter one.
use Rattle.std.proofs.Common.{◌≡◌, ℕ, zero, suc, ◌+◌, ◌-◌, ◌<◌, ◌≤◌, ◌≢◌, true, false, List, [], ◌∷◌, ◌++◌, length, take, drop, get_or, min, refl, sym, ap, ◌∙◌, subst, arith, inl, inr, Some, slice_get, append_assoc, length-append, length-drop}
use Rattle.std.proofs.lemmas.Bool.{cond-true, cond-false, cases_Bool, cases_lt}
use Rattle.std.proofs.lemmas.List.{append-nil, length-take, length-take-le, take-append-drop, drop_at, drop-drop, take_more, same_from_push, length_push, get_or_push, get_or_append_left, drop-append-le}
use Rattle.std.proofs.lemmas.Option.{slice_get-get_or}
use Rattle.collation_elements.specs.declared.keys.Key.{Key}
use Rattle.collation_pattern.specs.Border.{same_keys, ends_with_prefix, border_up_to, border}
use Rattle.collation_pattern.specs.Borders.{AreBorders, IsNextKey}
use Rattle.collation_pattern.proofs.KeyEquality.{same_keys-true, same_keys-same}

-- the first list ends the second one
pub record IsSuffix (xs ys : List Key) : Type 0 where
  pub before : List Key
  pub is : ys ≡ before ++ xs

ends_itself : (xs : List Key) → IsSuffix xs xs
ends_itself xs = record { before = []; is = refl }

ends_any : (ys : List Key) → IsSuffix [] ys
ends_any ys = record { before = ys; is = sym (append-nil ys) }

ends_shorter : (xs ys : List Key) → IsSuffix xs ys → length xs ≤ length ys
ends_shorter xs ys h = omega (arith, ap (λ (l : List Key). length l) h.is, length-append h.before xs)

ends_dropped : (xs ys : List Key) → IsSuffix xs ys → drop (length ys - length xs) ys ≡ xs
ends_dropped xs ys h =
    let n : length h.before ≡ length ys - length xs =
    omega (arith, ap (λ (l : List Key). length l) h.is, length-append h.before xs) in
    ap (drop (length ys - length xs)) h.is ∙ drop_at h.before xs (length ys - length xs) n

ends_from : (n : ℕ) (xs ys : List Key) → drop n ys ≡ xs → IsSuffix xs ys
ends_from n xs ys e =
    record { before = take n ys; is = sym (take-append-drop n ys) ∙ ap (λ (l : List Key). take n ys ++ l) e }

ends_through : (xs ys zs : List Key) → IsSuffix xs ys → IsSuffix ys zs → IsSuffix xs zs
ends_through xs ys zs h k =
    record { before = k.before ++ h.before; is = k.is ∙ ap (λ (l : List Key). k.before ++ l) h.is ∙ sym (append_assoc k.before h.before xs) }

-- of two lists that end a third one the shorter ends the longer
ends_longer : (xs ys zs : List Key) → IsSuffix xs zs → IsSuffix ys zs → length xs ≤ length ys → IsSuffix xs ys
ends_longer xs ys zs h k short =
    let few = length ys - length xs in
    let most = length zs - length ys in
    let n : most + few ≡ length zs - length xs = omega (arith, ends_shorter ys zs k) in
    ends_from few xs ys
    (ap (drop few) (sym (ends_dropped ys zs k)) ∙ drop-drop few most zs ∙ ap (λ i. drop i zs) n ∙ ends_dropped xs zs h)

ends_tail : (xs ys : List Key) → IsSuffix xs ys → length xs < length ys → IsSuffix xs (drop 1 ys)
ends_tail xs ys h short =
    let few = length ys - length xs - 1 in
    let n : 1 + few ≡ length ys - length xs = omega arith in
    ends_from few xs (drop 1 ys) (drop-drop few 1 ys ∙ ap (λ i. drop i ys) n ∙ ends_dropped xs ys h)

tail_ends : (xs : List Key) → IsSuffix (drop 1 xs) xs
tail_ends xs = ends_from 1 (drop 1 xs) xs refl

ends_push : (xs ys : List Key) (k : Key) → IsSuffix xs ys → IsSuffix (xs ++ k ∷ []) (ys ++ k ∷ [])
ends_push xs ys k h =
    record { before = h.before; is = ap (λ (l : List Key). l ++ k ∷ []) h.is ∙ append_assoc h.before xs (k ∷ []) }

ends_pop : (xs ys : List Key) (x y : Key) → IsSuffix (xs ++ x ∷ []) (ys ++ y ∷ []) → IsSuffix xs ys × (x ≡ y)
ends_pop xs ys x y h =
    let same = same_from_push ys (h.before ++ xs) y x (h.is ∙ sym (append_assoc h.before xs (x ∷ []))) in
    (record { before = h.before; is = same.0 }, sym same.1)

-- ---- what the test on prefixes says

test_ends : (pattern ks : List Key) (j : ℕ) → ends_with_prefix pattern ks j ≡ true → IsSuffix (take j pattern) ks
test_ends pattern ks j h = ends_from (length ks - j) (take j pattern) ks (same_keys-true _ _ h)

ends_test : (pattern ks : List Key) (j : ℕ) → j ≤ length pattern → IsSuffix (take j pattern) ks → ends_with_prefix pattern ks j ≡ true
ends_test pattern ks j within h =
    let e : drop (length ks - j) ks ≡ take j pattern =
    ap (λ n. drop (length ks - n) ks) (sym (length-take-le j pattern within)) ∙ ends_dropped (take j pattern) ks h in
    ap (λ (l : List Key). same_keys l (take j pattern)) e ∙ same_keys-same (take j pattern)

up_to-le : (pattern ks : List Key) (n : ℕ) → border_up_to pattern ks n ≤ n
up_to-le pattern ks zero = omega arith
up_to-le pattern ks (suc n) =
    let rest = up_to-le pattern ks n in
    let test = ends_with_prefix pattern ks (suc n) in
    elim (cases_Bool test) [
      | inl yes' ↦ omega (arith, cond-true test (suc n) (border_up_to pattern ks n) yes')
      | inr no' ↦ omega (arith, rest, cond-false test (suc n) (border_up_to pattern ks n) no')
    ]

up_to-ends : (pattern ks : List Key) (n : ℕ) → IsSuffix (take (border_up_to pattern ks n) pattern) ks
up_to-ends pattern ks zero = ends_any ks
up_to-ends pattern ks (suc n) =
    let test = ends_with_prefix pattern ks (suc n) in
    let P : ℕ → Type 0 = λ i. IsSuffix (take i pattern) ks in
    elim (cases_Bool test) [
      | inl yes' ↦ subst P (sym (cond-true test (suc n) (border_up_to pattern ks n) yes')) (test_ends pattern ks (suc n) yes')
      | inr no' ↦ subst P (sym (cond-false test (suc n) (border_up_to pattern ks n) no')) (up_to-ends pattern ks n)
    ]

up_to-most : (pattern ks : List Key) (j n : ℕ) → j ≤ length pattern → IsSuffix (take j pattern) ks → j ≤ n → j ≤ border_up_to pattern ks n
up_to-most pattern ks j zero within h le = le
up_to-most pattern ks j (suc n) within h le =
    let test = ends_with_prefix pattern ks (suc n) in
    elim (cases_Bool test) [
      | inl yes' ↦ omega (arith, le, cond-true test (suc n) (border_up_to pattern ks n) yes')
      | inr no' ↦
          let at : border_up_to pattern ks (suc n) ≡ border_up_to pattern ks n = cond-false test (suc n) (border_up_to pattern ks n) no' in
          elim (cases_lt j (suc n)) [
            | inl below ↦ omega (arith, at, up_to-most pattern ks j n within h (omega (arith, below)))
            | inr above ↦
                let same : j ≡ suc n = omega (arith, le, above) in
                let clash : true ≡ false = sym (ends_test pattern ks j within h) ∙ ap (ends_with_prefix pattern ks) same ∙ no' in
                cc
          ]
    ]

-- ---- the border is the longest prefix that ends the keys

pub border-within : (pattern ks : List Key) → border pattern ks ≤ length pattern
border-within pattern ks = omega (arith, up_to-le pattern ks (min (length pattern) (length ks)))

pub border-few : (pattern ks : List Key) → border pattern ks ≤ length ks
border-few pattern ks = omega (arith, up_to-le pattern ks (min (length pattern) (length ks)))

border-ends : (pattern ks : List Key) → IsSuffix (take (border pattern ks) pattern) ks
border-ends pattern ks = up_to-ends pattern ks (min (length pattern) (length ks))

pub border-last : (pattern ks : List Key) (key : Key) (n : ℕ) → border pattern (ks ++ key ∷ []) ≡ suc n → slice_get pattern n ≡ Some key
border-last pattern ks key n at =
    let below : n < length pattern = omega (arith, at, border-within pattern (ks ++ key ∷ [])) in
    let last = get_or pattern n key in
    let ends = subst (λ i. IsSuffix (take i pattern) (ks ++ key ∷ [])) (at ∙ omega arith) (border-ends pattern (ks ++ key ∷ [])) in
    let popped = ends_pop (take n pattern) ks last key (subst (λ (l : List Key). IsSuffix l (ks ++ key ∷ [])) (take_more pattern n key below) ends) in
    slice_get-get_or pattern n key below ∙ ap (λ k. Some k) popped.1

border-most : (pattern ks : List Key) (j : ℕ) → j ≤ length pattern → IsSuffix (take j pattern) ks → j ≤ border pattern ks
border-most pattern ks j within h =
    let few : j ≤ length ks = omega (arith, ends_shorter (take j pattern) ks h, length-take-le j pattern within) in
    up_to-most pattern ks j (min (length pattern) (length ks)) within h (omega arith)

border-is : (pattern ks : List Key) (s : ℕ) → s ≤ length pattern → IsSuffix (take s pattern) ks →
    ((j : ℕ) → j ≤ length pattern → IsSuffix (take j pattern) ks → j ≤ s) → s ≡ border pattern ks
border-is pattern ks s within ends most =
    let above = border-most pattern ks s within ends in
    let below = most (border pattern ks) (border-within pattern ks) (border-ends pattern ks) in
    omega (arith, above, below)

-- ---- one key more

pub next-below : (pattern : List Key) (j : ℕ) (key : Key) → IsNextKey pattern j key → j < length pattern
next-below pattern j key h =
    elim (cases_lt j (length pattern)) [
      | inl below ↦ below
      | inr past ↦
          absurd (omega (arith, ap (λ (l : List Key). length l) h, length-take (j + 1) pattern, length_push (take j pattern) key, length-take j pattern))
    ]

next-at : (pattern : List Key) (j : ℕ) (d : Key) → j < length pattern → IsNextKey pattern j (get_or pattern j d)
next-at pattern j d below = take_more pattern j d below

suc_take : (pattern : List Key) (j : ℕ) → take (suc j) pattern ≡ take (j + 1) pattern
suc_take pattern j = let e : suc j ≡ j + 1 = omega arith in ap (λ n. take n pattern) e

one_more : (pattern ys : List Key) (j : ℕ) (key : Key) → j < length pattern → IsSuffix (take (suc j) pattern) (ys ++ key ∷ []) → IsNextKey pattern j key × IsSuffix (take j pattern) ys
one_more pattern ys j key below h =
    let at = suc_take pattern j ∙ next-at pattern j key below in
    let P : List Key → Type 0 = λ l. IsSuffix l (ys ++ key ∷ []) in
    let parts = ends_pop (take j pattern) ys (get_or pattern j key) key (subst P at h) in
    (next-at pattern j key below ∙ ap (λ (k : Key). take j pattern ++ k ∷ []) parts.1, parts.0)

one_longer : (pattern ys : List Key) (j : ℕ) (key : Key) → IsNextKey pattern j key → IsSuffix (take j pattern) ys → IsSuffix (take (suc j) pattern) (ys ++ key ∷ [])
one_longer pattern ys j key next h =
    let P : List Key → Type 0 = λ l. IsSuffix l (ys ++ key ∷ []) in subst P (sym (suc_take pattern j ∙ next)) (ends_push (take j pattern) ys key h)

ends_among : (pattern ks : List Key) (i j : ℕ) → i ≤ length pattern → j ≤ length pattern → IsSuffix (take i pattern) ks → IsSuffix (take j pattern) ks → i ≤ j → IsSuffix (take i pattern) (take j pattern)
ends_among pattern ks i j hi hj h k le =
    ends_longer (take i pattern) (take j pattern) ks h k
    (omega (arith, le, length-take-le i pattern hi, length-take-le j pattern hj))

border_more-most : (pattern ks : List Key) (key : Key) (j : ℕ) → j ≤ length pattern → IsSuffix (take j pattern) (ks ++ key ∷ []) →
    j ≤ border pattern (take (border pattern ks) pattern ++ key ∷ [])
border_more-most pattern ks key zero within h = omega arith
border_more-most pattern ks key (suc j) within h =
    let s = border pattern ks in
    let below : j < length pattern = omega (arith, within) in
    let parts = one_more pattern ks j key below h in
    let le = border-most pattern ks j (omega (arith, below)) parts.1 in
    let among = ends_among pattern ks j s (omega (arith, below)) (border-within pattern ks) parts.1 (border-ends pattern ks) le in
    border-most pattern (take s pattern ++ key ∷ []) (suc j) within (one_longer pattern (take s pattern) j key parts.0 among)

-- With one key more the border comes from the border before, whatever the keys were.
pub border-more : (pattern ks : List Key) (key : Key) → border pattern (take (border pattern ks) pattern ++ key ∷ []) ≡ border pattern (ks ++ key ∷ [])
border-more pattern ks key =
    let s = border pattern ks in
    let short = take s pattern ++ key ∷ [] in
    border-is pattern (ks ++ key ∷ []) (border pattern short) (border-within pattern short)
    (ends_through (take (border pattern short) pattern) short (ks ++ key ∷ []) (border-ends pattern short)
    (ends_push (take s pattern) ks key (border-ends pattern ks))) (border_more-most pattern ks key)

pub border-goes_on : (pattern ks ls : List Key) (key : Key) → border pattern ks ≡ border pattern ls →
    border pattern (ks ++ key ∷ []) ≡ border pattern (ls ++ key ∷ [])
border-goes_on pattern ks ls key same =
    sym (border-more pattern ks key)
    ∙ ap (λ n. border pattern (take n pattern ++ key ∷ [])) same
    ∙ border-more pattern ls key

pub border-grows : (pattern ks : List Key) (key : Key) → border pattern (ks ++ key ∷ []) ≤ suc (border pattern ks)
border-grows pattern ks key = below (border pattern (ks ++ key ∷ [])) refl
  where
    below : (n : ℕ) → border pattern (ks ++ key ∷ []) ≡ n → n ≤ suc (border pattern ks)
    below zero at = omega arith
    below (suc n) at =
        let within : n < length pattern = omega (arith, at, border-within pattern (ks ++ key ∷ [])) in
        let ends = subst (λ i. IsSuffix (take i pattern) (ks ++ key ∷ [])) at (border-ends pattern (ks ++ key ∷ [])) in
        let parts = one_more pattern ks n key within ends in
        omega (arith, border-most pattern ks n (omega (arith, within)) parts.1)

-- ---- the search for the border of the first `state` keys with one more

-- the first n keys end the first `state` keys, and all prefixes that do so with this key after them are no longer
pub record IsCandidate (pattern : List Key) (state : ℕ) (key : Key) (n : ℕ) : Type 0 where
  pub within : n ≤ length pattern
  pub ends : IsSuffix (take n pattern) (take state pattern)
  pub others : (j : ℕ) → IsNextKey pattern j key → IsSuffix (take j pattern) (take state pattern) → j ≤ n

pub candidate-first : (pattern : List Key) (state : ℕ) (key : Key) → state ≤ length pattern → IsCandidate pattern state key state
candidate-first pattern state key h =
    record {
      within = h;
      ends = ends_itself (take state pattern);
      others = λ j next ends.
          let shorter = ends_shorter (take j pattern) (take state pattern) ends in
          let below = next-below pattern j key next in
          omega (arith, shorter, below, length-take-le j pattern (omega (arith, below)), length-take-le state pattern h);
    }

-- the next shorter one, where the key does not stand after this one
pub candidate-shorter : (pattern : List Key) (state : ℕ) (key : Key) (n : ℕ) → IsCandidate pattern state key n →
    (IsNextKey pattern n key → ⊥) → IsCandidate pattern state key (border pattern (drop 1 (take n pattern)))
candidate-shorter pattern state key n c other =
    let whole = take n pattern in
    let tail = drop 1 whole in
    record {
      within = border-within pattern tail;
      ends = ends_through (take (border pattern tail) pattern) whole (take state pattern)
          (ends_through (take (border pattern tail) pattern) tail whole (border-ends pattern tail) (tail_ends whole)) c.ends;
      others = λ j next ends.
          let le = c.others j next ends in
          let below = next-below pattern j key next in
          let P : ℕ → Type 0 = λ i. IsNextKey pattern i key in
          let differ : j ≢ n = λ e. other (subst P e next) in
          let among = ends_among pattern (take state pattern) j n (omega (arith, below)) c.within ends c.ends le in
          border-most pattern tail j (omega (arith, below))
          (ends_tail (take j pattern) whole among
          (omega (arith, le, differ, below, length-take-le j pattern (omega (arith, below)), length-take-le n pattern c.within)));
    }

candidate_found-most : (pattern : List Key) (state : ℕ) (key : Key) (n : ℕ) → IsCandidate pattern state key n →
    (j : ℕ) → j ≤ length pattern → IsSuffix (take j pattern) (take state pattern ++ key ∷ []) → j ≤ suc n
candidate_found-most pattern state key n c zero within h = omega arith
candidate_found-most pattern state key n c (suc j) within h =
    let parts = one_more pattern (take state pattern) j key within h in
    omega (arith, c.others j parts.0 parts.1)

-- the key stands after it
pub candidate-found : (pattern : List Key) (state : ℕ) (key : Key) (n : ℕ) → IsCandidate pattern state key n → IsNextKey pattern n key →
    n + 1 ≡ border pattern (take state pattern ++ key ∷ [])
candidate-found pattern state key n c next =
    let e : n + 1 ≡ suc n = omega arith in
    e
    ∙ border-is pattern (take state pattern ++ key ∷ []) (suc n) (next-below pattern n key next)
    (one_longer pattern (take state pattern) n key next c.ends) (candidate_found-most pattern state key n c)

candidate_none-most : (pattern : List Key) (state : ℕ) (key : Key) → IsCandidate pattern state key 0 → (IsNextKey pattern 0 key → ⊥) →
    (j : ℕ) → j ≤ length pattern → IsSuffix (take j pattern) (take state pattern ++ key ∷ []) → j ≤ 0
candidate_none-most pattern state key c other zero within h = omega arith
candidate_none-most pattern state key c other (suc j) within h =
    let parts = one_more pattern (take state pattern) j key within h in
    let least : j ≡ 0 = omega (arith, c.others j parts.0 parts.1) in
    let P : ℕ → Type 0 = λ i. IsNextKey pattern i key in
    absurd (other (subst P least parts.0))

-- the key stands after none
pub candidate-none : (pattern : List Key) (state : ℕ) (key : Key) → IsCandidate pattern state key 0 → (IsNextKey pattern 0 key → ⊥) →
    0 ≡ border pattern (take state pattern ++ key ∷ [])
candidate-none pattern state key c other =
    border-is pattern (take state pattern ++ key ∷ []) 0 (omega arith) (ends_any (take state pattern ++ key ∷ []))
    (candidate_none-most pattern state key c other)

-- ---- by the table

pub candidate-by_table : (pattern : List Key) (borders : List ℕ) (state : ℕ) (key : Key) (n : ℕ) → AreBorders pattern borders →
    IsCandidate pattern state key n → (IsNextKey pattern n key → ⊥) → (n ≡ 0 → ⊥) → n ≤ length borders → IsCandidate pattern state key (get_or borders (n - 1) 0)
candidate-by_table pattern borders state key n table c other some known =
    let e : n - 1 + 1 ≡ n = omega arith in
    let at = table (n - 1) (omega arith) ∙ ap (λ i. border pattern (drop 1 (take i pattern))) e in
    subst (IsCandidate pattern state key) (sym at) (candidate-shorter pattern state key n c other)

pub by_table-less : (pattern : List Key) (borders : List ℕ) (n : ℕ) → AreBorders pattern borders → n ≤ length pattern → (n ≡ 0 → ⊥) → n ≤ length borders →
    get_or borders (n - 1) 0 < n
by_table-less pattern borders n table within some known =
    let e : n - 1 + 1 ≡ n = omega arith in
    let at = table (n - 1) (omega arith) ∙ ap (λ i. border pattern (drop 1 (take i pattern))) e in
    omega (arith, at, border-few pattern (drop 1 (take n pattern)), length-drop 1 (take n pattern), length-take-le n pattern within)

-- one more entry
pub table-more : (pattern : List Key) (borders : List ℕ) (state : ℕ) → AreBorders pattern borders →
    state ≡ border pattern (drop 1 (take (length borders + 1) pattern)) → AreBorders pattern (borders ++ state ∷ [])
table-more pattern borders state table next i below =
    elim (cases_lt i (length borders)) [
      | inl old ↦ get_or_append_left borders (state ∷ []) 0 i old ∙ table i old
      | inr new ↦
          let e : length borders ≡ i = omega (arith, below, new, length_push borders state) in
          get_or_push borders state 0 i e ∙ next ∙ ap (λ n. border pattern (drop 1 (take (n + 1) pattern))) e
    ]

-- the border that comes next, for the first key and for each key after it
pub next-first : (pattern : List Key) → border pattern [] ≡ border pattern (drop 1 (take 1 pattern))
next-first [] = refl
next-first (p ∷ ps) = refl

pub next-later : (pattern : List Key) (i : ℕ) (key : Key) → i < length pattern → (i ≡ 0 → ⊥) → key ≡ get_or pattern i key →
    border pattern (take (border pattern (drop 1 (take i pattern))) pattern ++ key ∷ []) ≡ border pattern (drop 1 (take (i + 1) pattern))
next-later pattern i key below some e =
    border-more pattern (drop 1 (take i pattern)) key ∙ ap (border pattern) (sym longer)
  where
    longer : drop 1 (take (i + 1) pattern) ≡ drop 1 (take i pattern) ++ key ∷ []
    longer = ap (drop 1) (take_more pattern i key below ∙ ap (λ (k : Key). take i pattern ++ k ∷ []) (sym e))
        ∙ drop-append-le 1 (take i pattern) (key ∷ []) (omega (arith, some, below, length-take-le i pattern (omega (arith, below))))

pub border-short : (pattern : List Key) (i : ℕ) → border pattern (drop 1 (take i pattern)) ≤ i
border-short pattern i =
    omega (arith, border-few pattern (drop 1 (take i pattern)), length-drop 1 (take i pattern), length-take i pattern)
