-- Members of lists, and lists whose elements rise: two of them with the same members are equal.
use Rattle.std.proofs.Common.{◌≡◌, ◌⊎◌, Bool, true, false, cond, List, [], ◌∷◌, ◌++◌, map, filter, flat_map, refl, sym, ap, ◌∙◌, subst, inl, inr}
use Rattle.std.proofs.lemmas.Bool.{or_cases, or_left, or_right}
use Rattle.std.specs.List.{list_any}

abbrev pub In : {A : Type 0} → List A → A → Type 0
In [] x = ⊥
In (y ∷ ys) x = (y ≡ x) ⊎ In ys x

abbrev pub Rising : {A : Type 0} → (A → A → Type 0) → List A → Type 0
Rising R [] = Unit {0}
Rising {A} R (x ∷ xs) = ((y : A) → In xs y → R x y) × Rising R xs

pub in_append : {A : Type 0} (xs ys : List A) (x : A) → In (xs ++ ys) x → In xs x ⊎ In ys x
in_append [] ys x h = inr h
in_append (z ∷ zs) ys x (inl e) = inl (inl e)
in_append (z ∷ zs) ys x (inr h) = elim (in_append zs ys x h) [ inl a ↦ inl (inr a) | inr b ↦ inr b ]

pub in_left : {A : Type 0} (xs ys : List A) (x : A) → In xs x → In (xs ++ ys) x
in_left [] ys x h = absurd h
in_left (z ∷ zs) ys x (inl e) = inl e
in_left (z ∷ zs) ys x (inr h) = inr (in_left zs ys x h)

pub in_right : {A : Type 0} (xs ys : List A) (x : A) → In ys x → In (xs ++ ys) x
in_right [] ys x h = h
in_right (z ∷ zs) ys x h = inr (in_right zs ys x h)

in_cond : {A : Type 0} (b : Bool) (y : A) (zs : List A) (x : A) → In (cond b (y ∷ zs) zs) x → ((b ≡ true) × (y ≡ x)) ⊎ In zs x
in_cond true y zs x (inl e) = inl (refl, e)
in_cond true y zs x (inr h) = inr h
in_cond false y zs x h = inr h

cond_here : {A : Type 0} (b : Bool) (y : A) (zs : List A) (x : A) → y ≡ x → b ≡ true → In (cond b (y ∷ zs) zs) x
cond_here true y zs x e t = inl e
cond_here false y zs x e t = cc

cond_there : {A : Type 0} (b : Bool) (y : A) (zs : List A) (x : A) → In zs x → In (cond b (y ∷ zs) zs) x
cond_there true y zs x h = inr h
cond_there false y zs x h = h

pub in_filter : {A : Type 0} (p : A → Bool) (xs : List A) (x : A) → In (filter p xs) x → In xs x × (p x ≡ true)
in_filter p [] x h = absurd h
in_filter p (y ∷ ys) x h =
    elim (in_cond (p y) y (filter p ys) x h) [
      | inl e ↦ (inl e.1, ap p (sym e.1) ∙ e.0)
      | inr rest ↦ let r = in_filter p ys x rest in (inr r.0, r.1)
    ]

pub filter_in : {A : Type 0} (p : A → Bool) (xs : List A) (x : A) → In xs x → p x ≡ true → In (filter p xs) x
filter_in p [] x h t = h
filter_in p (y ∷ ys) x (inl e) t = cond_here (p y) y (filter p ys) x e (ap p e ∙ t)
filter_in p (y ∷ ys) x (inr h) t = cond_there (p y) y (filter p ys) x (filter_in p ys x h t)

pub in_map : {A B : Type 0} (f : A → B) (xs : List A) (y : B) → In (map f xs) y → (x : A) × In xs x × (f x ≡ y)
in_map f [] y h = absurd h
in_map f (x ∷ xs) y (inl e) = (x, inl refl, e)
in_map f (x ∷ xs) y (inr h) = let r = in_map f xs y h in (r.0, inr r.1, r.2)

pub map_in : {A B : Type 0} (f : A → B) (xs : List A) (x : A) → In xs x → In (map f xs) (f x)
map_in f [] x h = h
map_in f (z ∷ zs) x (inl e) = inl (ap f e)
map_in f (z ∷ zs) x (inr h) = inr (map_in f zs x h)

pub in_flat_map : {A B : Type 0} (f : A → List B) (xs : List A) (y : B) → In (flat_map f xs) y → (x : A) × In xs x × In (f x) y
in_flat_map f [] y h = absurd h
in_flat_map f (x ∷ xs) y h =
    elim (in_append (f x) (flat_map f xs) y h) [
      | inl here ↦ (x, inl refl, here)
      | inr rest ↦ let r = in_flat_map f xs y rest in (r.0, inr r.1, r.2)
    ]

pub flat_map_in : {A B : Type 0} (f : A → List B) (xs : List A) (x : A) (y : B) → In xs x → In (f x) y → In (flat_map f xs) y
flat_map_in f [] x y h k = absurd h
flat_map_in f (z ∷ zs) x y (inl e) k = in_left (f z) (flat_map f zs) y (subst (λ w. In (f w) y) (sym e) k)
flat_map_in f (z ∷ zs) x y (inr h) k = in_right (f z) (flat_map f zs) y (flat_map_in f zs x y h k)

pub rising_append : {A : Type 0} (R : A → A → Type 0) (xs ys : List A) → Rising R xs → Rising R ys → ((x y : A) → In xs x → In ys y → R x y) → Rising R (xs ++ ys)
rising_append R [] ys a b h = b
rising_append R (x ∷ xs) ys a b h = (
  λ y k. elim (in_append xs ys y k) [ inl l ↦ a.0 y l | inr r ↦ h x y (inl refl) r ],
  rising_append R xs ys a.1 b (λ u v hu hv. h u v (inr hu) hv),
)

rising_cond : {A : Type 0} (R : A → A → Type 0) (b : Bool) (x : A) (xs : List A) → ((y : A) → In xs y → R x y) → Rising R xs → Rising R (cond b (x ∷ xs) xs)
rising_cond R true x xs h r = (h, r)
rising_cond R false x xs h r = r

pub rising_filter : {A : Type 0} (R : A → A → Type 0) (p : A → Bool) (xs : List A) → Rising R xs → Rising R (filter p xs)
rising_filter R p [] r = tt
rising_filter R p (x ∷ xs) r =
    rising_cond R (p x) x (filter p xs) (λ y h. r.0 y (in_filter p xs y h).0) (rising_filter R p xs r.1)

pub rising_map : {A B : Type 0} (R : A → A → Type 0) (S : B → B → Type 0) (f : A → B) (xs : List A) → ((x y : A) → R x y → S (f x) (f y)) → Rising R xs → Rising S (map f xs)
rising_map R S f [] h r = tt
rising_map R S f (x ∷ xs) h r =
    (λ y k. let m = in_map f xs y k in subst (S (f x)) m.2 (h x m.0 (r.0 m.0 m.1)), rising_map R S f xs h r.1)

pub rising_flat_map : {A B : Type 0} (R : A → A → Type 0) (S : B → B → Type 0) (f : A → List B) (xs : List A) →
    ((x : A) → Rising S (f x)) → ((x y : A) (u v : B) → R x y → In (f x) u → In (f y) v → S u v) → Rising R xs → Rising S (flat_map f xs)
rising_flat_map R S f [] each across r = tt
rising_flat_map R S f (x ∷ xs) each across r =
    rising_append S (f x) (flat_map f xs) (each x) (rising_flat_map R S f xs each across r.1)
    (λ u v hu hv. let m = in_flat_map f xs v hv in across x m.0 u v (r.0 m.0 m.1) hu m.2)

-- two lists that rise and have the same members
pub same_members : {A : Type 0} (R : A → A → Type 0) → ((x y : A) → R x y → R y x → ⊥) → (xs ys : List A) → Rising R xs → Rising R ys →
    ((x : A) → In xs x → In ys x) → ((x : A) → In ys x → In xs x) → xs ≡ ys
same_members R asym [] [] a b to from = refl
same_members R asym [] (y ∷ ys) a b to from = absurd (from y (inl refl))
same_members R asym (x ∷ xs) [] a b to from = absurd (to x (inl refl))
same_members {A} R asym (x ∷ xs) (y ∷ ys) a b to from =
    let heads : x ≡ y = elim (to x (inl refl)) [
      | inl e ↦ sym e
      | inr later ↦ elim (from y (inl refl)) [ inl e ↦ e | inr following ↦ absurd (asym x y (a.0 y following) (b.0 x later)) ]
    ] in
    let forth : (z : A) → In xs z → In ys z = λ z h. elim (to z (inr h)) [
      | inl e ↦ let r = a.0 z h in let r' = subst (λ w. R w z) (heads ∙ e) r in absurd (asym z z r' r')
      | inr k ↦ k
    ] in
    let back : (z : A) → In ys z → In xs z = λ z h. elim (from z (inr h)) [
      | inl e ↦ let r = b.0 z h in let r' = subst (λ w. R w z) (sym heads ∙ e) r in absurd (asym z z r' r')
      | inr k ↦ k
    ] in
    let tails = same_members R asym xs ys a.1 b.1 forth back in
    cc

pub any_in : {A : Type 0} (p : A → Bool) (xs : List A) → list_any p xs ≡ true → (x : A) × In xs x × (p x ≡ true)
any_in p [] h = cc
any_in p (x ∷ xs) h =
    elim (or_cases (p x) (list_any p xs) h) [
      | inl here ↦ (x, inl refl, here)
      | inr rest ↦ let r = any_in p xs rest in (r.0, inr r.1, r.2)
    ]

pub in_any : {A : Type 0} (p : A → Bool) (xs : List A) (x : A) → In xs x → p x ≡ true → list_any p xs ≡ true
in_any p [] x h t = absurd h
in_any p (y ∷ ys) x (inl e) t = or_left (p y) (list_any p ys) (ap p e ∙ t)
in_any p (y ∷ ys) x (inr h) t = or_right (p y) (list_any p ys) (in_any p ys x h t)
