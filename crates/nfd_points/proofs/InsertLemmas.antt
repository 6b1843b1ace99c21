-- A non-starter that is put after the waiting points of its class or a lower one stands in canonical order.
use Rattle.std.proofs.Common.{◌≡◌, ℕ, ◌<◌, ◌≤◌, true, nat_le, List, [], ◌∷◌, ◌++◌, length, suc, refl, sym, ap, ◌∙◌, arith, inl, inr, le-leb, subst, if◌then◌else◌}
use Rattle.std.proofs.lemmas.Bool.{cond-true, cond-false, cases_Bool, cases_lt, and_parts, not-true, lt-leb, eqb-false}
use Rattle.std.proofs.lemmas.List.Folds.{length-prefix_len}
use Rattle.std.specs.List.{list_all, prefix_len, take_while, insert}
use Rattle.nfd_points.specs.declared.points.Point.{Point}
use Rattle.nfd_points.specs.Points.{is_in_order, sink, ordered}
use Rattle.nfd_points.specs.Reordering.{is_non_starter}
use Rattle.nfd_points.proofs.OrderingLemmas.{is_reorderable-false, is_reorderable_from, not_reorderable_rising, sink-past, sink-stays, sink-nil, ordered-cons, ordered-nil, is_in_order-parts, is_in_order-tail}

pub is_non_starter-above : (p : Point) → is_non_starter p ≡ true → 0 < p.ccc
is_non_starter-above p h = let ne : p.ccc ≡ 0 → ⊥ = eqb-false p.ccc 0 (not-true _ h) in omega (arith, ne)

abbrev pub place : ℕ → List Point → ℕ
place class ws = prefix_len (λ q. nat_le q.ccc class) ws

-- after each point of at most its class, up to the first of a greater one
placed : Point → List Point → List Point
placed p [] = p ∷ []
placed p (q ∷ qs) = let later = q ∷ placed p qs in if nat_le q.ccc p.ccc then later else p ∷ q ∷ qs

insert-placed : (p : Point) (ws : List Point) → insert ws (place p.ccc ws) p ≡ placed p ws
unfolding placed
insert-placed p [] = refl
insert-placed p (q ∷ qs) =
    elim (cases_Bool (nat_le q.ccc p.ccc)) [
      | inl low ↦
          let at : place p.ccc (q ∷ qs) ≡ suc (place p.ccc qs) = cond-true _ _ _ low ∙ omega arith in
          ap (λ n. insert (q ∷ qs) n p) at ∙ ap (λ l. q ∷ l) (insert-placed p qs) ∙ sym (cond-true _ _ _ low)
      | inr high ↦
          let at : place p.ccc (q ∷ qs) ≡ 0 = cond-false _ _ _ high in
          ap (λ n. insert (q ∷ qs) n p) at ∙ sym (cond-false _ _ _ high)
    ]

-- the first point is of at least this class
BeginsAtClass : ℕ → List Point → Type 0
BeginsAtClass n [] = Unit {0}
BeginsAtClass n (x ∷ xs) = n ≤ x.ccc

sink-first : (q : Point) (xs : List Point) → BeginsAtClass q.ccc xs → sink q xs ≡ q ∷ xs
unfolding BeginsAtClass
sink-first q [] h = sink-nil q
sink-first q (x ∷ xs) h = sink-stays q x xs (not_reorderable_rising q x h)

StartsAt-placed : (n : ℕ) (p : Point) (ws : List Point) → n ≤ p.ccc → BeginsAtClass n ws → BeginsAtClass n (placed p ws)
unfolding BeginsAtClass placed
StartsAt-placed n p [] le h = le
StartsAt-placed n p (q ∷ qs) le h =
    elim (cases_Bool (nat_le q.ccc p.ccc)) [
      | inl low ↦ subst (BeginsAtClass n) (sym (cond-true _ (q ∷ placed p qs) (p ∷ q ∷ qs) low)) h
      | inr high ↦ subst (BeginsAtClass n) (sym (cond-false _ (q ∷ placed p qs) (p ∷ q ∷ qs) high)) le
    ]

StartsAt-rest : (q : Point) (qs : List Point) → list_all is_non_starter qs ≡ true → is_in_order (q ∷ qs) ≡ true → BeginsAtClass q.ccc qs
unfolding BeginsAtClass
StartsAt-rest q [] marks sorted = tt
StartsAt-rest q (r ∷ rs) marks sorted =
    let mark = is_non_starter-above r (and_parts (is_non_starter r) (list_all is_non_starter rs) marks).0 in
    elim (is_reorderable-false q r (is_in_order-parts q r rs sorted).0) [ inl starter ↦ absurd (omega arith) | inr rising ↦ rising ]

placed-first : (p : Point) (n : ℕ) (ws : List Point) → p.ccc < n → BeginsAtClass n ws → placed p ws ≡ p ∷ ws
unfolding BeginsAtClass placed
placed-first p n [] lt h = refl
placed-first p n (q ∷ qs) lt h = cond-false _ _ _ (lt-leb q.ccc p.ccc (omega arith))

ordered-placed : (ws : List Point) (p : Point) → list_all is_non_starter ws ≡ true → is_in_order ws ≡ true → 0 < p.ccc → ordered (ws ++ p ∷ []) ≡ placed p ws
unfolding placed
ordered-placed [] p marks sorted mark = ordered-cons p [] ∙ ap (sink p) ordered-nil ∙ sink-nil p
ordered-placed (q ∷ qs) p marks sorted mark =
    let later = (and_parts (is_non_starter q) (list_all is_non_starter qs) marks).1 in
    let first = StartsAt-rest q qs later sorted in
    ordered-cons q (qs ++ p ∷ []) ∙ ap (sink q) (ordered-placed qs p later (is_in_order-tail q qs sorted) mark)
    ∙ elim (cases_lt p.ccc q.ccc) [
      | inl high ↦
          ap (sink q) (placed-first p q.ccc qs high first)
          ∙ sink-past q p qs (is_reorderable_from q p mark high) ∙ ap (λ l. p ∷ l) (sink-first q qs first)
          ∙ sym (cond-false _ _ _ (lt-leb q.ccc p.ccc high))
      | inr low ↦
          sink-first q (placed p qs) (StartsAt-placed q.ccc p qs low first)
          ∙ sym (cond-true _ _ _ (le-leb q.ccc p.ccc low))
    ]

-- the list after the insertion that the reorderer makes
pub ordered-insert : (ws : List Point) (p : Point) (at : ℕ) → at ≡ length (take_while (λ q. nat_le q.ccc p.ccc) ws) → list_all is_non_starter ws ≡ true → is_in_order ws ≡ true → 0 < p.ccc → insert ws at p ≡ ordered (ws ++ p ∷ [])
ordered-insert ws p at here marks sorted mark =
    ap (λ n. insert ws n p) (here ∙ length-prefix_len (λ q. nat_le q.ccc p.ccc) ws) ∙ insert-placed p ws ∙ sym (ordered-placed ws p marks sorted mark)
