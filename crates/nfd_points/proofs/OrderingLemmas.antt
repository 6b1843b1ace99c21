-- Canonical ordering of points: a prefix may be put in order first, nothing sinks past a starter, the result is in order,
-- and points in order are their own result. The steps are those of unicode_normalization's ordering of code points.
use Rattle.std.proofs.Common.{◌≡◌, ◌<◌, ◌≤◌, ◌⊎◌, Bool, true, false, not, nat_lt, List, [], ◌∷◌, ◌++◌, length, suc, All, refl, sym, ap, ◌∙◌, arith, inl, inr, eqb-true, lt-ltb, le-ltb, ltb-true}
use Rattle.std.proofs.lemmas.Bool.{cond-true, cond-false, cases_Bool, and_parts, and_cases, and_from, and_left, and_right, ltb-false, not-true, not_from_false}
use Rattle.std.proofs.lemmas.List.{append-nil}
use Rattle.std.proofs.lemmas.List.Elements.{All-nil, All-cons, All-head, All-tail, All-same}
use Rattle.std.specs.List.{list_all}
use Rattle.nfd_points.specs.declared.points.Point.{Point}
use Rattle.nfd_points.specs.Points.{is_reorderable, is_in_order, sink, ordered, begins_with_starter}

pub is_reorderable-true : (a b : Point) → is_reorderable a b ≡ true → (0 < b.ccc) × (b.ccc < a.ccc)
unfolding is_reorderable
is_reorderable-true a b h =
    let parts = and_parts (nat_lt 0 b.ccc) (nat_lt b.ccc a.ccc) h in (ltb-true 0 b.ccc parts.0, ltb-true b.ccc a.ccc parts.1)

pub is_reorderable-false : (a b : Point) → is_reorderable a b ≡ false → (b.ccc ≤ 0) ⊎ (a.ccc ≤ b.ccc)
unfolding is_reorderable
is_reorderable-false a b h =
    elim (and_cases (nat_lt 0 b.ccc) (nat_lt b.ccc a.ccc) h) [
      | inl first ↦ inl (ltb-false 0 b.ccc first)
      | inr second ↦ inr (ltb-false b.ccc a.ccc second)
    ]

pub is_reorderable_from : (a b : Point) → 0 < b.ccc → b.ccc < a.ccc → is_reorderable a b ≡ true
unfolding is_reorderable
is_reorderable_from a b low high = and_from _ _ (lt-ltb 0 b.ccc low) (lt-ltb b.ccc a.ccc high)

pub not_reorderable_starter : (a b : Point) → b.ccc ≤ 0 → is_reorderable a b ≡ false
unfolding is_reorderable
not_reorderable_starter a b h = and_left _ _ (le-ltb 0 b.ccc h)

pub not_reorderable_rising : (a b : Point) → a.ccc ≤ b.ccc → is_reorderable a b ≡ false
unfolding is_reorderable
not_reorderable_rising a b h = and_right _ _ (le-ltb b.ccc a.ccc h)

pub sink-past : (c d : Point) (ds : List Point) → is_reorderable c d ≡ true → sink c (d ∷ ds) ≡ d ∷ sink c ds
unfolding sink
sink-past c d ds h = cond-true _ _ _ h

pub sink-stays : (c d : Point) (ds : List Point) → is_reorderable c d ≡ false → sink c (d ∷ ds) ≡ c ∷ d ∷ ds
unfolding sink
sink-stays c d ds h = cond-false _ _ _ h

pub sink-nil : (c : Point) → sink c [] ≡ c ∷ []
unfolding sink
sink-nil c = refl

pub sink-starter : (c : Point) (ds : List Point) → c.ccc ≤ 0 → sink c ds ≡ c ∷ ds
sink-starter c [] h = sink-nil c
sink-starter c (d ∷ ds) h = sink-stays c d ds (not_reorderable_rising c d (omega arith))

-- two characters that are out of order may sink in either order
pub sink_comm : (a b : Point) (zs : List Point) → is_reorderable a b ≡ true → sink a (sink b zs) ≡ sink b (sink a zs)
sink_comm a b [] h =
    let parts = is_reorderable-true a b h in
    ap (sink a) (sink-nil b) ∙ sink-past a b [] h ∙ ap (λ l. b ∷ l) (sink-nil a)
    ∙ sym (ap (sink b) (sink-nil a) ∙ sink-stays b a [] (not_reorderable_rising b a (omega arith)))
sink_comm a b (z ∷ zs) h =
    let parts = is_reorderable-true a b h in
    let b_a = not_reorderable_rising b a (omega arith) in
    elim (cases_Bool (is_reorderable b z)) [
      | inl b_past ↦
          let of_z = is_reorderable-true b z b_past in
          let a_past = is_reorderable_from a z of_z.0 (omega arith) in
          ap (sink a) (sink-past b z zs b_past) ∙ sink-past a z (sink b zs) a_past ∙ ap (λ l. z ∷ l) (sink_comm a b zs h)
          ∙ sym (ap (sink b) (sink-past a z zs a_past) ∙ sink-past b z (sink a zs) b_past)
      | inr b_stays ↦
          ap (sink a) (sink-stays b z zs b_stays) ∙ sink-past a b (z ∷ zs) h
          ∙ elim (cases_Bool (is_reorderable a z)) [
            | inl a_past ↦
                ap (λ l. b ∷ l) (sink-past a z zs a_past) ∙ sym (ap (sink b) (sink-past a z zs a_past) ∙ sink-stays b z (sink a zs) b_stays)
            | inr a_stays ↦
                ap (λ l. b ∷ l) (sink-stays a z zs a_stays) ∙ sym (ap (sink b) (sink-stays a z zs a_stays) ∙ sink-stays b a (z ∷ zs) b_a)
          ]
    ]

-- each character sinks into the list, the last first
unfoldable pub sink_all : List Point → List Point → List Point
sink_all [] zs = zs
sink_all (x ∷ xs) zs = sink x (sink_all xs zs)

pub ordered-cons : (c : Point) (cs : List Point) → ordered (c ∷ cs) ≡ sink c (ordered cs)
unfolding ordered
ordered-cons c cs = refl

pub ordered-nil : ordered [] ≡ []
unfolding ordered
ordered-nil = refl

pub ordered-append : (xs ys : List Point) → ordered (xs ++ ys) ≡ sink_all xs (ordered ys)
unfolding ordered sink_all
ordered-append [] ys = refl
ordered-append (x ∷ xs) ys = ap (sink x) (ordered-append xs ys)

-- D109: an exchange of two neighbors that are out of order keeps the result
pub ordered-exchange : (xs : List Point) (a b : Point) (ys : List Point) → is_reorderable a b ≡ true → ordered (xs ++ a ∷ b ∷ ys) ≡ ordered (xs ++ b ∷ a ∷ ys)
unfolding ordered
ordered-exchange [] a b ys h = sink_comm a b (ordered ys) h
ordered-exchange (x ∷ xs) a b ys h = ap (sink x) (ordered-exchange xs a b ys h)

sink_all-sink : (c : Point) (ys zs : List Point) → sink_all (sink c ys) zs ≡ sink c (sink_all ys zs)
unfolding sink_all
sink_all-sink c [] zs = ap (λ l. sink_all l zs) (sink-nil c)
sink_all-sink c (d ∷ ds) zs =
    elim (cases_Bool (is_reorderable c d)) [
      | inl past ↦ ap (λ l. sink_all l zs) (sink-past c d ds past) ∙ ap (sink d) (sink_all-sink c ds zs) ∙ sym (sink_comm c d (sink_all ds zs) past)
      | inr stays ↦ ap (λ l. sink_all l zs) (sink-stays c d ds stays)
    ]

pub sink_all-ordered : (xs zs : List Point) → sink_all (ordered xs) zs ≡ sink_all xs zs
unfolding sink_all ordered
sink_all-ordered [] zs = refl
sink_all-ordered (x ∷ xs) zs = sink_all-sink x (ordered xs) zs ∙ ap (sink x) (sink_all-ordered xs zs)

-- a first part may be put in order first
pub ordered-prefix : (xs ys : List Point) → ordered (ordered xs ++ ys) ≡ ordered (xs ++ ys)
ordered-prefix xs ys =
    ordered-append (ordered xs) ys ∙ sink_all-ordered xs (ordered ys) ∙ sym (ordered-append xs ys)

-- ---- nothing sinks past a starter

sink-before_starter : (c : Point) (ys : List Point) (s : Point) (zs : List Point) → s.ccc ≤ 0 → sink c (ys ++ s ∷ zs) ≡ sink c ys ++ s ∷ zs
sink-before_starter c [] s zs h = sink-stays c s zs (not_reorderable_starter c s h) ∙ ap (λ l. l ++ s ∷ zs) (sym (sink-nil c))
sink-before_starter c (y ∷ ys) s zs h =
    elim (cases_Bool (is_reorderable c y)) [
      | inl past ↦ sink-past c y (ys ++ s ∷ zs) past ∙ ap (λ l. y ∷ l) (sink-before_starter c ys s zs h) ∙ ap (λ l. l ++ s ∷ zs) (sym (sink-past c y ys past))
      | inr stays ↦ sink-stays c y (ys ++ s ∷ zs) stays ∙ ap (λ l. l ++ s ∷ zs) (sym (sink-stays c y ys stays))
    ]

pub ordered-at_starter : (xs : List Point) (s : Point) (ys : List Point) → s.ccc ≤ 0 → ordered (xs ++ s ∷ ys) ≡ ordered xs ++ s ∷ ordered ys
unfolding ordered
ordered-at_starter [] s ys h = sink-starter s (ordered ys) h
ordered-at_starter (x ∷ xs) s ys h =
    ap (sink x) (ordered-at_starter xs s ys h) ∙ sink-before_starter x (ordered xs) s (ordered ys) h

-- ---- ordered text

pub is_in_order-parts : (a b : Point) (cs : List Point) → is_in_order (a ∷ b ∷ cs) ≡ true → (is_reorderable a b ≡ false) × (is_in_order (b ∷ cs) ≡ true)
unfolding is_in_order
is_in_order-parts a b cs h =
    let parts = and_parts (not (is_reorderable a b)) (is_in_order (b ∷ cs)) h in (not-true _ parts.0, parts.1)

pub is_in_order-cons : (a b : Point) (cs : List Point) → is_reorderable a b ≡ false → is_in_order (b ∷ cs) ≡ true → is_in_order (a ∷ b ∷ cs) ≡ true
unfolding is_in_order
is_in_order-cons a b cs first rest = and_from _ _ (not_from_false _ first) rest

pub is_in_order-nil : is_in_order [] ≡ true
unfolding is_in_order
is_in_order-nil = refl

pub is_in_order-one : (a : Point) → is_in_order (a ∷ []) ≡ true
unfolding is_in_order
is_in_order-one a = refl

pub is_in_order-tail : (a : Point) (cs : List Point) → is_in_order (a ∷ cs) ≡ true → is_in_order cs ≡ true
is_in_order-tail a [] h = is_in_order-nil
is_in_order-tail a (b ∷ cs) h = (is_in_order-parts a b cs h).1

pub sink-ordered : (c : Point) (cs : List Point) → is_in_order (c ∷ cs) ≡ true → sink c cs ≡ c ∷ cs
sink-ordered c [] h = sink-nil c
sink-ordered c (d ∷ ds) h = sink-stays c d ds (is_in_order-parts c d ds h).0

pub ordered-ordered : (cs : List Point) → is_in_order cs ≡ true → ordered cs ≡ cs
ordered-ordered [] h = ordered-nil
ordered-ordered (c ∷ cs) h =
    ordered-cons c cs ∙ ap (sink c) (ordered-ordered cs (is_in_order-tail c cs h)) ∙ sink-ordered c cs h

-- c sinks after d, which it has passed
is_in_order-following : (d c : Point) (ds : List Point) → is_reorderable d c ≡ false → is_in_order (d ∷ ds) ≡ true → is_in_order (d ∷ sink c ds) ≡ true
is_in_order-following d c [] first h = ap (λ l. is_in_order (d ∷ l)) (sink-nil c) ∙ is_in_order-cons d c [] first (is_in_order-one c)
is_in_order-following d c (e ∷ es) first h =
    let parts = is_in_order-parts d e es h in
    elim (cases_Bool (is_reorderable c e)) [
      | inl past ↦
          let of_e = is_reorderable-true c e past in
          ap (λ l. is_in_order (d ∷ l)) (sink-past c e es past)
          ∙ is_in_order-cons d e (sink c es) parts.0 (is_in_order-following e c es (not_reorderable_rising e c (omega arith)) parts.1)
      | inr stays ↦ ap (λ l. is_in_order (d ∷ l)) (sink-stays c e es stays) ∙ is_in_order-cons d c (e ∷ es) first (is_in_order-cons c e es stays parts.1)
    ]

is_in_order-sink : (c : Point) (ds : List Point) → is_in_order ds ≡ true → is_in_order (sink c ds) ≡ true
is_in_order-sink c [] h = ap is_in_order (sink-nil c) ∙ is_in_order-one c
is_in_order-sink c (d ∷ ds) h =
    elim (cases_Bool (is_reorderable c d)) [
      | inl past ↦
          let of_d = is_reorderable-true c d past in
          ap is_in_order (sink-past c d ds past) ∙ is_in_order-following d c ds (not_reorderable_rising d c (omega arith)) h
      | inr stays ↦ ap is_in_order (sink-stays c d ds stays) ∙ is_in_order-cons c d ds stays h
    ]

pub is_in_order-ordered : (cs : List Point) → is_in_order (ordered cs) ≡ true
is_in_order-ordered [] = ap is_in_order ordered-nil ∙ is_in_order-nil
is_in_order-ordered (c ∷ cs) =
    ap is_in_order (ordered-cons c cs) ∙ is_in_order-sink c (ordered cs) (is_in_order-ordered cs)

-- ---- ordering keeps what holds of each point, and the number of points

All-sink : (P : Point → Type 0) (c : Point) (ds : List Point) → P c → All P ds → All P (sink c ds)
All-sink P c [] first rest = All-same P _ _ (sink-nil c) (All-cons P c [] first (All-nil P))
All-sink P c (d ∷ ds) first rest =
    elim (cases_Bool (is_reorderable c d)) [
      | inl past ↦ All-same P _ _ (sink-past c d ds past) (All-cons P d (sink c ds) (All-head P d ds rest) (All-sink P c ds first (All-tail P d ds rest)))
      | inr stays ↦ All-same P _ _ (sink-stays c d ds stays) (All-cons P c (d ∷ ds) first rest)
    ]

pub All-ordered : (P : Point → Type 0) (ps : List Point) → All P ps → All P (ordered ps)
All-ordered P [] h = All-same P _ _ ordered-nil (All-nil P)
All-ordered P (p ∷ ps) h =
    All-same P _ _ (ordered-cons p ps) (All-sink P p (ordered ps) (All-head P p ps h) (All-ordered P ps (All-tail P p ps h)))

list_all-sink : (p : Point → Bool) (c : Point) (ds : List Point) → p c ≡ true → list_all p ds ≡ true → list_all p (sink c ds) ≡ true
list_all-sink p c [] first rest = ap (list_all p) (sink-nil c) ∙ and_from _ _ first refl
list_all-sink p c (d ∷ ds) first rest =
    let parts = and_parts (p d) (list_all p ds) rest in
    elim (cases_Bool (is_reorderable c d)) [
      | inl past ↦ ap (list_all p) (sink-past c d ds past) ∙ and_from _ _ parts.0 (list_all-sink p c ds first parts.1)
      | inr stays ↦ ap (list_all p) (sink-stays c d ds stays) ∙ and_from _ _ first rest
    ]

pub list_all-ordered : (p : Point → Bool) (cs : List Point) → list_all p cs ≡ true → list_all p (ordered cs) ≡ true
list_all-ordered p [] h = ap (list_all p) ordered-nil
list_all-ordered p (c ∷ cs) h =
    let parts = and_parts (p c) (list_all p cs) h in
    ap (list_all p) (ordered-cons c cs) ∙ list_all-sink p c (ordered cs) parts.0 (list_all-ordered p cs parts.1)

length-sink : (c : Point) (ds : List Point) → length (sink c ds) ≡ suc (length ds)
length-sink c [] = ap length (sink-nil c)
length-sink c (d ∷ ds) =
    elim (cases_Bool (is_reorderable c d)) [
      | inl past ↦ ap length (sink-past c d ds past) ∙ ap suc (length-sink c ds)
      | inr stays ↦ ap length (sink-stays c d ds stays)
    ]

pub length-ordered : (cs : List Point) → length (ordered cs) ≡ length cs
length-ordered [] = ap length ordered-nil
length-ordered (c ∷ cs) = ap length (ordered-cons c cs) ∙ length-sink c (ordered cs) ∙ ap suc (length-ordered cs)

-- ---- ordering does not cross a starter

pub ordered-parts : (xs ys : List Point) → begins_with_starter ys ≡ true → ordered (xs ++ ys) ≡ ordered xs ++ ordered ys
ordered-parts xs [] h = ap ordered (append-nil xs) ∙ sym (append-nil (ordered xs)) ∙ ap (λ l. ordered xs ++ l) (sym ordered-nil)
ordered-parts xs (s ∷ ys) h =
    let zero : s.ccc ≤ 0 = omega (arith, eqb-true s.ccc 0 h) in
    ordered-at_starter xs s ys zero ∙ ap (λ l. ordered xs ++ l) (sym (ordered-at_starter [] s ys zero ∙ ap (λ l. l ++ s ∷ ordered ys) ordered-nil))
