-- Points whose classes rise from 1 on are the non-starters in canonical order.
use Rattle.std.proofs.Common.{◌≡◌, ℕ, ◌+◌, ◌<◌, ◌≤◌, true, false, ◌&&◌, nat_le, List, [], ◌∷◌, get_or, drop, length, refl, sym, ap, ◌∙◌, arith, inl, inr, leb-true, le-leb, ne_eqb}
use Rattle.std.proofs.lemmas.Bool.{and_parts, and_from, and_left, not_from_false, lt-leb}
use Rattle.std.proofs.lemmas.List.{drop_more}
use Rattle.std.specs.List.{list_all}
use Rattle.nfd_points.specs.declared.points.Point.{Point}
use Rattle.nfd_points.specs.Points.{is_in_order}
use Rattle.nfd_points.specs.Reordering.{is_non_starter, rises_from}
use Rattle.nfd_points.proofs.InsertLemmas.{is_non_starter-above}
use Rattle.nfd_points.proofs.OrderingLemmas.{is_in_order-nil, is_in_order-one, is_in_order-cons, is_in_order-parts, is_reorderable-false, not_reorderable_rising}

pub rises_from-nil : (class : ℕ) → rises_from class [] ≡ true
unfolding rises_from
rises_from-nil class = refl

rises_from-cons : (class : ℕ) (p : Point) (ps : List Point) → rises_from class (p ∷ ps) ≡ (nat_le class p.ccc && rises_from p.ccc ps)
unfolding rises_from
rises_from-cons class p ps = refl

-- the steps of the loop
pub rises-on : (class : ℕ) (points : List Point) (i : ℕ) (d : Point) → i < length points → class ≤ (get_or points i d).ccc → rises_from class (drop i points) ≡ rises_from (get_or points i d).ccc (drop (i + 1) points)
rises-on class points i d lt le =
    ap (rises_from class) (drop_more points i d lt) ∙ rises_from-cons class (get_or points i d) (drop (i + 1) points)
    ∙ ap (λ b. b && rises_from (get_or points i d).ccc (drop (i + 1) points)) (le-leb class (get_or points i d).ccc le)

pub falls-here : (class : ℕ) (points : List Point) (i : ℕ) (d : Point) → i < length points → (get_or points i d).ccc < class → rises_from class (drop i points) ≡ false
falls-here class points i d lt below =
    ap (rises_from class) (drop_more points i d lt) ∙ rises_from-cons class (get_or points i d) (drop (i + 1) points)
    ∙ and_left _ _ (lt-leb class (get_or points i d).ccc below)

-- what it says
pub rises-marks : (class : ℕ) (ps : List Point) → 1 ≤ class → rises_from class ps ≡ true → list_all is_non_starter ps ≡ true
rises-marks class [] some h = refl
rises-marks class (p ∷ ps) some h =
    let parts = and_parts (nat_le class p.ccc) (rises_from p.ccc ps) (sym (rises_from-cons class p ps) ∙ h) in
    let le = leb-true class p.ccc parts.0 in
    let above : 1 ≤ p.ccc = omega arith in
    and_from _ _ (not_from_false _ (ne_eqb p.ccc 0 (λ e. omega arith))) (rises-marks p.ccc ps above parts.1)

pub rises-order : (class : ℕ) (ps : List Point) → rises_from class ps ≡ true → is_in_order ps ≡ true
rises-order class [] h = is_in_order-nil
rises-order class (p ∷ []) h = is_in_order-one p
rises-order class (p ∷ q ∷ qs) h =
    let parts = and_parts (nat_le class p.ccc) (rises_from p.ccc (q ∷ qs)) (sym (rises_from-cons class p (q ∷ qs)) ∙ h) in
    let next = and_parts (nat_le p.ccc q.ccc) (rises_from q.ccc qs) (sym (rises_from-cons p.ccc q qs) ∙ parts.1) in
    is_in_order-cons p q qs (not_reorderable_rising p q (leb-true p.ccc q.ccc next.0)) (rises-order p.ccc (q ∷ qs) parts.1)

rises-following : (p : Point) (ps : List Point) → list_all is_non_starter ps ≡ true → is_in_order (p ∷ ps) ≡ true → rises_from p.ccc ps ≡ true
rises-following p [] marks sorted = rises_from-nil p.ccc
rises-following p (q ∷ qs) marks sorted =
    let of_q = and_parts (is_non_starter q) (list_all is_non_starter qs) marks in
    let above = is_non_starter-above q of_q.0 in
    let order = is_in_order-parts p q qs sorted in
    let le : p.ccc ≤ q.ccc = elim (is_reorderable-false p q order.0) [ inl starter ↦ absurd (omega arith) | inr rising ↦ rising ] in
    rises_from-cons p.ccc q qs ∙ and_from _ _ (le-leb p.ccc q.ccc le) (rises-following q qs of_q.1 order.1)

pub rises-held : (ps : List Point) → list_all is_non_starter ps ≡ true → is_in_order ps ≡ true → rises_from 1 ps ≡ true
rises-held [] marks sorted = rises_from-nil 1
rises-held (p ∷ ps) marks sorted =
    let of_p = and_parts (is_non_starter p) (list_all is_non_starter ps) marks in
    rises_from-cons 1 p ps ∙ and_from _ _ (le-leb 1 p.ccc (is_non_starter-above p of_p.0)) (rises-following p ps of_p.1 sorted)
