-- Two characters: what is found of their points is their letter.
use Rattle.std.proofs.Common.{◌≡◌, ◌∙◌, ℕ, ◌+◌, true, not, ◌&&◌, nat_lt, [], ◌∷◌, ◌++◌, refl, sym, ap, ap₂, arith}
use Rattle.std.specs.Char.{len_utf8}
use Rattle.std.proofs.lemmas.Bool.{eqb-true}
use Rattle.nfd_points.specs.declared.points.Point.{Point}
use Rattle.nfd_points.specs.Points.{byte_len, is_in_order, is_reorderable, is_starter, points_from, points_of, shifted}
use Rattle.collation_table.specs.Table.{TableMap, GoesOnInNoString, is_mapped}
use Rattle.collation_elements.specs.Units.{units, MappedPairsAreUnits}
use Rattle.collation_letters.specs.Letters.{AreClosed}

-- ---- the bytes before them

pub bytes-none : 0 ≡ byte_len []
unfolding byte_len
bytes-none = refl

pub bytes-one : (c : ℕ) → len_utf8 c ≡ byte_len (c ∷ [])
unfolding byte_len
bytes-one c = omega arith

-- ---- the points of both

pub points-pair : (c d : ℕ) (p q : Point) → points_of 0 c ≡ p ∷ [] → points_of (len_utf8 c) d ≡ q ∷ [] → points_from 0 (c ∷ d ∷ []) ≡ p ∷ q ∷ []
unfolding points_from
points-pair c d p q one other =
    let there : 0 + len_utf8 c ≡ len_utf8 c = omega arith in
    ap₂ (λ xs ys. xs ++ (ys ++ [])) one (ap (λ at. points_of at d) there ∙ other)

pub in_order-pair : (p q : Point) → is_starter q ≡ true → is_in_order (p ∷ q ∷ []) ≡ true
unfolding is_in_order is_reorderable
in_order-pair p q starter =
    let zero_class : q.ccc ≡ 0 = eqb-true q.ccc 0 starter in
    ap (λ (n : ℕ). not (nat_lt 0 n && nat_lt n p.ccc) && true) zero_class

-- ---- what they are to the table

pub closed-pair : MappedPairsAreUnits → (table : TableMap) (p q : Point) → is_mapped table (p.cp ∷ q.cp ∷ []) ≡ true → GoesOnInNoString table (p.cp ∷ q.cp ∷ []) → AreClosed table (p ∷ q ∷ [])
closed-pair law table p q mapped none = λ start more.
    law table (shifted start p) (shifted start q) more mapped none
    ∙ ap (λ us. us ++ units table more) (sym (law table (shifted start p) (shifted start q) [] mapped none))
