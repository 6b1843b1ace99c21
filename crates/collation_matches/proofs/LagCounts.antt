-- How many points of a list pass a test. Units and canonical ordering only regroup points, and each code point has one point
-- at least, at its own offset.
use Rattle.std.proofs.Common.{◌≡◌, ℕ, ◌+◌, ◌<◌, ◌≤◌, max, nat_le, Bool, true, false, cond, List, [], ◌∷◌, ◌++◌, length, take, drop, filter, refl, ap, ◌∙◌, arith, inl, inr, length-append, length-take}
use Rattle.std.specs.Char.{len_utf8}
use Rattle.std.proofs.lemmas.Bool.{cases_lt, le-leb, lt-leb}
use Rattle.std.proofs.lemmas.List.{take-append-drop}
use Rattle.std.proofs.lemmas.Str.{len_utf8_bounds}
use Rattle.utf8_cut.specs.Characters.{with_offsets}
use Rattle.nfd_points.specs.declared.points.Point.{Point}
use Rattle.nfd_points.specs.Points.{decomposition, byte_len, points_at, points_of, points_from, is_starter, is_reorderable, sink, ordered}
use Rattle.nfd_points.specs.Laws.{DecompositionsAreShort}
use Rattle.collation_table.specs.Table.{TableMap, longest_prefix}
use Rattle.collation_elements.specs.Units.{code_points, Cut, joins, extended, first_unit, units_within, units}
use Rattle.collation_matches.specs.Lag.{code_points_from}

abbrev pub one_if : Bool → ℕ
one_if true = 1
one_if false = 0

abbrev pub count : (Point → Bool) → List Point → ℕ
count test [] = 0
count test (p ∷ ps) = one_if (test p) + count test ps

pub count-append : (test : Point → Bool) (xs ys : List Point) → count test (xs ++ ys) ≡ count test xs + count test ys
count-append test [] ys = omega arith
count-append test (x ∷ xs) ys = let rest = count-append test xs ys in omega arith

one_at_most : (b : Bool) → one_if b ≤ 1
one_at_most true = omega arith
one_at_most false = omega arith

pub count-le : (test : Point → Bool) (ps : List Point) → count test ps ≤ length ps
count-le test [] = omega arith
count-le test (p ∷ ps) = let rest = count-le test ps in let one = one_at_most (test p) in omega arith

count-all : (ps : List Point) → count (λ p. true) ps ≡ length ps
count-all [] = refl
count-all (p ∷ ps) = let rest = count-all ps in omega arith

-- ---- units

abbrev total : (Point → Bool) → Cut → ℕ
total test cut = count test cut.unit + count test cut.rest

total-cond : (test : Point → Bool) (n : ℕ) (s j : Bool) (stop taken left : Cut) →
    total test stop ≡ n → total test taken ≡ n → total test left ≡ n → total test (cond s stop (cond j taken left)) ≡ n
total-cond test n true j stop taken left a b c = a
total-cond test n false true stop taken left a b c = b
total-cond test n false false stop taken left a b c = c

-- what joins a unit is taken out of the rest
total-extended : (T : TableMap) (test : Point → Bool) (unit between following : List Point) →
    total test (extended T unit between following) ≡ count test unit + count test between + count test following
total-extended T test unit between [] = omega arith
total-extended T test unit between (c ∷ following) =
    let taken = total-extended T test (unit ++ c ∷ []) between following in
    let left = total-extended T test unit (between ++ c ∷ []) following in
    total-cond test (count test unit + count test between + (one_if (test c) + count test following)) (is_starter c) (joins T unit between c)
    (record { unit = unit; rest = between ++ c ∷ following }) (extended T (unit ++ c ∷ []) between following) (extended T unit (between ++ c ∷ []) following)
    (omega (arith, count-append test between (c ∷ following)))
    (omega (arith, taken, count-append test unit (c ∷ [])))
    (omega (arith, left, count-append test between (c ∷ [])))

longer-cond : (n : ℕ) (s j : Bool) (stop taken left : Cut) →
    n ≤ length stop.unit → n ≤ length taken.unit → n ≤ length left.unit → n ≤ length (cond s stop (cond j taken left)).unit
longer-cond n true j stop taken left a b c = a
longer-cond n false true stop taken left a b c = b
longer-cond n false false stop taken left a b c = c

longer-extended : (T : TableMap) (unit between following : List Point) → length unit ≤ length (extended T unit between following).unit
longer-extended T unit between [] = omega arith
longer-extended T unit between (c ∷ following) =
    let taken = longer-extended T (unit ++ c ∷ []) between following in
    longer-cond (length unit) (is_starter c) (joins T unit between c)
    (record { unit = unit; rest = between ++ c ∷ following }) (extended T (unit ++ c ∷ []) between following) (extended T unit (between ++ c ∷ []) following)
    (omega arith) (omega (arith, taken, length-append unit (c ∷ []))) (longer-extended T unit (between ++ c ∷ []) following)

total-first_unit : (T : TableMap) (test : Point → Bool) (p : Point) (ps : List Point) → total test (first_unit T p ps) ≡ count test (p ∷ ps)
total-first_unit T test p ps =
    let n = max 1 (longest_prefix T (code_points (p ∷ ps))) in
    let parts = count-append test (take n (p ∷ ps)) (drop n (p ∷ ps)) in
    let whole = ap (count test) (take-append-drop n (p ∷ ps)) in
    let all = total-extended T test (take n (p ∷ ps)) [] (drop n (p ∷ ps)) in
    omega (arith, parts, whole, all)

some-first_unit : (T : TableMap) (p : Point) (ps : List Point) → 1 ≤ length (first_unit T p ps).unit
some-first_unit T p ps =
    let n = max 1 (longest_prefix T (code_points (p ∷ ps))) in
    let longer = longer-extended T (take n (p ∷ ps)) [] (drop n (p ∷ ps)) in
    let taken = length-take n (p ∷ ps) in
    omega (arith, longer, taken)

shorter-first_unit : (T : TableMap) (p : Point) (ps : List Point) → length (first_unit T p ps).rest ≤ length ps
shorter-first_unit T p ps =
    let all = total-first_unit T (λ q. true) p ps in
    let unit = count-all (first_unit T p ps).unit in
    let rest = count-all (first_unit T p ps).rest in
    let points = count-all ps in
    let some = some-first_unit T p ps in
    omega (arith, all, unit, rest, points, some)

abbrev pub count_in : (Point → Bool) → List (List Point) → ℕ
count_in test [] = 0
count_in test (u ∷ us) = count test u + count_in test us

pub count_in-append : (test : Point → Bool) (us vs : List (List Point)) → count_in test (us ++ vs) ≡ count_in test us + count_in test vs
count_in-append test [] vs = omega arith
count_in-append test (u ∷ us) vs = let rest = count_in-append test us vs in omega arith

count_in-within : (T : TableMap) (test : Point → Bool) (fuel ps : List Point) → length ps ≤ length fuel → count_in test (units_within fuel T ps) ≡ count test ps
count_in-within T test [] [] h = refl
count_in-within T test [] (p ∷ ps) h = absurd (omega arith)
count_in-within T test (f ∷ fuel) [] h = refl
count_in-within T test (f ∷ fuel) (p ∷ ps) h =
    let cut : Cut = first_unit T p ps in
    let shorter = shorter-first_unit T p ps in
    let rest = count_in-within T test fuel cut.rest (omega (arith, shorter, h)) in
    let all = total-first_unit T test p ps in
    ap (λ n. count test cut.unit + n) rest ∙ all

-- the units of some points have these points and no others
pub count_in-units : (T : TableMap) (test : Point → Bool) (ps : List Point) → count_in test (units T ps) ≡ count test ps
count_in-units T test ps = count_in-within T test ps ps (omega arith)

-- ---- canonical ordering

count-cond : (test : Point → Bool) (n : ℕ) (b : Bool) (xs ys : List Point) → count test xs ≡ n → count test ys ≡ n → count test (cond b xs ys) ≡ n
count-cond test n true xs ys a b = a
count-cond test n false xs ys a b = b

count-sink : (test : Point → Bool) (p : Point) (qs : List Point) → count test (sink p qs) ≡ one_if (test p) + count test qs
unfolding sink
count-sink test p [] = refl
count-sink test p (q ∷ qs) =
    let past = count-sink test p qs in
    count-cond test (one_if (test p) + (one_if (test q) + count test qs)) (is_reorderable p q) (q ∷ sink p qs) (p ∷ q ∷ qs) (omega (arith, past)) refl

pub count-ordered : (test : Point → Bool) (ps : List Point) → count test (ordered ps) ≡ count test ps
unfolding ordered
count-ordered test [] = refl
count-ordered test (p ∷ ps) = let rest = count-ordered test ps in let first = count-sink test p (ordered ps) in omega (arith, first, rest)

-- ---- code points

-- the point's code point begins at this offset or after it
abbrev pub stands_from : ℕ → Point → Bool
stands_from offset p = nat_le offset p.offset

one_if-after : (offset start : ℕ) → offset ≤ start → one_if (nat_le offset start) ≡ 1
one_if-after offset start h = ap one_if (le-leb offset start h)

one_if-before : (offset start : ℕ) → start < offset → one_if (nat_le offset start) ≡ 0
one_if-before offset start h = ap one_if (lt-leb offset start h)

count-at_after : (offset start : ℕ) (is_first : Bool) (ds : List ℕ) → offset ≤ start → count (stands_from offset) (points_at start is_first ds) ≡ length ds
unfolding points_at
count-at_after offset start is_first [] h = refl
count-at_after offset start is_first (d ∷ ds) h =
    let rest = count-at_after offset start false ds h in let here = one_if-after offset start h in omega (arith, rest, here)

count-at_before : (offset start : ℕ) (is_first : Bool) (ds : List ℕ) → start < offset → count (stands_from offset) (points_at start is_first ds) ≡ 0
unfolding points_at
count-at_before offset start is_first [] h = refl
count-at_before offset start is_first (d ∷ ds) h =
    let rest = count-at_before offset start false ds h in let here = one_if-before offset start h in omega (arith, rest, here)

count-cons : (test : Point → Bool) (start c : ℕ) (cs : List ℕ) →
    count test (points_from start (c ∷ cs)) ≡ count test (points_of start c) + count test (points_from (start + len_utf8 c) cs)
unfolding points_from
count-cons test start c cs = count-append test (points_of start c) (points_from (start + len_utf8 c) cs)

-- no point of a text stands after its end
pub count-past : (offset start : ℕ) (cs : List ℕ) → start + byte_len cs ≤ offset → count (stands_from offset) (points_from start cs) ≡ 0
unfolding points_from byte_len
count-past offset start [] h = refl
count-past offset start (c ∷ cs) h =
    let one = (len_utf8_bounds c).0 in
    let rest = count-past offset (start + len_utf8 c) cs (omega (arith, h)) in
    let here = count-at_before offset start true (decomposition c) (omega (arith, h, one)) in
    let parts = count-cons (stands_from offset) start c cs in
    omega (arith, parts, here, rest)

abbrev code_points_within : ℕ → ℕ → List ℕ → ℕ
code_points_within offset start cs = length (filter (λ c. nat_le offset c.1) (with_offsets start cs))

code_points-cond : (b : Bool) (c : ℕ × ℕ) (cs : List (ℕ × ℕ)) → length (cond b (c ∷ cs) cs) ≡ one_if b + length cs
code_points-cond true c cs = omega arith
code_points-cond false c cs = omega arith

points-within : DecompositionsAreShort → (offset start : ℕ) (cs : List ℕ) → code_points_within offset start cs ≤ count (stands_from offset) (points_from start cs)
unfolding points_from
points-within short offset start [] = omega arith
points-within short offset start (c ∷ cs) =
    let rest = points-within short offset (start + len_utf8 c) cs in
    let parts = count-cons (stands_from offset) start c cs in
    let first = code_points-cond (nat_le offset start) (c, start) (filter (λ d. nat_le offset d.1) (with_offsets (start + len_utf8 c) cs)) in
    elim (cases_lt start offset) [
      | inl before ↦ let none = one_if-before offset start before in omega (arith, rest, parts, first, none)
      | inr after ↦
          let one = one_if-after offset start after in
          let some = (short c).0 in
          let here = count-at_after offset start true (decomposition c) after in
          omega (arith, rest, parts, first, one, some, here)
    ]

-- each code point has a point
pub code_points-have_points : DecompositionsAreShort → (offset : ℕ) (cs : List ℕ) → code_points_from offset cs ≤ count (stands_from offset) (points_from 0 cs)
code_points-have_points short offset cs = points-within short offset 0 cs
