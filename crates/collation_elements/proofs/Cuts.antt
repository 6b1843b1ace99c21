-- A unit that is cut: what its code points, its first point and its elements are, and what a window then represents.
use Rattle.std.proofs.Common.{◌≡◌, ℕ, zero, suc, ◌<◌, Bool, true, false, cond, List, [], ◌∷◌, ◌++◌, length, take, drop, Option, Some, None, slice_get, unwrap_or, IfNone, refl, sym, ◌∙◌, ap, arith, append_assoc, length-append, length-take}
use Rattle.std.proofs.lemmas.Option.{none-some, same_Some}
use Rattle.nfd_points.specs.declared.points.Point.{Point}
use Rattle.nfd_points.specs.Points.{is_starter}
use Rattle.collation_table.specs.Table.{TableMap, row_of, implicit_pair}
use Rattle.collation_elements.specs.Units.{code_points, Cut, joins, extended, units, prefix_length}
use Rattle.collation_elements.specs.Elements.{unit_row}
use Rattle.collation_elements.specs.UnitValues.{UnitValue, IsUnitOf}
use Rattle.collation_elements.specs.Windows.{Held, is_decided, next_cut, WindowStandsFor}
use Rattle.collation_elements.proofs.Cutting.{next_cut-of, units-decided}
use Rattle.collation_elements.proofs.Longest.{prefix_length-le}

-- ---- the first point of a unit

first-cond : (p : Option Point) (s j : Bool) (stop taken left : Cut) → slice_get stop.unit 0 ≡ p → slice_get taken.unit 0 ≡ p → slice_get left.unit 0 ≡ p → slice_get (cond s stop (cond j taken left)).unit 0 ≡ p
first-cond p true j stop taken left a b c = a
first-cond p false true stop taken left a b c = b
first-cond p false false stop taken left a b c = c

slice_get-append : (xs ys : List Point) → 0 < length xs → slice_get (xs ++ ys) 0 ≡ slice_get xs 0
slice_get-append [] ys h = absurd (omega arith)
slice_get-append (x ∷ xs) ys h = refl

slice_get-extended : (T : TableMap) (unit between following : List Point) → 0 < length unit → slice_get (extended T unit between following).unit 0 ≡ slice_get unit 0
slice_get-extended T unit between [] h = refl
slice_get-extended T unit between (c ∷ following) h =
    let longer : 0 < length (unit ++ c ∷ []) = omega (arith, length-append unit (c ∷ [])) in
    first-cond (slice_get unit 0) (is_starter c) (joins T unit between c) (record { unit = unit; rest = between ++ c ∷ following }) (extended T (unit ++ c ∷ []) between following) (extended T unit (between ++ c ∷ []) following) refl
    (slice_get-extended T (unit ++ c ∷ []) between following longer ∙ slice_get-append unit (c ∷ []) h)
    (slice_get-extended T unit (between ++ c ∷ []) following h)

slice_get-take : (n : ℕ) (ps : List Point) → 0 < n → slice_get (take n ps) 0 ≡ slice_get ps 0
slice_get-take zero ps h = absurd (omega arith)
slice_get-take (suc n) [] h = refl
slice_get-take (suc n) (p ∷ ps) h = refl

pub slice_get-next_cut : (T : TableMap) (ps : List Point) → 0 < length ps → slice_get (next_cut T ps).unit 0 ≡ slice_get ps 0
slice_get-next_cut T ps some =
    let n : ℕ = prefix_length T ps in
    let prefix : 0 < length (take n ps) = omega (arith, length-take n ps, prefix_length-le T ps some) in
    ap (λ (cut : Cut). slice_get cut.unit 0) (next_cut-of T ps some) ∙ slice_get-extended T (take n ps) [] (drop n ps) prefix ∙ slice_get-take n ps (omega arith)

-- ---- the elements of a unit

unit_row-of : (T : TableMap) (unit : List Point) (p : Point) → slice_get unit 0 ≡ Some p → unit_row T unit ≡ unwrap_or (row_of T (code_points unit)) (implicit_pair T p.cp)
unit_row-of T [] p h = absurd (none-some p h)
unit_row-of T (q ∷ unit) p h = ap (λ (r : Point). unwrap_or (row_of T (code_points (q ∷ unit))) (implicit_pair T r.cp)) (same_Some q p h)

pub IsUnitOf-cut : (T : TableMap) (ps : List Point) (string : List ℕ) (first : Point) (unit : UnitValue) → 0 < length ps → slice_get ps 0 ≡ Some first → string ≡ code_points (next_cut T ps).unit → unit.first_point ≡ first → unit.elements ≡ unwrap_or (row_of T string) (implicit_pair T first.cp) → IsUnitOf T (next_cut T ps).unit unit
IsUnitOf-cut T ps string first unit some at string_is first_is elements_are =
    let there : slice_get (next_cut T ps).unit 0 ≡ Some first = slice_get-next_cut T ps some ∙ at in
    record {
      first_point = there ∙ ap (λ (p : Point). Some p) (sym first_is);
      elements = elements_are ∙ ap (λ k. unwrap_or (row_of T k) (implicit_pair T first.cp)) string_is ∙ sym (unit_row-of T (next_cut T ps).unit first there);
    }

-- ---- answers

pub IfNone-from : {A P : Type 0} (o : Option A) → P → IfNone o P
IfNone-from None h = h
IfNone-from (Some x) h = tt

-- ---- what a window represents

pub WindowStandsFor-cut : (T : TableMap) (old new : Held) (taken : List Point) (given : List (List Point)) → is_decided T old ≡ true → new.points ≡ (next_cut T old.points).rest → new.has_ended ≡ old.has_ended → WindowStandsFor T old taken given → WindowStandsFor T new taken (given ++ (next_cut T old.points).unit ∷ [])
WindowStandsFor-cut T old new taken given decided rest same stands = record {
  continues = λ more last.
      stands.continues more (λ reported. last (same ∙ reported))
      ∙ ap (λ us. given ++ us) (units-decided T old more decided (λ reported. last (same ∙ reported)))
      ∙ ap (λ ps. given ++ (next_cut T old.points).unit ∷ units T (ps ++ more)) (sym rest)
      ∙ sym (append_assoc given ((next_cut T old.points).unit ∷ []) (units T (new.points ++ more)));
}
