-- A unit that begins with a safe code point begins a cluster.
use Rattle.std.proofs.Common.{◌≡◌, ◌⊎◌, ℕ, zero, suc, max, Bool, true, false, cond, not, ◌&&◌, List, [], ◌∷◌, ◌++◌, length, take, drop, unwrap_or, Option, Some, None, refl, sym, ap, ◌∙◌, subst, inl, inr, arith}
use Rattle.std.proofs.lemmas.Bool.{false≢true, and_parts, and_from}
use Rattle.std.proofs.lemmas.List.{take-map}
use Rattle.std.specs.List.{list_any}
use Rattle.nfd_points.specs.declared.points.Point.{Point}
use Rattle.nfd_points.specs.Points.{is_starter}
use Rattle.collation_table.specs.declared.elements.Element.{Element}
use Rattle.collation_table.specs.Table.{TableMap, row_of, is_mapped, implicit_pair, longest_prefix, longest_prefix_within}
use Rattle.collation_elements.specs.Elements.{begins_primary, begins_cluster, unit_row}
use Rattle.collation_elements.specs.Units.{Cut, blocks, code_points, extended, first_unit, joins, prefix_length}
use Rattle.collation_elements.proofs.ContextUnits.{first_unit-head}
use Rattle.collation_safe.specs.Safe.{is_safe_code_point}
use Rattle.collation_safe.proofs.Strings.{safe-alone, safe-mapped}

-- ---- a unit is mapped, or one point

module _ (T : TableMap) (p : Point) where
  abbrev IsUnit : List Point → Type 0
  IsUnit u = (is_mapped T (code_points u) ≡ true) ⊎ (u ≡ p ∷ [])

  unit-cond : (s j : Bool) (stop taken left : Cut) → IsUnit stop.unit → (j ≡ true → IsUnit taken.unit) → IsUnit left.unit → IsUnit (cond s stop (cond j taken left)).unit
  unit-cond true j stop taken left a b c = a
  unit-cond false true stop taken left a b c = b refl
  unit-cond false false stop taken left a b c = c

  unit-extended : (unit between ps : List Point) → IsUnit unit → IsUnit (extended T unit between ps).unit
  unit-extended unit between [] h = h
  unit-extended unit between (c ∷ ps) h =
      unit-cond (is_starter c) (joins T unit between c) (record { unit = unit; rest = between ++ c ∷ ps }) (extended T (unit ++ c ∷ []) between ps) (extended T unit (between ++ c ∷ []) ps)
      h
      (λ yes. unit-extended (unit ++ c ∷ []) between ps (inl (and_parts (not (list_any (blocks c) between)) (is_mapped T (code_points (unit ++ c ∷ []))) yes).1))
      (unit-extended unit (between ++ c ∷ []) ps h)

  longest-step : (cps : List ℕ) (n k : ℕ) (b : Bool) → is_mapped T (take (suc n) cps) ≡ b → cond b (suc n) (longest_prefix_within T cps n) ≡ suc k →
      (longest_prefix_within T cps n ≡ suc k → is_mapped T (take (suc k) cps) ≡ true) → is_mapped T (take (suc k) cps) ≡ true
  longest-step cps n k true is here rest = ap (λ m. is_mapped T (take m cps)) (sym here) ∙ is
  longest-step cps n k false is here rest = rest here

  longest-mapped : (cps : List ℕ) (n k : ℕ) → longest_prefix_within T cps n ≡ suc k → is_mapped T (take (suc k) cps) ≡ true
  longest-mapped cps zero k h = absurd (omega (arith, h))
  longest-mapped cps (suc n) k h = longest-step cps n k (is_mapped T (take (suc n) cps)) refl h (longest-mapped cps n k)

  unit-prefix : (ps : List Point) (n : ℕ) → longest_prefix T (code_points (p ∷ ps)) ≡ n → IsUnit (take (max 1 n) (p ∷ ps))
  unit-prefix ps zero h = inr refl
  unit-prefix ps (suc k) h =
      let more : max 1 (suc k) ≡ suc k = omega arith in
      let mapped = longest-mapped (code_points (p ∷ ps)) (length (code_points (p ∷ ps))) k h in
      subst (λ n. IsUnit (take n (p ∷ ps))) (sym more) (inl (ap (is_mapped T) (sym (take-map (λ (q : Point). q.cp) (suc k) (p ∷ ps))) ∙ mapped))

  unit-first : (ps : List Point) → IsUnit (first_unit T p ps).unit
  unit-first ps =
      let n = prefix_length T (p ∷ ps) in
      unit-extended (take n (p ∷ ps)) [] (drop n (p ∷ ps)) (unit-prefix ps (longest_prefix T (code_points (p ∷ ps))) refl)

  -- ---- its elements

  primary-row : (o : Option (List Element)) (others : List Element) → begins_primary (unwrap_or o []) ≡ true → begins_primary (unwrap_or o others) ≡ true
  primary-row None others h = absurd (false≢true h)
  primary-row (Some row) others h = h

  primary-unit : (w : List Point) → is_safe_code_point T p.cp ≡ true → IsUnit (p ∷ w) → begins_primary (unit_row T (p ∷ w)) ≡ true
  primary-unit w safe (inl mapped) = primary-row (row_of T (code_points (p ∷ w))) (implicit_pair T p.cp) (safe-mapped T p.cp (code_points w) safe mapped)
  primary-unit w safe (inr one) = ap (λ (u : List Point). begins_primary (unit_row T u)) one ∙ safe-alone T p.cp safe

  -- the first unit of points that begin with a starter which is safe
  pub first-begins : (ps : List Point) → p.first ≡ true → is_starter p ≡ true → is_safe_code_point T p.cp ≡ true →
      (w : List Point) × ((first_unit T p ps).unit ≡ p ∷ w) × (begins_cluster T (p ∷ w) ≡ true)
  first-begins ps first starter safe =
      let head = first_unit-head T p ps in
      let unit = subst IsUnit head.1 (unit-first ps) in
      let primary = primary-unit head.0 safe unit in
      (head.0, head.1, and_from (p.first && is_starter p) (begins_primary (unit_row T (p ∷ head.0))) (and_from p.first (is_starter p) first starter) primary)
