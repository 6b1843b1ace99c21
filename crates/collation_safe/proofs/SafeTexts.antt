-- Where a safe character stands in a text, a cluster begins.
use Rattle.std.specs.Char.{len_utf8}
use Rattle.std.proofs.Common.{◌≡◌, ℕ, ◌+◌, nat_lt, true, false, cond, List, [], ◌∷◌, ◌++◌, map, refl, sym, ap, ◌∙◌, subst, inl, arith}
use Rattle.std.proofs.lemmas.Bool.{false≢true, and_parts, and_right, cond-false, eqb-true, le-ltb}
use Rattle.unicode_normalization.specs.Lookups.{canonical_combining_class}
use Rattle.nfd_points.specs.declared.points.Point.{Point}
use Rattle.nfd_points.specs.Points.{decomposition, byte_len, points_at, points_from, points, is_starter, begins_with_starter, is_reorderable, sink, ordered, shifted}
use Rattle.nfd_points.specs.Laws.{TextsPart}
use Rattle.collation_table.specs.Table.{TableMap, ContinuesNoString}
use Rattle.collation_elements.specs.Boundaries.{unit_starts, cluster_starts}
use Rattle.collation_elements.specs.Elements.{begins_cluster}
use Rattle.collation_elements.specs.Units.{first_unit, units}
use Rattle.collation_elements.proofs.ContextUnits.{units-cons}
use Rattle.collation_matches.proofs.BridgeLists.{In, in_right, flat_map_in}
use Rattle.collation_safe.specs.Safe.{begins_safely, is_safe_character, is_safe_code_point}
use Rattle.collation_safe.proofs.SafeUnits.{first-begins}
use Rattle.collation_safe.proofs.Strings.{safe-continues}

-- ---- the first point of a safe character

-- a point at the beginning of a text that is first in its code point's decomposition
abbrev first_point : ℕ → Point
first_point d = record { cp = d; ccc = canonical_combining_class d; offset = 0; first = true }

record SafeFirst (T : TableMap) (ds : List ℕ) : Type 0 where
  d : ℕ
  others : List ℕ
  is : ds ≡ d ∷ others
  starter : is_starter (first_point d) ≡ true
  safe : is_safe_code_point T d ≡ true

safe-first : (T : TableMap) (ds : List ℕ) → begins_safely T (points_at 0 true ds) ≡ true → SafeFirst T ds
unfolding points_at
safe-first T [] h = absurd (false≢true h)
safe-first T (d ∷ ds) h =
    let parts = and_parts (is_starter (first_point d)) (is_safe_code_point T d) h in record { d = d; others = ds; is = refl; starter = parts.0; safe = parts.1 }

-- a starter stays where it is
sink-starter : (p : Point) (qs : List Point) → is_starter p ≡ true → sink p qs ≡ p ∷ qs
unfolding sink is_reorderable
sink-starter p [] h = refl
sink-starter p (q ∷ qs) h =
    let zero = eqb-true p.ccc 0 h in
    cond-false _ _ _ (and_right (nat_lt 0 q.ccc) (nat_lt q.ccc p.ccc) (le-ltb q.ccc p.ccc (omega (arith, zero))))

begun-points : (T : TableMap) (c : ℕ) (more : List ℕ) (s : SafeFirst T (decomposition c)) → (qs : List Point) × (points_from 0 (c ∷ more) ≡ first_point s.d ∷ qs)
unfolding points_from points_at
begun-points T c more s =
    (points_at 0 false s.others ++ points_from (0 + len_utf8 c) more, ap (λ (ds : List ℕ). points_at 0 true ds ++ points_from (0 + len_utf8 c) more) s.is)

ordered-cons : (p : Point) (qs : List Point) → ordered (p ∷ qs) ≡ sink p (ordered qs)
unfolding ordered
ordered-cons p qs = refl

-- ---- a cluster that begins where it stands

starts-in : (T : TableMap) (ps : List Point) (q : Point) (w : List Point) → In (units T ps) (q ∷ w) → begins_cluster T (q ∷ w) ≡ true → In (cluster_starts T ps) q.offset
starts-in T ps q w among begins =
    let here : In (unit_starts T (q ∷ w)) q.offset = subst (λ b. In (cond b (q.offset ∷ []) []) q.offset) (sym begins) (inl refl) in
    flat_map_in (unit_starts T) (units T ps) (q ∷ w) q.offset among here

module _ (part : TextsPart) (apart : (T : TableMap) (ps : List Point) (d : Point) (more : List Point) → is_starter d ≡ true → ContinuesNoString T d.cp → units T (ps ++ d ∷ more) ≡ units T ps ++ units T (d ∷ more)) where
  pub safe-starts : (T : TableMap) (before : List ℕ) (c : ℕ) (more : List ℕ) → is_safe_character T c ≡ true → In (cluster_starts T (points (before ++ c ∷ more))) (byte_len before)
  safe-starts T before c more safe =
      let s = safe-first T (decomposition c) safe in
      let by = byte_len before in
      let b = begun-points T c more s in
      let first = first_point s.d in
      let begins : begins_with_starter (points_from 0 (c ∷ more)) ≡ true = ap begins_with_starter b.1 ∙ s.starter in
      let later = map (shifted by) (ordered b.0) in
      let own : points (c ∷ more) ≡ first ∷ ordered b.0 = ap ordered b.1 ∙ ordered-cons first b.0 ∙ sink-starter first (ordered b.0) s.starter in
      let all : points (before ++ c ∷ more) ≡ points before ++ shifted by first ∷ later = part before (c ∷ more) begins ∙ ap (λ (ps : List Point). points before ++ map (shifted by) ps) own in
      let split : units T (points before ++ shifted by first ∷ later) ≡ units T (points before) ++ units T (shifted by first ∷ later) = apart T (points before) (shifted by first) later s.starter (safe-continues T s.d s.safe) in
      let unit = first-begins T (shifted by first) later refl s.starter s.safe in
      let cut : units T (shifted by first ∷ later) ≡ (shifted by first ∷ unit.0) ∷ units T (first_unit T (shifted by first) later).rest =
      units-cons T (shifted by first) later ∙ ap (λ (u : List Point). u ∷ units T (first_unit T (shifted by first) later).rest) unit.1 in
      let among : In (units T (points before ++ shifted by first ∷ later)) (shifted by first ∷ unit.0) =
      subst (λ (us : List (List Point)). In us (shifted by first ∷ unit.0)) (sym split)
      (in_right (units T (points before)) (units T (shifted by first ∷ later)) (shifted by first ∷ unit.0)
      (subst (λ (us : List (List Point)). In us (shifted by first ∷ unit.0)) (sym cut) (inl refl))) in
      let found = starts-in T (points before ++ shifted by first ∷ later) (shifted by first) unit.0 among unit.2 in
      let at : by + 0 ≡ by = omega arith in
      subst (In (cluster_starts T (points (before ++ c ∷ more)))) at (subst (λ (ps : List Point). In (cluster_starts T ps) (by + 0)) (sym all) found)
