-- Units do not reach across a starter at which one of them begins: the units before it are those of the prefix by itself,
-- and the units from it on are those of the rest by itself.
use Rattle.std.proofs.Common.{◌≡◌, ℕ, zero, suc, ◌+◌, ◌-◌, ◌≤◌, max, Bool, true, false, List, [], ◌∷◌, ◌++◌, length, take, drop, refl, sym, ap, ap₂, ◌∙◌, subst, arith, inl, inr, length-append, append_assoc, append-nil, eq-or-lt_of_le, if◌then◌else◌, true≢false}
use Rattle.std.proofs.lemmas.Bool.{cond-true, cond-false, cases_Bool, and_parts, and_from, and_right, not_from_false, not_from_true}
use Rattle.std.proofs.lemmas.List.{take-append-drop, length-take-le, length-drop, length-map, map-append, take-append-le, drop-append-le}
use Rattle.std.proofs.lemmas.List.Folds.{list_all-append}
use Rattle.std.specs.List.{list_all}
use Rattle.nfd_points.specs.declared.points.Point.{Point}
use Rattle.nfd_points.specs.Points.{is_starter}
use Rattle.nfd_points.specs.Reordering.{is_non_starter}
use Rattle.collation_table.specs.Table.{TableMap, ContinuesNoString, is_mapped, longest_prefix, longest_prefix_within}
use Rattle.collation_elements.specs.Units.{code_points, joins, Cut, extended, first_unit, units_within, units, prefix_length}
use Rattle.collation_elements.proofs.Longest.{prefix_length-le}

-- ---- the steps of the look at non-starters

pub extended-stop : (table : TableMap) (unit between : List Point) (c : Point) (cs : List Point) → is_starter c ≡ true → extended table unit between (c ∷ cs) ≡ record { unit = unit; rest = between ++ c ∷ cs }
extended-stop table unit between c cs h = cond-true _ _ _ h

pub extended-taken : (table : TableMap) (unit between : List Point) (c : Point) (cs : List Point) → is_starter c ≡ false → joins table unit between c ≡ true → extended table unit between (c ∷ cs) ≡ extended table (unit ++ c ∷ []) between cs
extended-taken table unit between c cs h j = cond-false _ _ _ h ∙ cond-true _ _ _ j

pub extended-left : (table : TableMap) (unit between : List Point) (c : Point) (cs : List Point) → is_starter c ≡ false → joins table unit between c ≡ false → extended table unit between (c ∷ cs) ≡ extended table unit (between ++ c ∷ []) cs
extended-left table unit between c cs h j = cond-false _ _ _ h ∙ cond-false _ _ _ j

-- what follows is put after what a cut leaves
abbrev pub with_more : List Point → Cut → Cut
with_more later cut = record { unit = cut.unit; rest = cut.rest ++ later }

-- the look stops at a starter
pub extended-at_starter : (table : TableMap) (unit between cs : List Point) (s : Point) (later : List Point) → is_starter s ≡ true → extended table unit between (cs ++ s ∷ later) ≡ with_more (s ∷ later) (extended table unit between cs)
extended-at_starter table unit between [] s later h = extended-stop table unit between s later h
extended-at_starter table unit between (c ∷ cs) s later h =
    elim (cases_Bool (is_starter c)) [
      | inl starter ↦
          extended-stop table unit between c (cs ++ s ∷ later) starter
          ∙ ap (λ l. record { unit = unit; rest = l }) (sym (append_assoc between (c ∷ cs) (s ∷ later)))
          ∙ ap (with_more (s ∷ later)) (sym (extended-stop table unit between c cs starter))
      | inr mark ↦
          elim (cases_Bool (joins table unit between c)) [
            | inl joined ↦
                extended-taken table unit between c (cs ++ s ∷ later) mark joined
                ∙ extended-at_starter table (unit ++ c ∷ []) between cs s later h
                ∙ ap (with_more (s ∷ later)) (sym (extended-taken table unit between c cs mark joined))
            | inr stays ↦
                extended-left table unit between c (cs ++ s ∷ later) mark stays
                ∙ extended-at_starter table unit (between ++ c ∷ []) cs s later h
                ∙ ap (with_more (s ∷ later)) (sym (extended-left table unit between c cs mark stays))
          ]
    ]

-- and it leaves a last point that stands in no mapped string after the first place
joins-none : (table : TableMap) (u : Point) (us between : List Point) (d : Point) → ContinuesNoString table d.cp → joins table (u ∷ us) between d ≡ false
joins-none table u us between d none =
    let parts : code_points ((u ∷ us) ++ d ∷ []) ≡ u.cp ∷ (code_points us ++ d.cp ∷ []) = map-append (λ (q : Point). q.cp) (u ∷ us) (d ∷ []) in
    and_right _ _ (ap (is_mapped table) parts ∙ none u.cp (code_points us) [])

pub extended-at_last : (table : TableMap) (unit us between cs : List Point) (u d : Point) → unit ≡ u ∷ us → ContinuesNoString table d.cp → extended table unit between (cs ++ d ∷ []) ≡ with_more (d ∷ []) (extended table unit between cs)
extended-at_last table unit us between [] u d some none =
    elim (cases_Bool (is_starter d)) [
      | inl starter ↦ extended-stop table unit between d [] starter
      | inr mark ↦ extended-left table unit between d [] mark (ap (λ x. joins table x between d) some ∙ joins-none table u us between d none)
    ]
extended-at_last table unit us between (c ∷ cs) u d some none =
    elim (cases_Bool (is_starter c)) [
      | inl starter ↦
          extended-stop table unit between c (cs ++ d ∷ []) starter
          ∙ ap (λ l. record { unit = unit; rest = l }) (sym (append_assoc between (c ∷ cs) (d ∷ [])))
          ∙ ap (with_more (d ∷ [])) (sym (extended-stop table unit between c cs starter))
      | inr mark ↦
          elim (cases_Bool (joins table unit between c)) [
            | inl joined ↦
                extended-taken table unit between c (cs ++ d ∷ []) mark joined
                ∙ extended-at_last table (unit ++ c ∷ []) (us ++ c ∷ []) between cs u d (ap (λ l. l ++ c ∷ []) some) none
                ∙ ap (with_more (d ∷ [])) (sym (extended-taken table unit between c cs mark joined))
            | inr stays ↦
                extended-left table unit between c (cs ++ d ∷ []) mark stays
                ∙ extended-at_last table unit us (between ++ c ∷ []) cs u d some none
                ∙ ap (with_more (d ∷ [])) (sym (extended-left table unit between c cs mark stays))
          ]
    ]

-- ---- what a cut takes and leaves

-- The unit goes on from `unit`; what is left are `left`, non-starters, and then `later`, which is the end of `cs`; no point is lost.
pub record Leaves (unit between cs : List Point) (cut : Cut) : Type 0 where
  pub taken : List Point
  pub left : List Point
  pub passed : List Point
  pub later : List Point
  pub unit_is : cut.unit ≡ unit ++ taken
  pub rest_is : cut.rest ≡ left ++ later
  pub marks : list_all is_non_starter left ≡ true
  pub was : cs ≡ passed ++ later
  pub count : length taken + length left ≡ length between + length passed

pub extended-leaves : (table : TableMap) (unit between cs : List Point) → list_all is_non_starter between ≡ true → Leaves unit between cs (extended table unit between cs)
extended-leaves table unit between [] h =
    record { taken = []; left = between; passed = []; later = []; unit_is = sym (append-nil unit); rest_is = sym (append-nil between); marks = h; was = refl; count = omega arith }
extended-leaves table unit between (c ∷ cs) h =
    elim (cases_Bool (is_starter c)) [
      | inl starter ↦
          subst (Leaves unit between (c ∷ cs)) (sym (extended-stop table unit between c cs starter))
          (record { taken = []; left = between; passed = []; later = c ∷ cs; unit_is = sym (append-nil unit); rest_is = refl; marks = h; was = refl; count = omega arith })
      | inr mark ↦
          elim (cases_Bool (joins table unit between c)) [
            | inl joined ↦
                let more = extended-leaves table (unit ++ c ∷ []) between cs h in
                subst (Leaves unit between (c ∷ cs)) (sym (extended-taken table unit between c cs mark joined))
                (record { taken = c ∷ more.taken; left = more.left; passed = c ∷ more.passed; later = more.later; unit_is = more.unit_is ∙ append_assoc unit (c ∷ []) more.taken; rest_is = more.rest_is; marks = more.marks; was = ap (λ l. c ∷ l) more.was; count = omega (arith, more.count) })
            | inr stays ↦
                let more = extended-leaves table unit (between ++ c ∷ []) cs (list_all-append is_non_starter between (c ∷ []) ∙ and_from _ _ h (and_from _ _ (not_from_false _ mark) refl)) in
                subst (Leaves unit between (c ∷ cs)) (sym (extended-left table unit between c cs mark stays))
                (record { taken = more.taken; left = more.left; passed = c ∷ more.passed; later = more.later; unit_is = more.unit_is; rest_is = more.rest_is; marks = more.marks; was = ap (λ l. c ∷ l) more.was; count = omega (arith, more.count, length-append between (c ∷ [])) })
          ]
    ]

-- ---- the longest prefix

-- the search up to n looks at no more than n points
within-prefix : (table : TableMap) (xs ys : List ℕ) (n : ℕ) → n ≤ length xs → longest_prefix_within table (xs ++ ys) n ≡ longest_prefix_within table xs n
within-prefix table xs ys zero h = refl
within-prefix table xs ys (suc n) h =
    let same : take (suc n) (xs ++ ys) ≡ take (suc n) xs = take-append-le (suc n) xs ys h in
    ap₂ (λ prefix shorter. if is_mapped table prefix then suc n else shorter) same (within-prefix table xs ys n (omega arith))

-- a search that starts higher and finds nothing there
within-higher : (table : TableMap) (points : List ℕ) (low n : ℕ) → low ≤ n → longest_prefix_within table points n ≤ low → longest_prefix_within table points n ≡ longest_prefix_within table points low
within-higher table points low zero le h = let e : 0 ≡ low = omega arith in ap (longest_prefix_within table points) e
within-higher table points low (suc n) le h =
    elim (eq-or-lt_of_le le) [
      | inl here ↦ ap (longest_prefix_within table points) (sym here)
      | inr above ↦
          elim (cases_Bool (is_mapped table (take (suc n) points))) [
            | inl found ↦ let e : longest_prefix_within table points (suc n) ≡ suc n = cond-true _ _ _ found in absurd (omega arith)
            | inr none ↦
                let e : longest_prefix_within table points (suc n) ≡ longest_prefix_within table points n = cond-false _ _ _ none in
                e ∙ within-higher table points low n (omega arith) (subst (λ m. m ≤ low) e h)
          ]
    ]

pub longest_prefix-prefix : (table : TableMap) (xs ys : List ℕ) → longest_prefix table (xs ++ ys) ≤ length xs → longest_prefix table (xs ++ ys) ≡ longest_prefix table xs
longest_prefix-prefix table xs ys h =
    within-higher table (xs ++ ys) (length xs) (length (xs ++ ys)) (omega (arith, length-append xs ys)) h
    ∙ within-prefix table xs ys (length xs) (omega arith)

-- ---- one unit

length-code_points : (ps : List Point) → length (code_points ps) ≡ length ps
length-code_points ps = length-map ps (λ (p : Point). p.cp)

-- a unit whose first n points are cut off together
abbrev pub cut_at : TableMap → ℕ → List Point → Cut
cut_at table n ps = extended table (take n ps) [] (drop n ps)

cut_at-length : (table : TableMap) (n : ℕ) (ps : List Point) → n ≤ length ps → (length (cut_at table n ps).unit + length (cut_at table n ps).rest ≡ length ps) × (n ≤ length (cut_at table n ps).unit)
cut_at-length table n ps h =
    let l = extended-leaves table (take n ps) [] (drop n ps) refl in
    let unit : length (cut_at table n ps).unit ≡ n + length l.taken = ap length l.unit_is ∙ length-append (take n ps) l.taken ∙ ap (λ m. m + length l.taken) (length-take-le n ps h) in
    let rest : length (cut_at table n ps).rest ≡ length l.left + length l.later = ap length l.rest_is ∙ length-append l.left l.later in
    let was : length ps - n ≡ length l.passed + length l.later = sym (length-drop n ps) ∙ ap length l.was ∙ length-append l.passed l.later in
    let count : length l.taken + length l.left ≡ 0 + length l.passed = l.count in
    (omega arith, omega arith)

cut_at-head : (table : TableMap) (n : ℕ) (p : Point) (ps : List Point) → 1 ≤ n → (taken : List Point) × ((cut_at table n (p ∷ ps)).unit ≡ p ∷ taken)
cut_at-head table zero p ps h = absurd (omega arith)
cut_at-head table (suc n) p ps h =
    let l = extended-leaves table (take (suc n) (p ∷ ps)) [] (drop (suc n) (p ∷ ps)) refl in (take n ps ++ l.taken, l.unit_is)

cut_at-prefix : (table : TableMap) (n : ℕ) (ps : List Point) (s : Point) (later : List Point) → is_starter s ≡ true → n ≤ length ps → cut_at table n (ps ++ s ∷ later) ≡ with_more (s ∷ later) (cut_at table n ps)
cut_at-prefix table n ps s later h le =
    ap₂ (λ prefix rest. extended table prefix [] rest) (take-append-le n ps (s ∷ later) le) (drop-append-le n ps (s ∷ later) le)
    ∙ extended-at_starter table (take n ps) [] (drop n ps) s later h

pub first_unit-leaves : (table : TableMap) (p : Point) (ps : List Point) → Leaves (take (prefix_length table (p ∷ ps)) (p ∷ ps)) [] (drop (prefix_length table (p ∷ ps)) (p ∷ ps)) (first_unit table p ps)
first_unit-leaves table p ps = extended-leaves table (take (prefix_length table (p ∷ ps)) (p ∷ ps)) [] (drop (prefix_length table (p ∷ ps)) (p ∷ ps)) refl

-- no point is lost
pub first_unit-length : (table : TableMap) (p : Point) (ps : List Point) → (length (first_unit table p ps).unit + length (first_unit table p ps).rest ≡ length (p ∷ ps)) × (prefix_length table (p ∷ ps) ≤ length (first_unit table p ps).unit)
first_unit-length table p ps = cut_at-length table (prefix_length table (p ∷ ps)) (p ∷ ps) (prefix_length-le table (p ∷ ps) (omega arith))

one_at_least : (n : ℕ) → 1 ≤ max 1 n
one_at_least n = omega arith

pub first_unit-shorter : (table : TableMap) (p : Point) (ps : List Point) → length (first_unit table p ps).rest ≤ length ps
first_unit-shorter table p ps = let l = first_unit-length table p ps in let one = one_at_least (longest_prefix table (code_points (p ∷ ps))) in omega arith

-- a unit begins with the first point
pub first_unit-head : (table : TableMap) (p : Point) (ps : List Point) → (taken : List Point) × ((first_unit table p ps).unit ≡ p ∷ taken)
first_unit-head table p ps = cut_at-head table (prefix_length table (p ∷ ps)) p ps (one_at_least (longest_prefix table (code_points (p ∷ ps))))

-- Where the first cut stays within a prefix, what follows it from a starter on is left over.
pub first_unit-prefix : (table : TableMap) (p : Point) (ps : List Point) (s : Point) (later : List Point) → is_starter s ≡ true → prefix_length table (p ∷ (ps ++ s ∷ later)) ≤ length (p ∷ ps) → first_unit table p (ps ++ s ∷ later) ≡ with_more (s ∷ later) (first_unit table p ps)
first_unit-prefix table p ps s later h le =
    let parts : code_points (p ∷ (ps ++ s ∷ later)) ≡ code_points (p ∷ ps) ++ code_points (s ∷ later) = map-append (λ (q : Point). q.cp) (p ∷ ps) (s ∷ later) in
    let low : longest_prefix table (code_points (p ∷ ps) ++ code_points (s ∷ later)) ≤ length (code_points (p ∷ ps)) =
    subst (λ l. longest_prefix table l ≤ length (code_points (p ∷ ps))) parts (omega (arith, length-code_points (p ∷ ps))) in
    let same : prefix_length table (p ∷ (ps ++ s ∷ later)) ≡ prefix_length table (p ∷ ps) =
    ap (λ l. max 1 (longest_prefix table l)) parts ∙ ap (max 1) (longest_prefix-prefix table (code_points (p ∷ ps)) (code_points (s ∷ later)) low) in
    ap (λ n. cut_at table n ((p ∷ ps) ++ s ∷ later)) same
    ∙ cut_at-prefix table (prefix_length table (p ∷ ps)) (p ∷ ps) s later h (prefix_length-le table (p ∷ ps) (omega arith))

-- and so is a last point that stands in no mapped string after the first place
pub first_unit-last : (table : TableMap) (p : Point) (ps : List Point) (d : Point) → ContinuesNoString table d.cp → prefix_length table (p ∷ (ps ++ d ∷ [])) ≤ length (p ∷ ps) → first_unit table p (ps ++ d ∷ []) ≡ with_more (d ∷ []) (first_unit table p ps)
first_unit-last table p ps d none le =
    let all : List Point = p ∷ ps in
    let parts : code_points (p ∷ (ps ++ d ∷ [])) ≡ code_points all ++ code_points (d ∷ []) = map-append (λ (q : Point). q.cp) all (d ∷ []) in
    let low : longest_prefix table (code_points all ++ code_points (d ∷ [])) ≤ length (code_points all) =
    subst (λ l. longest_prefix table l ≤ length (code_points all)) parts (omega (arith, length-code_points all)) in
    let n = prefix_length table all in
    let same : prefix_length table (p ∷ (ps ++ d ∷ [])) ≡ n =
    ap (λ l. max 1 (longest_prefix table l)) parts ∙ ap (max 1) (longest_prefix-prefix table (code_points all) (code_points (d ∷ [])) low) in
    let within = prefix_length-le table all (omega arith) in
    let begun = take-head n p ps (one_at_least (longest_prefix table (code_points all))) in
    ap (λ m. cut_at table m (all ++ d ∷ [])) same
    ∙ ap₂ (λ prefix rest. extended table prefix [] rest) (take-append-le n all (d ∷ []) within) (drop-append-le n all (d ∷ []) within)
    ∙ extended-at_last table (take n all) begun.0 [] (drop n all) p d begun.1 none
  where
    take-head : (n : ℕ) (p : Point) (ps : List Point) → 1 ≤ n → (others : List Point) × (take n (p ∷ ps) ≡ p ∷ others)
    take-head zero p ps some = absurd (omega arith)
    take-head (suc n) p ps some = (take n ps, refl)

-- ---- all units

same_fuel : (f g : List Point) (table : TableMap) (ps : List Point) → length ps ≤ length f → length ps ≤ length g → units_within f table ps ≡ units_within g table ps
same_fuel [] [] table ps hf hg = refl
same_fuel [] (y ∷ g) table [] hf hg = refl
same_fuel [] (y ∷ g) table (p ∷ ps) hf hg = absurd (omega arith)
same_fuel (x ∷ f) [] table [] hf hg = refl
same_fuel (x ∷ f) [] table (p ∷ ps) hf hg = absurd (omega arith)
same_fuel (x ∷ f) (y ∷ g) table [] hf hg = refl
same_fuel (x ∷ f) (y ∷ g) table (p ∷ ps) hf hg =
    let less = first_unit-shorter table p ps in
    ap (λ us. (first_unit table p ps).unit ∷ us) (same_fuel f g table (first_unit table p ps).rest (omega arith) (omega arith))

pub units-cons : (table : TableMap) (p : Point) (ps : List Point) → units table (p ∷ ps) ≡ (first_unit table p ps).unit ∷ units table (first_unit table p ps).rest
units-cons table p ps =
    ap (λ us. (first_unit table p ps).unit ∷ us)
    (same_fuel ps (first_unit table p ps).rest table (first_unit table p ps).rest (first_unit-shorter table p ps) (omega arith))

-- ---- some units, and what they leave

-- the first units of `ps` are `us`, and they leave `rest`
abbrev pub CutsOff : TableMap → List Point → List (List Point) → List Point → Type 0
CutsOff table ps [] rest = ps ≡ rest
CutsOff table [] (u ∷ us) rest = ⊥
CutsOff table (p ∷ ps) (u ∷ us) rest = ((first_unit table p ps).unit ≡ u) × CutsOff table (first_unit table p ps).rest us rest

pub CutsOff-from : (table : TableMap) (ps : List Point) (us vs : List (List Point)) → units table ps ≡ us ++ vs → (rest : List Point) × CutsOff table ps us rest × (units table rest ≡ vs)
CutsOff-from table ps [] vs e = (ps, refl, e)
CutsOff-from table [] (u ∷ us) vs e = absurd cc
CutsOff-from table (p ∷ ps) (u ∷ us) vs e =
    let both : (first_unit table p ps).unit ∷ units table (first_unit table p ps).rest ≡ u ∷ (us ++ vs) = sym (units-cons table p ps) ∙ e in
    let first : (first_unit table p ps).unit ≡ u = cc in
    let others : units table (first_unit table p ps).rest ≡ us ++ vs = cc in
    let more = CutsOff-from table (first_unit table p ps).rest us vs others in
    (more.0, (first, more.1), more.2)

-- ---- a point that fails a test is not in a list that passes it

record After (prefix left later : List Point) (s : Point) (rest : List Point) : Type 0 where
  pub gap : List Point
  pub prefix_is : prefix ≡ left ++ gap
  pub later_is : later ≡ gap ++ s ∷ rest

after_passed : (test : Point → Bool) (prefix left later : List Point) (s : Point) (rest : List Point) → list_all test left ≡ true → test s ≡ false → prefix ++ s ∷ rest ≡ left ++ later → After prefix left later s rest
after_passed test prefix [] later s rest h fails e = record { gap = prefix; prefix_is = refl; later_is = sym e }
after_passed test [] (l ∷ left) later s rest h fails e =
    let parts = and_parts (test l) (list_all test left) h in
    let same : s ≡ l = cc in
    let clash : true ≡ false = sym parts.0 ∙ ap test (sym same) ∙ fails in
    absurd (true≢false clash)
after_passed test (f ∷ prefix) (l ∷ left) later s rest h fails e =
    let parts = and_parts (test l) (list_all test left) h in
    let same : f ≡ l = cc in
    let tail : prefix ++ s ∷ rest ≡ left ++ later = cc in
    let more = after_passed test prefix left later s rest parts.1 fails tail in
    record { gap = more.gap; prefix_is = ap₂ (λ x xs. x ∷ xs) same more.prefix_is; later_is = more.later_is }

-- ---- a starter that is left ends the points as it began

pub CutsOff-suffix : (table : TableMap) (ps : List Point) (us : List (List Point)) (s : Point) (later : List Point) → is_starter s ≡ true → CutsOff table ps us (s ∷ later) → (prefix : List Point) × (ps ≡ prefix ++ s ∷ later)
CutsOff-suffix table ps [] s later h e = ([], e)
CutsOff-suffix table [] (u ∷ us) s later h e = absurd e
CutsOff-suffix table (p ∷ ps) (u ∷ us) s later h e =
    let more = CutsOff-suffix table (first_unit table p ps).rest us s later h e.1 in
    let n = prefix_length table (p ∷ ps) in
    let l = first_unit-leaves table p ps in
    let b = after_passed is_non_starter more.0 l.left l.later s later l.marks (not_from_true _ h) (sym more.1 ∙ l.rest_is) in
    let dropped : drop n (p ∷ ps) ≡ l.passed ++ (b.gap ++ s ∷ later) = l.was ∙ ap (λ x. l.passed ++ x) b.later_is in
    let all : p ∷ ps ≡ take n (p ∷ ps) ++ (l.passed ++ (b.gap ++ s ∷ later)) = sym (take-append-drop n (p ∷ ps)) ∙ ap (λ x. take n (p ∷ ps) ++ x) dropped in
    let grouped : take n (p ∷ ps) ++ (l.passed ++ (b.gap ++ s ∷ later)) ≡ (take n (p ∷ ps) ++ (l.passed ++ b.gap)) ++ s ∷ later = simp append_assoc in
    (take n (p ∷ ps) ++ (l.passed ++ b.gap), all ∙ grouped)

-- The units before a starter at which one begins are those of the prefix by itself.
pub CutsOff-prefix : (table : TableMap) (prefix : List Point) (us : List (List Point)) (s : Point) (later : List Point) → is_starter s ≡ true → CutsOff table (prefix ++ s ∷ later) us (s ∷ later) → units table prefix ≡ us
CutsOff-prefix table [] [] s later h e = refl
CutsOff-prefix table (p ∷ ps) [] s later h e =
    let counts : length (p ∷ (ps ++ s ∷ later)) ≡ length (s ∷ later) = ap length e in absurd (omega (arith, length-append ps (s ∷ later)))
CutsOff-prefix table [] (u ∷ us) s later h e =
    let more = CutsOff-suffix table (first_unit table s later).rest us s later h e.1 in
    let long : length (first_unit table s later).rest ≡ length more.0 + length (s ∷ later) = ap length more.1 ∙ length-append more.0 (s ∷ later) in
    absurd (omega (arith, first_unit-shorter table s later))
CutsOff-prefix table (p ∷ ps) (u ∷ us) s later h e =
    let whole : Cut = first_unit table p (ps ++ s ∷ later) in
    let prefix : Cut = first_unit table p ps in
    let more = CutsOff-suffix table whole.rest us s later h e.1 in
    let long : length whole.rest ≡ length more.0 + length (s ∷ later) = ap length more.1 ∙ length-append more.0 (s ∷ later) in
    let counts = first_unit-length table p (ps ++ s ∷ later) in
    let fits : prefix_length table (p ∷ (ps ++ s ∷ later)) ≤ length (p ∷ ps) = omega (arith, length-append ps (s ∷ later)) in
    let same : whole ≡ with_more (s ∷ later) prefix = first_unit-prefix table p ps s later h fits in
    let rest : whole.rest ≡ prefix.rest ++ s ∷ later = ap (λ (c : Cut). c.rest) same in
    let unit : prefix.unit ≡ u = sym (ap (λ (c : Cut). c.unit) same) ∙ e.0 in
    let others : units table prefix.rest ≡ us = CutsOff-prefix table prefix.rest us s later h (subst (λ l. CutsOff table l us (s ∷ later)) rest e.1) in
    units-cons table p ps ∙ ap₂ (λ x xs. x ∷ xs) unit others
