-- Points of which no unit reaches into those that follow: their units are the same by themselves.
use Rattle.std.proofs.Common.{◌≡◌, ℕ, zero, suc, ◌<◌, ◌≤◌, true, false, List, [], ◌∷◌, ◌++◌, length, take, refl, sym, ◌∙◌, ap, ⊎_elim, arith}
use Rattle.std.specs.List.{All}
use Rattle.std.proofs.lemmas.Bool.{cases_lt, cond-false}
use Rattle.std.proofs.lemmas.List.{map-append, length-map}
use Rattle.std.proofs.lemmas.List.Elements.{All-head, All-tail}
use Rattle.nfd_points.specs.declared.points.Point.{Point}
use Rattle.nfd_points.specs.Points.{is_starter}
use Rattle.collation_table.specs.Table.{TableMap, BeginsNoLongerString, ContinuesNoString, is_mapped, longest_prefix_within}
use Rattle.collation_elements.specs.Units.{code_points, Cut, first_unit, prefix_length, units}
use Rattle.collation_elements.proofs.Longest.{longest_prefix_within-le}
use Rattle.collation_elements.proofs.Alone.{units-alone}
use Rattle.collation_elements.proofs.ContextUnits.{units-cons, first_unit-prefix, first_unit-last, first_unit-shorter}

pub units-all_alone : (T : TableMap) (ps more : List Point) → All (λ p. BeginsNoLongerString T p.cp) ps → units T (ps ++ more) ≡ units T ps ++ units T more
units-all_alone T [] more none = refl
units-all_alone T (p ∷ ps) more none =
    let none_first : BeginsNoLongerString T p.cp = All-head (λ q. BeginsNoLongerString T q.cp) p ps none in
    units-alone T p (ps ++ more) none_first
    ∙ ap (λ us. (p ∷ []) ∷ us) (units-all_alone T ps more (All-tail (λ q. BeginsNoLongerString T q.cp) p ps none))
    ∙ ap (λ us. us ++ units T more) (sym (units-alone T p ps none_first))

-- ---- before a starter that stands in no mapped string after the first place

take-past : (cs : List ℕ) (d : ℕ) (ds : List ℕ) (n : ℕ) → length cs < n → (rest : List ℕ) × (take n (cs ++ d ∷ ds) ≡ cs ++ d ∷ rest)
take-past cs d ds zero past = absurd (omega arith)
take-past [] d ds (suc n) past = (take n ds, refl)
take-past (c ∷ cs) d ds (suc n) past = let more = take-past cs d ds n (omega arith) in (more.0, ap (λ xs. c ∷ xs) more.1)

-- no mapped prefix reaches it
longest_prefix_within-before : (T : TableMap) (c : ℕ) (cs : List ℕ) (d : ℕ) (ds : List ℕ) (n : ℕ) → ContinuesNoString T d → longest_prefix_within T (c ∷ (cs ++ d ∷ ds)) n ≤ length (c ∷ cs)
longest_prefix_within-before T c cs d ds zero none = omega arith
longest_prefix_within-before T c cs d ds (suc n) none = ⊎_elim
    (λ (past : length cs < n).
    let reached = take-past cs d ds n past in
    let unmapped : is_mapped T (c ∷ take n (cs ++ d ∷ ds)) ≡ false = ap (λ xs. is_mapped T (c ∷ xs)) reached.1 ∙ none c cs reached.0 in
    let shorter : longest_prefix_within T (c ∷ (cs ++ d ∷ ds)) (suc n) ≡ longest_prefix_within T (c ∷ (cs ++ d ∷ ds)) n = cond-false _ _ _ unmapped in
    omega (arith, shorter, longest_prefix_within-before T c cs d ds n none))
    (λ (within : n ≤ length cs). omega (arith, longest_prefix_within-le T (c ∷ (cs ++ d ∷ ds)) (suc n)))
    (cases_lt (length cs) n)

prefix_length-before : (T : TableMap) (p : Point) (ps : List Point) (d : Point) (more : List Point) → ContinuesNoString T d.cp → prefix_length T (p ∷ (ps ++ d ∷ more)) ≤ length (p ∷ ps)
prefix_length-before T p ps d more none =
    let parts : code_points (p ∷ (ps ++ d ∷ more)) ≡ p.cp ∷ (code_points ps ++ d.cp ∷ code_points more) = map-append (λ (q : Point). q.cp) (p ∷ ps) (d ∷ more) in
    let few = longest_prefix_within-before T p.cp (code_points ps) d.cp (code_points more) (length (p.cp ∷ (code_points ps ++ d.cp ∷ code_points more))) none in
    let same = ap (λ cs. longest_prefix_within T cs (length cs)) parts in
    omega (arith, few, same, length-map ps (λ (q : Point). q.cp))

-- `n` bounds how many points there are
units-before_within : (n : ℕ) (T : TableMap) (ps : List Point) (d : Point) (more : List Point) → length ps ≤ n → is_starter d ≡ true → ContinuesNoString T d.cp → units T (ps ++ d ∷ more) ≡ units T ps ++ units T (d ∷ more)
units-before_within n T [] d more few starter none = refl
units-before_within zero T (p ∷ ps) d more few starter none = absurd (omega arith)
units-before_within (suc n) T (p ∷ ps) d more few starter none =
    let same = first_unit-prefix T p ps d more starter (prefix_length-before T p ps d more none) in
    units-cons T p (ps ++ d ∷ more)
    ∙ ap (λ (cut : Cut). cut.unit ∷ units T cut.rest) same
    ∙ ap (λ us. (first_unit T p ps).unit ∷ us) (units-before_within n T (first_unit T p ps).rest d more (omega (arith, first_unit-shorter T p ps)) starter none)
    ∙ ap (λ us. us ++ units T (d ∷ more)) (sym (units-cons T p ps))

pub units-before_starter : (T : TableMap) (ps : List Point) (d : Point) (more : List Point) → is_starter d ≡ true → ContinuesNoString T d.cp → units T (ps ++ d ∷ more) ≡ units T ps ++ units T (d ∷ more)
units-before_starter T ps d more starter none = units-before_within (length ps) T ps d more (omega arith) starter none

-- ---- a last point that stands in no mapped string after the first place

units-last_within : (n : ℕ) (T : TableMap) (ps : List Point) (d : Point) → length ps ≤ n → ContinuesNoString T d.cp → units T (ps ++ d ∷ []) ≡ units T ps ++ units T (d ∷ [])
units-last_within n T [] d few none = refl
units-last_within zero T (p ∷ ps) d few none = absurd (omega arith)
units-last_within (suc n) T (p ∷ ps) d few none =
    let same = first_unit-last T p ps d none (prefix_length-before T p ps d [] none) in
    units-cons T p (ps ++ d ∷ [])
    ∙ ap (λ (cut : Cut). cut.unit ∷ units T cut.rest) same
    ∙ ap (λ us. (first_unit T p ps).unit ∷ us) (units-last_within n T (first_unit T p ps).rest d (omega (arith, first_unit-shorter T p ps)) none)
    ∙ ap (λ us. us ++ units T (d ∷ [])) (sym (units-cons T p ps))

pub units-last_point : (T : TableMap) (ps : List Point) (d : Point) → ContinuesNoString T d.cp → units T (ps ++ d ∷ []) ≡ units T ps ++ units T (d ∷ [])
units-last_point T ps d none = units-last_within (length ps) T ps d (omega arith) none
