-- The first unit of a list of points: what follows a starter after it changes nothing, and the other units are those of the
-- points that it leaves.
use Rattle.std.proofs.Common.{◌≡◌, ℕ, zero, suc, ◌<◌, ◌≤◌, max, nat_lt, nat_le, Bool, true, false, cond, ◌||◌, ◌&&◌, List, [], ◌∷◌, ◌++◌, length, take, drop, refl, sym, ◌∙◌, ap, ⊎_elim, arith, append_assoc, length-append, length-drop}
use Rattle.std.specs.List.{list_any}
use Rattle.std.proofs.lemmas.List.{append-nil, map-append, length-map, take-append-le, drop-append-le}
use Rattle.std.proofs.lemmas.Bool.{false≢true, cases_lt, or_cases, or_parts, and_parts, and_from, leb-true, le-leb, ltb-true, or_right}
use Rattle.nfd_points.specs.declared.points.Point.{Point}
use Rattle.nfd_points.specs.Points.{is_starter}
use Rattle.nfd_points.specs.Reordering.{is_closed}
use Rattle.collation_table.specs.Table.{TableMap, longest_prefix, longest_mapped}
use Rattle.collation_elements.specs.Units.{code_points, Cut, joins, extended, units, prefix_length}
use Rattle.collation_elements.specs.Windows.{Held, is_decided, next_cut}
use Rattle.collation_elements.proofs.Longest.{longest_prefix-append, longest_prefix-le_longest, prefix_length-le}
use Rattle.collation_elements.proofs.ContextUnits.{with_more, first_unit-shorter, units-cons}
use Rattle.collation_elements.proofs.LeftPoints.{rest-cond}

-- ---- a unit with what joins it

with_more-cond : (more : List Point) (s j : Bool) (stop taken left stop' taken' left' : Cut) → stop' ≡ with_more more stop → (s ≡ false → taken' ≡ with_more more taken) → (s ≡ false → left' ≡ with_more more left) → cond s stop' (cond j taken' left') ≡ with_more more (cond s stop (cond j taken left))
with_more-cond more true j stop taken left stop' taken' left' a b c = a
with_more-cond more false true stop taken left stop' taken' left' a b c = b refl
with_more-cond more false false stop taken left stop' taken' left' a b c = c refl

starter_later : (s later : Bool) → (s || later) ≡ true → s ≡ false → later ≡ true
starter_later true later h e = absurd (false≢true (sym e))
starter_later false later h e = h

-- the look at non-starters does not pass a starter
pub extended-append : (T : TableMap) (unit between following more : List Point) → list_any is_starter following ≡ true → extended T unit between (following ++ more) ≡ record { unit = (extended T unit between following).unit; rest = (extended T unit between following).rest ++ more }
extended-append T unit between [] more h = absurd (false≢true h)
extended-append T unit between (c ∷ following) more h =
    let stop : Cut = record { unit = unit; rest = between ++ c ∷ following } in
    let stop' : Cut = record { unit = unit; rest = between ++ c ∷ (following ++ more) } in
    let stops : stop' ≡ with_more more stop = ap (λ (rest : List Point). record { unit = unit; rest = rest }) (sym (append_assoc between (c ∷ following) more)) in
    with_more-cond more (is_starter c) (joins T unit between c) stop (extended T (unit ++ c ∷ []) between following) (extended T unit (between ++ c ∷ []) following) stop' (extended T (unit ++ c ∷ []) between (following ++ more)) (extended T unit (between ++ c ∷ []) (following ++ more)) stops
    (λ e. extended-append T (unit ++ c ∷ []) between following more (starter_later (is_starter c) (list_any is_starter following) h e))
    (λ e. extended-append T unit (between ++ c ∷ []) following more (starter_later (is_starter c) (list_any is_starter following) h e))

-- ---- where the last starter stands

is_closed-step : (p : Point) (ps : List Point) → 0 < length ps → is_closed (p ∷ ps) ≡ is_closed ps
unfolding is_closed
is_closed-step p [] h = absurd (omega arith)
is_closed-step p (q ∷ ps) h = refl

pub is_closed-append : (xs ys : List Point) → 0 < length ys → is_closed (xs ++ ys) ≡ is_closed ys
unfolding is_closed
is_closed-append [] ys h = refl
is_closed-append (x ∷ xs) ys h =
    is_closed-step x (xs ++ ys) (omega (arith, length-append xs ys)) ∙ is_closed-append xs ys h

pub is_closed-both : (xs ys : List Point) → is_closed xs ≡ true → is_closed ys ≡ true → is_closed (xs ++ ys) ≡ true
is_closed-both xs [] a b = ap is_closed (append-nil xs) ∙ a
is_closed-both xs (y ∷ ys) a b = is_closed-append xs (y ∷ ys) (omega arith) ∙ b

pub is_closed-drop : (n : ℕ) (ps : List Point) → is_closed ps ≡ true → is_closed (drop n ps) ≡ true
unfolding is_closed
is_closed-drop zero ps h = h
is_closed-drop (suc n) [] h = h
is_closed-drop (suc n) (p ∷ []) h = is_closed-drop n [] refl
is_closed-drop (suc n) (p ∷ q ∷ ps) h = is_closed-drop n (q ∷ ps) h

starter_there : (ps : List Point) → 0 < length ps → is_closed ps ≡ true → list_any is_starter ps ≡ true
unfolding is_closed
starter_there [] some h = absurd (omega arith)
starter_there (p ∷ []) some h = or_from_left (is_starter p) h where
  or_from_left : (s : Bool) → s ≡ true → (s || false) ≡ true
  or_from_left true e = refl
  or_from_left false e = e
starter_there (p ∷ q ∷ ps) some h = or_right (is_starter p) (list_any is_starter (q ∷ ps)) (starter_there (q ∷ ps) (omega arith) h)

some_there : (ps : List Point) → list_any is_starter ps ≡ true → 0 < length ps
some_there [] h = absurd (false≢true h)
some_there (p ∷ ps) h = omega arith

pub is_closed-extended : (T : TableMap) (unit between following : List Point) → list_any is_starter following ≡ true → is_closed (extended T unit between following).rest ≡ is_closed following
is_closed-extended T unit between [] h = absurd (false≢true h)
is_closed-extended T unit between (c ∷ following) h =
    let stop : Cut = record { unit = unit; rest = between ++ c ∷ following } in
    let later : is_starter c ≡ false → list_any is_starter following ≡ true = starter_later (is_starter c) (list_any is_starter following) h in
    let down : is_starter c ≡ false → is_closed following ≡ is_closed (c ∷ following) = λ e. sym (is_closed-step c following (some_there following (later e))) in
    rest-cond (λ ps. is_closed ps ≡ is_closed (c ∷ following)) (is_starter c) (joins T unit between c) stop (extended T (unit ++ c ∷ []) between following) (extended T unit (between ++ c ∷ []) following)
    (is_closed-append between (c ∷ following) (omega arith))
    (λ e. is_closed-extended T (unit ++ c ∷ []) between following (later e) ∙ down e)
    (λ e. is_closed-extended T unit (between ++ c ∷ []) following (later e) ∙ down e)

-- ---- the first unit, and the others

pub next_cut-of : (T : TableMap) (ps : List Point) → 0 < length ps → next_cut T ps ≡ extended T (take (prefix_length T ps) ps) [] (drop (prefix_length T ps) ps)
next_cut-of T [] h = absurd (omega arith)
next_cut-of T (p ∷ ps) h = refl

pub length-next_cut : (T : TableMap) (ps : List Point) → 0 < length ps → length (next_cut T ps).rest < length ps
length-next_cut T [] h = absurd (omega arith)
length-next_cut T (p ∷ ps) h = omega (arith, first_unit-shorter T p ps)

pub units-next_cut : (T : TableMap) (ps : List Point) → 0 < length ps → units T ps ≡ (next_cut T ps).unit ∷ units T (next_cut T ps).rest
units-next_cut T [] h = absurd (omega arith)
units-next_cut T (p ∷ ps) h = units-cons T p ps

-- ---- what follows changes nothing

pub next_cut-append : (T : TableMap) (ps more : List Point) → longest_mapped T ≤ length ps → list_any is_starter (drop (prefix_length T ps) ps) ≡ true → next_cut T (ps ++ more) ≡ record { unit = (next_cut T ps).unit; rest = (next_cut T ps).rest ++ more }
next_cut-append T ps more long starter =
    let n : ℕ = prefix_length T ps in
    let further : 0 < length (drop n ps) = some_there (drop n ps) starter in
    let some : 0 < length ps = omega (arith, length-drop n ps) in
    let inside : n ≤ length ps = prefix_length-le T ps some in
    let long_codes : longest_mapped T ≤ length (code_points ps) = omega (arith, length-map ps (λ p. p.cp)) in
    let same_prefix : longest_prefix T (code_points (ps ++ more)) ≡ longest_prefix T (code_points ps) = ap (longest_prefix T) (map-append (λ p. p.cp) ps more) ∙ longest_prefix-append T (code_points ps) (code_points more) long_codes in
    let same : prefix_length T (ps ++ more) ≡ n = ap (max 1) same_prefix in
    next_cut-of T (ps ++ more) (omega (arith, length-append ps more))
    ∙ ap (λ k. extended T (take k (ps ++ more)) [] (drop k (ps ++ more))) same
    ∙ ap (λ prefix. extended T prefix [] (drop n (ps ++ more))) (take-append-le n ps more inside)
    ∙ ap (extended T (take n ps) []) (drop-append-le n ps more inside)
    ∙ extended-append T (take n ps) [] (drop n ps) more starter
    ∙ ap (with_more more) (sym (next_cut-of T ps some))

abbrev Splits : TableMap → List Point → List Point → Type 0
Splits T ps more = units T (ps ++ more) ≡ (next_cut T ps).unit ∷ units T ((next_cut T ps).rest ++ more)

pub units-decided : (T : TableMap) (held : Held) (more : List Point) → is_decided T held ≡ true → (held.has_ended ≡ true → more ≡ []) → units T (held.points ++ more) ≡ (next_cut T held.points).unit ∷ units T ((next_cut T held.points).rest ++ more)
units-decided T held more decided last = ⊎_elim
    (λ (ended : (held.has_ended && nat_lt 0 (length held.points)) ≡ true).
    let parts : (held.has_ended ≡ true) × (nat_lt 0 (length held.points) ≡ true) = and_parts held.has_ended (nat_lt 0 (length held.points)) ended in
    let some : 0 < length held.points = ltb-true 0 (length held.points) parts.1 in
    let none : more ≡ [] = last parts.0 in
    ap (λ rest. units T (held.points ++ rest)) none
    ∙ ap (units T) (append-nil held.points)
    ∙ units-next_cut T held.points some
    ∙ ap (λ rest. (next_cut T held.points).unit ∷ units T rest) (sym (append-nil (next_cut T held.points).rest))
    ∙ ap (λ rest. (next_cut T held.points).unit ∷ units T ((next_cut T held.points).rest ++ rest)) (sym none))
    (λ (settled : (nat_le (longest_mapped T) (length held.points) && list_any is_starter (drop (prefix_length T held.points) held.points)) ≡ true).
    let parts : (nat_le (longest_mapped T) (length held.points) ≡ true) × (list_any is_starter (drop (prefix_length T held.points) held.points) ≡ true) = and_parts (nat_le (longest_mapped T) (length held.points)) (list_any is_starter (drop (prefix_length T held.points) held.points)) settled in
    let further : 0 < length (drop (prefix_length T held.points) held.points) = some_there (drop (prefix_length T held.points) held.points) parts.1 in
    let some : 0 < length held.points = omega (arith, length-drop (prefix_length T held.points) held.points) in
    let cut : next_cut T (held.points ++ more) ≡ record { unit = (next_cut T held.points).unit; rest = (next_cut T held.points).rest ++ more } = next_cut-append T held.points more (leb-true (longest_mapped T) (length held.points) parts.0) parts.1 in
    units-next_cut T (held.points ++ more) (omega (arith, length-append held.points more))
    ∙ ap (λ (c : Cut). c.unit ∷ units T c.rest) cut)
    (or_cases (held.has_ended && nat_lt 0 (length held.points)) (nat_le (longest_mapped T) (length held.points) && list_any is_starter (drop (prefix_length T held.points) held.points)) decided)

pub decided-some : (T : TableMap) (held : Held) → is_decided T held ≡ true → 0 < length held.points
decided-some T held decided = ⊎_elim
    (λ (ended : (held.has_ended && nat_lt 0 (length held.points)) ≡ true). ltb-true 0 (length held.points) (and_parts held.has_ended (nat_lt 0 (length held.points)) ended).1)
    (λ (settled : (nat_le (longest_mapped T) (length held.points) && list_any is_starter (drop (prefix_length T held.points) held.points)) ≡ true).
    let further : 0 < length (drop (prefix_length T held.points) held.points) = some_there (drop (prefix_length T held.points) held.points) (and_parts (nat_le (longest_mapped T) (length held.points)) (list_any is_starter (drop (prefix_length T held.points) held.points)) settled).1 in
    omega (arith, length-drop (prefix_length T held.points) held.points))
    (or_cases (held.has_ended && nat_lt 0 (length held.points)) (nat_le (longest_mapped T) (length held.points) && list_any is_starter (drop (prefix_length T held.points) held.points)) decided)

-- ---- how many points stay

pub length-undecided : (T : TableMap) (held : Held) → 1 ≤ longest_mapped T → is_decided T held ≡ false → is_closed held.points ≡ true → length held.points ≤ longest_mapped T
length-undecided T held some_mapped undecided ends = ⊎_elim
    (λ (many : longest_mapped T < length held.points).
    let n : ℕ = prefix_length T held.points in
    let short : n ≤ longest_mapped T = omega (arith, longest_prefix-le_longest T (code_points held.points)) in
    let starter : list_any is_starter (drop n held.points) ≡ true = starter_there (drop n held.points) (omega (arith, length-drop n held.points)) (is_closed-drop n held.points ends) in
    let there : (nat_le (longest_mapped T) (length held.points) && list_any is_starter (drop n held.points)) ≡ true = and_from (nat_le (longest_mapped T) (length held.points)) (list_any is_starter (drop n held.points)) (le-leb (longest_mapped T) (length held.points) (omega arith)) starter in
    let no : (nat_le (longest_mapped T) (length held.points) && list_any is_starter (drop n held.points)) ≡ false = (or_parts (held.has_ended && nat_lt 0 (length held.points)) (nat_le (longest_mapped T) (length held.points) && list_any is_starter (drop n held.points)) undecided).1 in
    absurd (false≢true (sym no ∙ there)))
    (λ (few : length held.points ≤ longest_mapped T). few)
    (cases_lt (longest_mapped T) (length held.points))

pub is_closed-decided : (T : TableMap) (held : Held) → is_decided T held ≡ true → held.has_ended ≡ false → is_closed held.points ≡ true → is_closed (next_cut T held.points).rest ≡ true
is_closed-decided T held decided unended ends = ⊎_elim
    (λ (ended : (held.has_ended && nat_lt 0 (length held.points)) ≡ true). absurd (false≢true (sym unended ∙ (and_parts held.has_ended (nat_lt 0 (length held.points)) ended).0)))
    (λ (settled : (nat_le (longest_mapped T) (length held.points) && list_any is_starter (drop (prefix_length T held.points) held.points)) ≡ true).
    let n : ℕ = prefix_length T held.points in
    let starter : list_any is_starter (drop n held.points) ≡ true = (and_parts (nat_le (longest_mapped T) (length held.points)) (list_any is_starter (drop n held.points)) settled).1 in
    ap (λ (cut : Cut). is_closed cut.rest) (next_cut-of T held.points (decided-some T held decided))
    ∙ is_closed-extended T (take n held.points) [] (drop n held.points) starter
    ∙ is_closed-drop n held.points ends)
    (or_cases (held.has_ended && nat_lt 0 (length held.points)) (nat_le (longest_mapped T) (length held.points) && list_any is_starter (drop (prefix_length T held.points) held.points)) decided)
