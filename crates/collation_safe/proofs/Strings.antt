-- What a safe code point says of the mapped strings, and what the rows say of one.
use Rattle.std.proofs.Common.{◌≡◌, ◌≢◌, ◌⊎◌, ℕ, suc, ◌<◌, Bool, true, false, cond, not, ◌==◌, ◌&&◌, ◌||◌, List, [], ◌∷◌, ◌++◌, length, take, map, find, get_or, slice_get, unwrap_or, Option, Some, None, is_some, bytes_eq, refl, sym, ap, ◌∙◌, inl, inr, arith}
use Rattle.std.proofs.lemmas.Bool.{cases_Bool, cases_lt, false≢true, false_from_ne_true, and_parts, and_from, or_left, or_right, or_parts, not-false, eq-eqb, eqb-true, lt-ltb, le-ltb}
use Rattle.std.proofs.lemmas.Slice.Eq.{bytes_eq-Decides}
use Rattle.std.specs.List.{list_all, list_any}
use Rattle.nfd_points.specs.declared.points.Point.{Point}
use Rattle.collation_table.specs.declared.elements.Element.{Element}
use Rattle.collation_table.specs.declared.ranges.ImplicitRange.{ImplicitRange}
use Rattle.collation_table.specs.Table.{TableMap, ContinuesNoString, row_with, row_of, is_in, is_mapped, implicit_pair, implicit_weights, implicit_weights_in}
use Rattle.collation_table.specs.Unsafe.{begins_with, is_behind_first, is_unsafe, is_unsafe_by, lacks_primary}
use Rattle.collation_table.specs.WellFormed.{AreStringsDistinct, IsWellFormed}
use Rattle.collation_elements.specs.Elements.{begins_primary}
use Rattle.collation_pattern.proofs.ReadableTexts.{base_between, range_base}
use Rattle.collation_matches.proofs.BridgeLists.{In, in_right, any_in, in_any, in_map, map_in}
use Rattle.collation_safe.specs.Safe.{strings, is_primary, alone, is_safe_code_point, begins_safely}

abbrev MappedRows : Type 0
MappedRows = List (List ℕ × List Element)

-- ---- mapped strings

mapped-step : (string : List ℕ) (row : List ℕ × List Element) (rows : MappedRows) (b : Bool) → bytes_eq string row.0 ≡ b → is_some (cond b (Some row.1) (row_with string rows)) ≡ true →
    (is_some (row_with string rows) ≡ true → In (map (λ r. r.0) rows) string) → In (map (λ r. r.0) (row ∷ rows)) string
mapped-step string row rows true same found rest = inl (sym ((bytes_eq-Decides string row.0).0 same))
mapped-step string row rows false same found rest = inr (rest found)

mapped-among : (string : List ℕ) (rows : MappedRows) → is_some (row_with string rows) ≡ true → In (map (λ r. r.0) rows) string
mapped-among string [] found = absurd (false≢true found)
mapped-among string (row ∷ rows) found = mapped-step string row rows (bytes_eq string row.0) refl found (mapped-among string rows)

pub mapped-in : (T : TableMap) (string : List ℕ) → is_mapped T string ≡ true → In (strings T) string
mapped-in T string found = mapped-among string T.rows found

among-step : (string : List ℕ) (row : List ℕ × List Element) (rows : MappedRows) (b : Bool) → bytes_eq string row.0 ≡ b → (row.0 ≡ string) ⊎ (is_some (row_with string rows) ≡ true) →
    is_some (cond b (Some row.1) (row_with string rows)) ≡ true
among-step string row rows true same h = refl
among-step string row rows false same (inl here) = absurd (false≢true (sym same ∙ (bytes_eq-Decides string row.0).1 (sym here)))
among-step string row rows false same (inr later) = later

among-mapped : (string : List ℕ) (rows : MappedRows) → In (map (λ r. r.0) rows) string → is_some (row_with string rows) ≡ true
among-mapped string [] h = absurd h
among-mapped string (row ∷ rows) (inl here) = among-step string row rows (bytes_eq string row.0) refl (inl here)
among-mapped string (row ∷ rows) (inr later) = among-step string row rows (bytes_eq string row.0) refl (inr (among-mapped string rows later))

pub in-mapped : (T : TableMap) (string : List ℕ) → In (strings T) string → is_mapped T string ≡ true
in-mapped T string h = among-mapped string T.rows h

-- ---- tests of all of a list

pub all-in : {A : Type 0} (p : A → Bool) (xs : List A) (x : A) → list_all p xs ≡ true → In xs x → p x ≡ true
all-in p [] x h i = absurd i
all-in p (y ∷ ys) x h (inl e) = ap p (sym e) ∙ (and_parts (p y) (list_all p ys) h).0
all-in p (y ∷ ys) x h (inr i) = all-in p ys x (and_parts (p y) (list_all p ys) h).1 i

pub all-from : {A : Type 0} (p : A → Bool) (xs : List A) → ((x : A) → In xs x → p x ≡ true) → list_all p xs ≡ true
all-from p [] h = refl
all-from p (y ∷ ys) h = and_from (p y) (list_all p ys) (h y (inl refl)) (all-from p ys (λ x i. h x (inr i)))

not_true : (b : Bool) → not b ≡ true → b ≡ false
not_true true h = absurd (false≢true h)
not_true false h = refl

not_false : (b : Bool) → b ≡ false → not b ≡ true
not_false true h = absurd (false≢true (sym h))
not_false false h = refl

-- ---- what a safe code point says

module _ (T : TableMap) (cp : ℕ) where
  abbrev behind : Bool
  behind = list_any (is_behind_first cp) (strings T)

  abbrev all_primary : Bool
  all_primary = list_all (λ string. not (begins_with cp string) || is_primary T string) (strings T)

  stands-behind : (first : ℕ) (prefix rest : List ℕ) → is_behind_first cp (first ∷ (prefix ++ cp ∷ rest)) ≡ true
  stands-behind first prefix rest = in_any (λ later. later == cp) (prefix ++ cp ∷ rest) cp (in_right prefix (cp ∷ rest) cp (inl refl)) (eq-eqb cp cp refl)

  none-behind : behind ≡ false → ContinuesNoString T cp
  none-behind none first prefix rest =
      let string = first ∷ (prefix ++ cp ∷ rest) in
      false_from_ne_true (is_mapped T string) (λ mapped. false≢true (sym none ∙ in_any (is_behind_first cp) (strings T) string (mapped-in T string mapped) (stands-behind first prefix rest)))

  pub safe-continues : is_safe_code_point T cp ≡ true → ContinuesNoString T cp
  safe-continues safe =
      let most = (and_parts (not behind && all_primary) (begins_primary (alone T cp)) safe).0 in
      none-behind (not_true behind (and_parts (not behind) all_primary most).0)

  pub safe-alone : is_safe_code_point T cp ≡ true → begins_primary (alone T cp) ≡ true
  safe-alone safe = (and_parts (not behind && all_primary) (begins_primary (alone T cp)) safe).1

  -- each mapped string that begins with it has a primary weight first
  pub safe-mapped : (rest : List ℕ) → is_safe_code_point T cp ≡ true → is_mapped T (cp ∷ rest) ≡ true → is_primary T (cp ∷ rest) ≡ true
  safe-mapped rest safe mapped =
      let most = (and_parts (not behind && all_primary) (begins_primary (alone T cp)) safe).0 in
      let all = (and_parts (not behind) all_primary most).1 in
      let test = all-in (λ string. not (begins_with cp string) || is_primary T string) (strings T) (cp ∷ rest) all (mapped-in T (cp ∷ rest) mapped) in
      sym (ap (λ b. not b || is_primary T (cp ∷ rest)) (eq-eqb cp cp refl)) ∙ test

-- ---- what the rows say of a code point

lacks-primary : (row : List Element) → lacks_primary row ≡ not (begins_primary row)
lacks-primary [] = refl
lacks-primary (e ∷ es) =
    elim (cases_lt 0 e.w1) [
      | inl some ↦ let clash : e.w1 ≢ 0 = omega (arith, some) in false_from_ne_true (e.w1 == 0) (λ h. clash (eqb-true e.w1 0 h)) ∙ sym (ap not (lt-ltb 0 e.w1 some))
      | inr none ↦ eq-eqb e.w1 0 (omega (arith, none)) ∙ sym (ap not (le-ltb 0 e.w1 none))
    ]

lacks-false : (row : List Element) → lacks_primary row ≡ false → begins_primary row ≡ true
lacks-false row h = not-false (begins_primary row) (sym (lacks-primary row) ∙ h)

lacks-true : (row : List Element) → lacks_primary row ≡ true → begins_primary row ≡ false
lacks-true row h = not_true (begins_primary row) (sym (lacks-primary row) ∙ h)

-- a row that is found is one of the rows
found-step : (string : List ℕ) (row : List Element) (r : List ℕ × List Element) (rows : MappedRows) (b : Bool) → bytes_eq string r.0 ≡ b → cond b (Some r.1) (row_with string rows) ≡ Some row →
    (row_with string rows ≡ Some row → In rows (string, row)) → In (r ∷ rows) (string, row)
found-step string row r rows true same found rest =
    let there : r.1 ≡ row = cc in inl (λ i. (sym ((bytes_eq-Decides string r.0).0 same) i, there i))
found-step string row r rows false same found rest = inr (rest found)

found-among : (string : List ℕ) (row : List Element) (rows : MappedRows) → row_with string rows ≡ Some row → In rows (string, row)
found-among string row [] found = cc
found-among string row (r ∷ rows) found = found-step string row r rows (bytes_eq string r.0) refl found (found-among string row rows)

-- and where no string stands twice, each row is found by its string
at-place : (rows : MappedRows) (row : List ℕ × List Element) → In rows row → (k : ℕ) × (slice_get rows k ≡ Some row)
at-place [] row i = absurd i
at-place (r ∷ rows) row (inl here) = (0, ap Some here)
at-place (r ∷ rows) row (inr later) = let rest = at-place rows row later in (suc rest.0, rest.1)

none-parts : (b : Bool) (row : List Element) (rest : Option (List Element)) → cond b (Some row) rest ≡ None → (b ≡ false) × (rest ≡ None)
none-parts true row rest h = cc
none-parts false row rest h = (refl, h)

among-found : (rows : MappedRows) → AreStringsDistinct rows → (row : List ℕ × List Element) → In rows row → row_with row.0 rows ≡ Some row.1
among-found [] distinct row i = absurd i
among-found (r ∷ rows) distinct row (inl here) =
    ap (λ (q : List ℕ × List Element). row_with q.0 (r ∷ rows)) (sym here)
    ∙ ap (λ b. cond b (Some r.1) (row_with r.0 rows)) ((bytes_eq-Decides r.0 r.0).1 refl)
    ∙ ap (λ (q : List ℕ × List Element). Some q.1) here
among-found (r ∷ rows) distinct row (inr later) =
    let at = at-place rows row later in
    let other = none-parts (bytes_eq row.0 r.0) r.1 (row_with row.0 (take at.0 rows)) (distinct (suc at.0) row at.1) in
    let rest : AreStringsDistinct rows = λ k q there. (none-parts (bytes_eq q.0 r.0) r.1 (row_with q.0 (take k rows)) (distinct (suc k) q there)).1 in
    ap (λ b. cond b (Some r.1) (row_with row.0 rows)) other.0 ∙ among-found rows rest row later

-- an implicit pair has a primary weight first
weighs-some : (T : TableMap) (wf : IsWellFormed T) (cp : ℕ) (found : Option ImplicitRange) → find (is_in cp) T.ranges ≡ found → 0 < (implicit_weights_in T.ranges cp found).0
weighs-some T wf cp (Some r) found = let base = range_base T wf (is_in cp) r found in omega (arith, base.0)
weighs-some T wf cp None found = let base = base_between cp in omega (arith, base.0)

implicit-primary : (T : TableMap) (wf : IsWellFormed T) (cp : ℕ) → begins_primary (implicit_pair T cp) ≡ true
implicit-primary T wf cp = lt-ltb 0 (implicit_weights T cp).0 (weighs-some T wf cp (find (is_in cp) T.ranges) refl)

module _ (T : TableMap) (wf : IsWellFormed T) (cp : ℕ) where
  -- ---- where no row makes it unsafe

  module _ (none : is_unsafe T cp ≡ false) where
    not-by : (row : List ℕ × List Element) → In T.rows row → is_unsafe_by cp row ≡ false
    not-by row i = false_from_ne_true (is_unsafe_by cp row) (λ h. false≢true (sym none ∙ in_any (is_unsafe_by cp) T.rows row i h))

    none-behind-it : behind T cp ≡ false
    none-behind-it =
        false_from_ne_true (behind T cp) (λ some.
        let a = any_in (is_behind_first cp) (strings T) some in
        let row = in_map (λ (r : List ℕ × List Element). r.0) T.rows a.0 a.1 in
        let here = ap (is_behind_first cp) row.2 ∙ a.2 in
        false≢true (sym (not-by row.0 row.1) ∙ or_left (is_behind_first cp row.0.0) (begins_with cp row.0.0 && lacks_primary row.0.1) here))

    primary-row : (string : List ℕ) (row : List Element) → In T.rows (string, row) → begins_with cp string ≡ true → begins_primary row ≡ true
    primary-row string row i begins =
        let parts = or_parts (is_behind_first cp string) (begins_with cp string && lacks_primary row) (not-by (string, row) i) in
        lacks-false row (sym (ap (λ b. b && lacks_primary row) begins) ∙ parts.1)

    primary-found : (string : List ℕ) (o : Option (List Element)) → row_of T string ≡ o → is_some o ≡ true → begins_with cp string ≡ true → begins_primary (unwrap_or o []) ≡ true
    primary-found string None found some begins = absurd (false≢true some)
    primary-found string (Some row) found some begins = primary-row string row (found-among string row T.rows found) begins

    string-primary : (string : List ℕ) → In (strings T) string → (not (begins_with cp string) || is_primary T string) ≡ true
    string-primary string i =
        elim (cases_Bool (begins_with cp string)) [
          | inl begins ↦ or_right (not (begins_with cp string)) (is_primary T string) (primary-found string (row_of T string) refl (in-mapped T string i) begins)
          | inr other ↦ or_left (not (begins_with cp string)) (is_primary T string) (not_false (begins_with cp string) other)
        ]

    alone-primary : (o : Option (List Element)) → row_of T (cp ∷ []) ≡ o → begins_primary (unwrap_or o (implicit_pair T cp)) ≡ true
    alone-primary None found = implicit-primary T wf cp
    alone-primary (Some row) found = primary-row (cp ∷ []) row (found-among (cp ∷ []) row T.rows found) (eq-eqb cp cp refl)

    safe-from : is_safe_code_point T cp ≡ true
    safe-from =
        let all = all-from (λ string. not (begins_with cp string) || is_primary T string) (strings T) string-primary in
        and_from (not (behind T cp) && all_primary T cp) (begins_primary (alone T cp)) (and_from (not (behind T cp)) (all_primary T cp) (not_false (behind T cp) none-behind-it) all) (alone-primary (row_of T (cp ∷ [])) refl)

  -- ---- where one does

  unsafe-from : is_unsafe T cp ≡ true → is_safe_code_point T cp ≡ true → ⊥
  unsafe-from some safe =
      let a = any_in (is_unsafe_by cp) T.rows some in
      let row = a.0 in
      let most = (and_parts (not (behind T cp) && all_primary T cp) (begins_primary (alone T cp)) safe).0 in
      let both = and_parts (not (behind T cp)) (all_primary T cp) most in
      let among = map_in (λ (r : List ℕ × List Element). r.0) T.rows row a.1 in
      elim (cases_Bool (is_behind_first cp row.0)) [
        | inl here ↦ false≢true (sym (not_true (behind T cp) both.0) ∙ in_any (is_behind_first cp) (strings T) row.0 among here)
        | inr other ↦
            let first = and_parts (begins_with cp row.0) (lacks_primary row.1) (sym (ap (λ b. b || (begins_with cp row.0 && lacks_primary row.1)) other) ∙ a.2) in
            let test = all-in (λ string. not (begins_with cp string) || is_primary T string) (strings T) row.0 both.1 among in
            let primary : is_primary T row.0 ≡ true = sym (ap (λ b. not b || is_primary T row.0) first.0) ∙ test in
            let found = among-found T.rows wf.distinct row a.1 in
            false≢true (sym (lacks-true row.1 first.1) ∙ ap (λ (o : Option (List Element)). begins_primary (unwrap_or o [])) (sym found) ∙ primary)
      ]

  -- so it is safe exactly where none does
  pub safe-is : not (is_unsafe T cp) ≡ is_safe_code_point T cp
  safe-is =
      elim (cases_Bool (is_unsafe T cp)) [
        | inl some ↦ ap not some ∙ sym (false_from_ne_true (is_safe_code_point T cp) (unsafe-from some))
        | inr none ↦ ap not none ∙ sym (safe-from none)
      ]

-- ---- characters

-- the first point of a decomposition tells it, where that is a starter
pub first-safe : (T : TableMap) (wf : IsWellFormed T) (ps : List Point) (d : Point) → 0 < length ps → (get_or ps 0 d).ccc ≡ 0 → not (is_unsafe T (get_or ps 0 d).cp) ≡ begins_safely T ps
first-safe T wf [] d some starter = absurd (omega arith)
first-safe T wf (p ∷ ps) d some starter = safe-is T wf p.cp ∙ sym (ap (λ b. b && is_safe_code_point T p.cp) (eq-eqb p.ccc 0 starter))
