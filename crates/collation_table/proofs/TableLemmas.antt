-- Laws of the look-ups of a table, and that a table which breaks none of the conditions is well formed.
use Rattle.std.proofs.Common.{◌≡◌, ℕ, zero, suc, ◌-◌, ◌<◌, ◌≤◌, min, max, Bool, true, false, not, ◌&&◌, ◌||◌, cond, List, [], ◌∷◌, ◌++◌, length, get_or, take, map, flat_map, Option, Some, None, is_some, refl, sym, ap, subst, ◌∙◌, arith, IsTrue, nat_le, nat_lt, bytes_eq, Contains, slice_index, ◌⊎◌, inl, inr}
use Rattle.std.specs.List.{list_any, AllByRecursion}
use Rattle.std.specs.Cmp.Lexicographic.{bytes_decides}
use Rattle.std.proofs.lemmas.Bool.{leb-false, lt-ltb, not-false, cases_lt, cases_Bool, or_parts}
use Rattle.collation_table.specs.declared.elements.Element.{Element}
use Rattle.collation_table.specs.declared.limits.TheConstants.{MOST_STRING_POINTS, MOST_ROW_ELEMENTS}
use Rattle.collation_table.specs.Table.{TableMap, HasSizes, row_with, is_mapped, longest_prefix_within, longest_prefix, longest_mapped, greatest, class_of}
use Rattle.collation_table.specs.WellFormed.{table_elements, HasElement, is_primary, is_secondary, is_tertiary, IsRowSound, AreLinesSound, IsWf2, IsWf4, IsWf5, IsWellFormed, breaks_wf2, breaks_wf4, breaks_wf5, lacks_prefix, is_empty_list, map_fault}

-- ---- tests

and_false_right : (a b : Bool) → (a && b) ≡ false → a ≡ true → b ≡ false
and_false_right true b h t = h
and_false_right false b h t = cc

so : (b : Bool) → IsTrue b → b ≡ true
so b h = h

true_is_so : (b : Bool) → b ≡ true → IsTrue b
true_is_so b h = h

cond_none : {X : Type 0} (b : Bool) (x : X) (o : Option X) → cond b (Some x) o ≡ None → (b ≡ false) × (o ≡ None)
cond_none true x o h = cc
cond_none false x o h = (refl, h)

any_false : {A : Type 0} (p : A → Bool) (xs : List A) (x : A) → list_any p xs ≡ false → Contains xs x → p x ≡ false
any_false p [] x h at = absurd (omega (arith, at.1))
any_false {A} p (y ∷ ys) x h at = by at.0 at.1 at.2 (or_parts (p y) (list_any p ys) h) (λ k. any_false p ys x (or_parts (p y) (list_any p ys) h).1 k)
  where
    by : (k : ℕ) → k < length (y ∷ ys) → get_or (y ∷ ys) k x ≡ x → (p y ≡ false) × (list_any p ys ≡ false) → (Contains ys x → p x ≡ false) → p x ≡ false
    by zero lt same parts rest = sym (ap p same) ∙ parts.0
    by (suc k) lt same parts rest = rest (k, omega arith, same)

any_append : {A : Type 0} (p : A → Bool) (xs ys : List A) → list_any p (xs ++ ys) ≡ false → (list_any p xs ≡ false) × (list_any p ys ≡ false)
any_append p [] ys h = (refl, h)
any_append p (x ∷ xs) ys h =
    let parts = or_parts (p x) (list_any p (xs ++ ys)) h in
    let rest = any_append p xs ys parts.1 in
    (ap (λ b. b || list_any p xs) parts.0 ∙ rest.0, rest.1)

-- ---- mapped strings

mapped_length : (string : List ℕ) (rows : List (List ℕ × List Element)) → is_some (row_with string rows) ≡ true → length string ≤ greatest (map (λ row. length row.0) rows)
mapped_length string [] h = cc
mapped_length string (row ∷ rows) h = by (bytes_eq string row.0) refl h (mapped_length string rows)
  where
    by : (b : Bool) → bytes_eq string row.0 ≡ b → is_some (cond b (Some row.1) (row_with string rows)) ≡ true → (is_some (row_with string rows) ≡ true → length string ≤ greatest (map (λ r. length r.0) rows)) → length string ≤ max (length row.0) (greatest (map (λ r. length r.0) rows))
    by true e found rest = omega (arith, ap length ((bytes_decides string row.0).0 e))
    by false e found rest = omega (arith, rest found)

-- a list longer than each mapped string is not mapped
long_not_mapped : (T : TableMap) (string : List ℕ) → longest_mapped T < length string → is_mapped T string ≡ false
long_not_mapped T string long = by (is_mapped T string) refl
  where
    by : (b : Bool) → is_mapped T string ≡ b → b ≡ false
    by true e = absurd (omega (arith, mapped_length string T.rows e))
    by false e = refl

-- ---- the longest prefix

pub prefix_skips : (T : TableMap) (points : List ℕ) (n : ℕ) → 0 < n → is_mapped T (take n points) ≡ false → longest_prefix_within T points (n - 1) ≡ longest_prefix_within T points n
prefix_skips T points zero lt not_mapped = absurd (omega arith)
prefix_skips T points (suc n) lt not_mapped =
    let one_less : suc n - 1 ≡ n = omega arith in
    ap (longest_prefix_within T points) one_less ∙ sym (ap (λ b. cond b (suc n) (longest_prefix_within T points n)) not_mapped)

pub prefix_found : (T : TableMap) (points : List ℕ) (n : ℕ) → 0 < n → is_mapped T (take n points) ≡ true → longest_prefix_within T points n ≡ n
prefix_found T points zero lt string = refl
prefix_found T points (suc n) lt string = ap (λ b. cond b (suc n) (longest_prefix_within T points n)) string

length_take : (n : ℕ) (xs : List ℕ) → n ≤ length xs → length (take n xs) ≡ n
length_take zero xs le = refl
length_take (suc n) [] le = absurd (omega arith)
length_take (suc n) (x ∷ xs) le = ap suc (length_take n xs (omega arith))

prefix_beyond : (T : TableMap) (points : List ℕ) (m n : ℕ) → n ≤ m → m ≤ length points → longest_mapped T ≤ n → longest_prefix_within T points n ≡ longest_prefix_within T points m
prefix_beyond T points zero n le within longest =
    let same : n ≡ 0 = omega arith in
    ap (longest_prefix_within T points) same
prefix_beyond T points (suc m) n le within longest = by (cases_lt m n) (prefix_beyond T points m n)
  where
    by : (m < n) ⊎ (n ≤ m) → (n ≤ m → m ≤ length points → longest_mapped T ≤ n → longest_prefix_within T points n ≡ longest_prefix_within T points m) → longest_prefix_within T points n ≡ longest_prefix_within T points (suc m)
    by (inl lt) rest =
        let same : n ≡ suc m = omega arith in
        ap (longest_prefix_within T points) same
    by (inr ge) rest =
        let long = length_take (suc m) points within in
        rest ge (omega arith) longest ∙ sym (ap (λ b. cond b (suc m) (longest_prefix_within T points m)) (long_not_mapped T (take (suc m) points) (omega (arith, long))))

-- no prefix longer than each mapped string need be tried
pub prefix_start : (T : TableMap) (points : List ℕ) (n : ℕ) → n ≡ min (length points) (longest_mapped T) → longest_prefix_within T points n ≡ longest_prefix T points
prefix_start T points n is = by (cases_lt (longest_mapped T) (length points))
  where
    by : (longest_mapped T < length points) ⊎ (length points ≤ longest_mapped T) → longest_prefix_within T points n ≡ longest_prefix T points
    by (inl lt) = prefix_beyond T points (length points) n (omega (arith, is)) (omega arith) (omega (arith, is))
    by (inr ge) =
        let same : n ≡ length points = omega (arith, is) in
        ap (longest_prefix_within T points) same

-- ---- rows

row_sound : (string : List ℕ) (row : List Element) (rows : List (List ℕ × List Element)) → AllByRecursion (λ r. IsRowSound r.0 r.1) rows → row_with string rows ≡ Some row → IsRowSound string row
row_sound string row [] all at = cc
row_sound string row (r ∷ rows) all at = by (bytes_eq string r.0) refl at (row_sound string row rows all.1)
  where
    by : (b : Bool) → bytes_eq string r.0 ≡ b → cond b (Some r.1) (row_with string rows) ≡ Some row → (row_with string rows ≡ Some row → IsRowSound string row) → IsRowSound string row
    by true e found rest =
        let same_row : r.1 ≡ row = cc in
        subst (λ l. IsRowSound string l) same_row (subst (λ k. IsRowSound k r.1) (sym ((bytes_decides string r.0).0 e)) all.0)
    by false e found rest = rest found

element_passes : (p : Element → Bool) (string : List ℕ) (row : List Element) (rows : List (List ℕ × List Element)) (e : Element)
    → list_any p (flat_map (λ r. r.1) rows) ≡ false → row_with string rows ≡ Some row → Contains row e → p e ≡ false
element_passes p string row [] e none at within = cc
element_passes p string row (r ∷ rows) e none at within = by (bytes_eq string r.0) at (any_append p r.1 (flat_map (λ q. q.1) rows) none) (λ h k. element_passes p string row rows e h k within)
  where
    by : (b : Bool) → cond b (Some r.1) (row_with string rows) ≡ Some row → (list_any p r.1 ≡ false) × (list_any p (flat_map (λ q. q.1) rows) ≡ false) → (list_any p (flat_map (λ q. q.1) rows) ≡ false → row_with string rows ≡ Some row → p e ≡ false) → p e ≡ false
    by true found parts rest =
        let same_row : r.1 ≡ row = cc in
        any_false p row e (sym (ap (list_any p) same_row) ∙ parts.0) within
    by false found parts rest = rest parts.1 found

-- what no element of the table passes, an element of the row of some mapped string does not
no_element : (T : TableMap) (p : Element → Bool) (e : Element) → list_any p (table_elements T) ≡ false → HasElement T e → p e ≡ false
no_element T p e none has = element_passes p has.0 has.1 T.rows e none has.2 has.3

pub no_such_string : (q : List ℕ → Bool) (string : List ℕ) (rows : List (List ℕ × List Element)) → list_any (λ row. q row.0) rows ≡ false → is_some (row_with string rows) ≡ true → q string ≡ false
no_such_string q string [] none at = cc
no_such_string q string (r ∷ rows) none at = by (bytes_eq string r.0) refl at (or_parts (q r.0) (list_any (λ row. q row.0) rows) none) (no_such_string q string rows)
  where
    by : (b : Bool) → bytes_eq string r.0 ≡ b → is_some (cond b (Some r.1) (row_with string rows)) ≡ true → (q r.0 ≡ false) × (list_any (λ row. q row.0) rows ≡ false) → (list_any (λ row. q row.0) rows ≡ false → is_some (row_with string rows) ≡ true → q string ≡ false) → q string ≡ false
    by true e found parts rest = ap q ((bytes_decides string r.0).0 e) ∙ parts.0
    by false e found parts rest = rest parts.1 found

-- ---- the conditions on the whole table

wf2_from_test : (T : TableMap) → breaks_wf2 T ≡ false → IsWf2 T
wf2_from_test T h =
    let es = table_elements T in
    let lighter_second : Element → Bool = λ s. is_secondary s && (nat_le s.w2 0x20 || list_any (λ p. is_primary p && nat_le s.w2 p.w2) es) in
    let lighter_third : Element → Bool = λ t. is_tertiary t && (nat_le t.w3 2 || list_any (λ p. (is_primary p || is_secondary p) && nat_le t.w3 p.w3) es) in
    let parts = or_parts (list_any lighter_second es) (list_any lighter_third es) h in
    let second : (s : Element) → HasElement T s → IsTrue (is_secondary s) → (nat_le s.w2 0x20 ≡ false) × (list_any (λ p. is_primary p && nat_le s.w2 p.w2) es ≡ false) = λ s has kind.
    or_parts _ _ (and_false_right (is_secondary s) _ (no_element T lighter_second s parts.0 has) (so (is_secondary s) kind)) in
    let third : (t : Element) → HasElement T t → IsTrue (is_tertiary t) → (nat_le t.w3 2 ≡ false) × (list_any (λ p. (is_primary p || is_secondary p) && nat_le t.w3 p.w3) es ≡ false) = λ t has kind.
    or_parts _ _ (and_false_right (is_tertiary t) _ (no_element T lighter_third t parts.1 has) (so (is_tertiary t) kind)) in
    record {
      secondary = λ s p has_s has_p kind_s kind_p.
          leb-false s.w2 p.w2 (and_false_right (is_primary p) _ (no_element T (λ q. is_primary q && nat_le s.w2 q.w2) p (second s has_s kind_s).1 has_p) (so (is_primary p) kind_p));
      secondary_implicit = λ s has kind. leb-false s.w2 0x20 (second s has kind).0;
      tertiary = λ t p has_t has_p kind_t kind_p.
          leb-false t.w3 p.w3 (and_false_right (is_primary p || is_secondary p) _ (no_element T (λ q. (is_primary q || is_secondary q) && nat_le t.w3 q.w3) p (third t has_t kind_t).1 has_p) (so (is_primary p || is_secondary p) kind_p));
      tertiary_implicit = λ t has kind. leb-false t.w3 2 (third t has kind).0;
    }

wf4_from_test : (T : TableMap) → breaks_wf4 T ≡ false → IsWf4 T
wf4_from_test T h p v w has_p has_v has_w kind plain var_v var_w above =
    let es = table_elements T in
    let low : Element → Bool = λ x. x.is_variable && nat_le x.w1 p.w1 in
    let high : Element → Bool = λ x. x.is_variable && nat_le p.w1 x.w1 in
    let between : (is_primary p && not p.is_variable && list_any low es && list_any high es) ≡ false =
    no_element T (λ q. is_primary q && not q.is_variable && list_any (λ x. x.is_variable && nat_le x.w1 q.w1) es && list_any (λ x. x.is_variable && nat_le q.w1 x.w1) es) p h has_p in
    by (cases_Bool (list_any low es)) (cases_Bool (list_any high es)) between
  where
    by : ((list_any (λ x. x.is_variable && nat_le x.w1 p.w1) (table_elements T) ≡ true) ⊎ (list_any (λ x. x.is_variable && nat_le x.w1 p.w1) (table_elements T) ≡ false))
        → ((list_any (λ x. x.is_variable && nat_le p.w1 x.w1) (table_elements T) ≡ true) ⊎ (list_any (λ x. x.is_variable && nat_le p.w1 x.w1) (table_elements T) ≡ false))
        → (is_primary p && not p.is_variable && list_any (λ x. x.is_variable && nat_le x.w1 p.w1) (table_elements T) && list_any (λ x. x.is_variable && nat_le p.w1 x.w1) (table_elements T)) ≡ false
        → w.w1 < p.w1
    by (inr none) _ between =
        let not_low = and_false_right v.is_variable (nat_le v.w1 p.w1) (no_element T (λ x. x.is_variable && nat_le x.w1 p.w1) v none has_v) var_v in
        absurd (omega (arith, leb-false v.w1 p.w1 not_low))
    by (inl some) (inr none) between =
        leb-false p.w1 w.w1 (and_false_right w.is_variable (nat_le p.w1 w.w1) (no_element T (λ x. x.is_variable && nat_le p.w1 x.w1) w none has_w) var_w)
    by (inl some) (inl other) between =
        let whole : (is_primary p && not p.is_variable && list_any (λ x. x.is_variable && nat_le x.w1 p.w1) (table_elements T) && list_any (λ x. x.is_variable && nat_le p.w1 x.w1) (table_elements T)) ≡ true =
        λ i. so (is_primary p) kind i && not (plain i) && some i && other i in
        let clash : true ≡ false = sym whole ∙ between in
        cc

wf5_from_test : (T : TableMap) → breaks_wf5 T ≡ false → IsWf5 T
wf5_from_test T h string is long class =
    let prefix = length string - 1 in
    let lacks = no_such_string (lacks_prefix T) string T.rows h (so (is_mapped T string) is) in
    let two : nat_lt 1 prefix ≡ true = lt-ltb 1 prefix (omega arith) in
    let mark : nat_lt 0 (class_of (slice_index string prefix)) ≡ true = lt-ltb 0 _ class in
    let both : (nat_lt 1 prefix && nat_lt 0 (class_of (slice_index string prefix))) ≡ true = λ i. two i && mark i in
    true_is_so (is_mapped T (take prefix string)) (not-false (is_mapped T (take prefix string)) (and_false_right (nat_lt 1 prefix && nat_lt 0 (class_of (slice_index string prefix))) (not (is_mapped T (take prefix string))) lacks both))

pub IsWellFormed-from_tests : (T : TableMap) → AreLinesSound T → map_fault T ≡ None → IsWellFormed T
IsWellFormed-from_tests T lines none =
    let some = cond_none (is_empty_list T.rows) 12 _ none in
    let wf2 = cond_none (breaks_wf2 T) 6 _ some.1 in
    let wf4 = cond_none (breaks_wf4 T) 8 _ wf2.1 in
    let wf5 = cond_none (breaks_wf5 T) 9 _ wf4.1 in
    record {
      distinct = lines.distinct;
      rows = λ string row at. row_sound string row T.rows lines.rows at;
      ranges = lines.ranges;
      wf2 = wf2_from_test T wf2.0;
      wf4 = wf4_from_test T wf4.0;
      wf5 = wf5_from_test T wf5.0;
    }

-- ---- sizes

strings_le : (rows : List (List ℕ × List Element)) → AllByRecursion (λ r. IsRowSound r.0 r.1) rows → greatest (map (λ row. length row.0) rows) ≤ MOST_STRING_POINTS
strings_le [] all = omega arith
strings_le (r ∷ rows) all = omega (arith, strings_le rows all.1, all.0.few_points)

elements_le : (rows : List (List ℕ × List Element)) → AllByRecursion (λ r. IsRowSound r.0 r.1) rows → greatest (map (λ row. length row.1) rows) ≤ MOST_ROW_ELEMENTS
elements_le [] all = omega arith
elements_le (r ∷ rows) all = omega (arith, elements_le rows all.1, all.0.few_elements)

some_mapped : (rows : List (List ℕ × List Element)) → AllByRecursion (λ r. IsRowSound r.0 r.1) rows → is_empty_list rows ≡ false → 1 ≤ greatest (map (λ row. length row.0) rows)
some_mapped [] all some = cc
some_mapped (r ∷ rows) all some = omega (arith, all.0.some_points)

pub HasSizes-from_lines : (T : TableMap) → AreLinesSound T → map_fault T ≡ None → HasSizes T
HasSizes-from_lines T lines none = record {
  some_mapped = some_mapped T.rows lines.rows (cond_none (is_empty_list T.rows) 12 _ none).0;
  string = strings_le T.rows lines.rows;
  pair = omega arith;
  row = omega (arith, elements_le T.rows lines.rows);
}
