-- Lemmas on the rows of a table as places in its vectors, and on the index that answers by them.
use Rattle.std.proofs.Common.{◌≡◌, ℕ, zero, suc, ◌+◌, ◌-◌, ◌<◌, ◌≤◌, max, Bool, true, false, cond, ◌||◌, get_or, List, [], ◌∷◌, ◌++◌, length, take, drop, map, flat_map, Option, Some, None, is_some, option_map, refl, sym, ap, subst, ◌∙◌, arith, bytes_eq, slice_get, length-append, append_assoc}
use Rattle.std.proofs.lemmas.Option.{slice_get-map, slice_get_read}
use Rattle.std.proofs.lemmas.List.{take-append-le, length-map}
use Rattle.std.specs.List.{AllByRecursion, list_any}
use Rattle.std.proofs.lemmas.List.{drop_more}
use Rattle.std.specs.Cmp.Lexicographic.{bytes_decides}
use Rattle.collation_table.specs.declared.elements.Element.{Element}
use Rattle.collation_table.specs.declared.pages.Place.{Place}
use Rattle.collation_table.specs.declared.rows.RowPlaces.{RowPlaces}
use Rattle.collation_table.specs.Entries.{part, rows_at, IsWithin, IsIndexed}
use Rattle.collation_table.specs.Table.{row_with, greatest}
use Rattle.collation_table.proofs.RowLemmas.{AllByRecursion-push, none_of}

-- ---- places

drop-append : {X : Type 0} (i : ℕ) (xs ys : List X) → i ≤ length xs → drop i (xs ++ ys) ≡ drop i xs ++ ys
drop-append zero xs ys le = refl
drop-append (suc i) [] ys le = absurd (omega arith)
drop-append (suc i) (x ∷ xs) ys le = drop-append i xs ys (omega arith)

drop-length : {X : Type 0} (i : ℕ) (xs : List X) → i ≤ length xs → length (drop i xs) ≡ length xs - i
drop-length zero xs le = omega arith
drop-length (suc i) [] le = absurd (omega arith)
drop-length (suc i) (x ∷ xs) le = let rest : length (drop i xs) ≡ length xs - i = drop-length i xs (omega arith) in omega arith

drop-all : {X : Type 0} (i : ℕ) (xs : List X) → i ≡ length xs → drop i xs ≡ []
drop-all zero [] is = refl
drop-all zero (x ∷ xs) is = absurd (omega arith)
drop-all (suc i) [] is = absurd (omega arith)
drop-all (suc i) (x ∷ xs) is = drop-all i xs (omega arith)

take-whole : {X : Type 0} (n : ℕ) (xs : List X) → n ≡ length xs → take n xs ≡ xs
take-whole zero [] is = refl
take-whole zero (x ∷ xs) is = absurd (omega arith)
take-whole (suc n) [] is = absurd (omega arith)
take-whole (suc n) (x ∷ xs) is = ap (λ l. x ∷ l) (take-whole n xs (omega arith))

-- what lies within stays where more is appended
pub part-append : {X : Type 0} (xs ys : List X) (p : Place) → p.start ≤ p.end → p.end ≤ length xs → part (xs ++ ys) p ≡ part xs p
part-append xs ys p le within =
    ap (take (p.end - p.start)) (drop-append p.start xs ys (omega arith)) ∙ take-append-le (p.end - p.start) (drop p.start xs) ys (omega (arith, drop-length p.start xs (omega arith)))

-- what was appended lies at the end
pub part-end : {X : Type 0} (xs ys : List X) (p : Place) → p.start ≡ length xs → p.end ≡ length (xs ++ ys) → part (xs ++ ys) p ≡ ys
part-end xs ys p start end =
    ap (take (p.end - p.start)) (drop-append p.start xs ys (omega arith) ∙ ap (λ l. l ++ ys) (drop-all p.start xs start)) ∙ take-whole (p.end - p.start) ys (omega (arith, length-append xs ys))

pub rows_at-append : (points more : List ℕ) (elements others : List Element) (places : List RowPlaces) → AllByRecursion (IsWithin points elements) places → rows_at (points ++ more) (elements ++ others) places ≡ rows_at points elements places
rows_at-append points more elements others [] all = refl
rows_at-append points more elements others (r ∷ places) all =
    λ i. (part-append points more r.string all.0.string all.0.string_end i, part-append elements others r.row all.0.row all.0.row_end i) ∷ rows_at-append points more elements others places all.1 i

pub map-push : {X Y : Type 0} (f : X → Y) (xs : List X) (x : X) → map f (xs ++ x ∷ []) ≡ map f xs ++ f x ∷ []
map-push f [] x = refl
map-push f (y ∷ xs) x = ap (λ l. f y ∷ l) (map-push f xs x)

pub rows_at-push : (points string : List ℕ) (elements row : List Element) (places : List RowPlaces) (r : RowPlaces) → AllByRecursion (IsWithin points elements) places
    → r.string.start ≡ length points → r.string.end ≡ length (points ++ string) → r.row.start ≡ length elements → r.row.end ≡ length (elements ++ row)
    → rows_at (points ++ string) (elements ++ row) (places ++ r ∷ []) ≡ rows_at points elements places ++ (string, row) ∷ []
rows_at-push points string elements row places r all ks ke rs re =
    map-push (λ (q : RowPlaces). (part (points ++ string) q.string, part (elements ++ row) q.row)) places r
    ∙ (λ i. rows_at-append points string elements row places all i ++ (part-end points string r.string ks ke i, part-end elements row r.row rs re i) ∷ [])

-- a row lies where its places say
pub rows_at-place : (points : List ℕ) (elements : List Element) (places : List RowPlaces) (i : ℕ) (r : RowPlaces) → i < length (rows_at points elements places) → r ≡ get_or places i r
    → slice_get (rows_at points elements places) i ≡ Some (part points r.string, part elements r.row)
rows_at-place points elements places i r lt is =
    slice_get-map (λ (q : RowPlaces). (part points q.string, part elements q.row)) places i
    ∙ ap (option_map (λ (q : RowPlaces). (part points q.string, part elements q.row))) (slice_get_read places (length places) i r refl (omega (arith, length-map {B = List ℕ × List Element} places (λ (q : RowPlaces). (part points q.string, part elements q.row)))) is)

all_within : (points more : List ℕ) (elements others : List Element) (places : List RowPlaces) → AllByRecursion (IsWithin points elements) places → AllByRecursion (IsWithin (points ++ more) (elements ++ others)) places
all_within points more elements others [] all = tt
all_within points more elements others (r ∷ places) all =
    (record { string = all.0.string; string_end = omega (arith, length-append points more, all.0.string_end); row = all.0.row; row_end = omega (arith, length-append elements others, all.0.row_end) }, all_within points more elements others places all.1)

-- ---- one row more

pub row_with-push_here : (string : List ℕ) (row : List Element) (rows : List (List ℕ × List Element)) → row_with string rows ≡ None → row_with string (rows ++ (string, row) ∷ []) ≡ Some row
row_with-push_here string row [] none = ap (λ b. cond b (Some row) None) ((bytes_decides string string).1 refl)
row_with-push_here string row (r ∷ rows) none = by (bytes_eq string r.0) none (row_with-push_here string row rows)
  where
    by : (b : Bool) → cond b (Some r.1) (row_with string rows) ≡ None → (row_with string rows ≡ None → row_with string (rows ++ (string, row) ∷ []) ≡ Some row) → cond b (Some r.1) (row_with string (rows ++ (string, row) ∷ [])) ≡ Some row
    by true h rest = cc
    by false h rest = rest h

pub row_with-push_other : (string new : List ℕ) (row : List Element) (rows : List (List ℕ × List Element)) → bytes_eq string new ≡ false → row_with string (rows ++ (new, row) ∷ []) ≡ row_with string rows
row_with-push_other string new row [] other = ap (λ b. cond b (Some row) None) other
row_with-push_other string new row (r ∷ rows) other = ap (cond (bytes_eq string r.0) (Some r.1)) (row_with-push_other string new row rows other)

flat_map-push : (rows : List (List ℕ × List Element)) (r : List ℕ × List Element) → flat_map (λ row. row.1) (rows ++ r ∷ []) ≡ flat_map (λ row. row.1) rows ++ r.1
flat_map-push [] r = nil r.1
  where
    nil : (l : List Element) → l ++ [] ≡ [] ++ l
    nil [] = refl
    nil (x ∷ xs) = ap (λ l. x ∷ l) (nil xs)
flat_map-push (q ∷ rows) r = ap (λ l. q.1 ++ l) (flat_map-push rows r) ∙ sym (append_assoc q.1 (flat_map (λ row. row.1) rows) r.1)

greatest-push : {X : Type 0} (f : X → ℕ) (xs : List X) (x : X) → greatest (map f (xs ++ x ∷ [])) ≡ max (greatest (map f xs)) (f x)
greatest-push f [] x = omega arith
greatest-push f (y ∷ xs) x = let rest : greatest (map f (xs ++ x ∷ [])) ≡ max (greatest (map f xs)) (f x) = greatest-push f xs x in omega arith

same_part : (elements others : List Element) (o : Option Place) → ((p : Place) → o ≡ Some p → (p.start ≤ p.end) × (p.end ≤ length elements)) → option_map (part (elements ++ others)) o ≡ option_map (part elements) o
same_part elements others None lent = refl
same_part elements others (Some p) lent = ap Some (part-append elements others p (lent p refl).0 (lent p refl).1)

pub IsIndexed-push : (points string : List ℕ) (elements row : List Element) (places : List RowPlaces) (r : RowPlaces) (find next : List ℕ → Option Place) (longest largest : ℕ)
    → IsIndexed points elements places find longest largest → is_some (row_with string (rows_at points elements places)) ≡ false
    → r.string.start ≡ length points → r.string.end ≡ length (points ++ string) → r.row.start ≡ length elements → r.row.end ≡ length (elements ++ row)
    → next string ≡ Some r.row → ((q : List ℕ) → ((q ≡ string) → ⊥) → next q ≡ find q)
    → IsIndexed (points ++ string) (elements ++ row) (places ++ r ∷ []) next (max longest (length string)) (max largest (length row))
IsIndexed-push points string elements row places r find next longest largest was absent ks ke rs re here others = record {
  within = AllByRecursion-push (IsWithin (points ++ string) (elements ++ row)) places r (all_within points string elements row places was.within)
      (record { string = omega (arith, length-append points string); string_end = omega arith; row = omega (arith, length-append elements row); row_end = omega arith });
  all = ap (flat_map (λ q. q.1)) rows ∙ flat_map-push (rows_at points elements places) (string, row) ∙ ap (λ l. l ++ row) was.all;
  found = λ q. found q (bytes_eq q string) refl;
  lent = λ q p has. lent q p has (bytes_eq q string) refl;
  longest_is = ap (λ n. max n (length string)) was.longest_is ∙ sym (greatest-push (λ (q : List ℕ × List Element). length q.0) (rows_at points elements places) (string, row)) ∙ ap (λ l. greatest (map (λ q. length q.0) l)) (sym rows);
  largest_is = ap (λ n. max n (length row)) was.largest_is ∙ two (greatest (map (λ q. length q.1) (rows_at points elements places))) (length row)
      ∙ ap (max 2) (sym (greatest-push (λ (q : List ℕ × List Element). length q.1) (rows_at points elements places) (string, row)) ∙ ap (λ l. greatest (map (λ q. length q.1) l)) (sym rows));
}
  where
    rows : rows_at (points ++ string) (elements ++ row) (places ++ r ∷ []) ≡ rows_at points elements places ++ (string, row) ∷ []
    rows = rows_at-push points string elements row places r was.within ks ke rs re

    two : (a b : ℕ) → max (max 2 a) b ≡ max 2 (max a b)
    two a b = omega arith

    differs : (q : List ℕ) → bytes_eq q string ≡ false → (q ≡ string) → ⊥
    differs q off same = let clash : true ≡ false = sym ((bytes_decides q string).1 same) ∙ off in cc

    found : (q : List ℕ) (b : Bool) → bytes_eq q string ≡ b → option_map (part (elements ++ row)) (next q) ≡ row_with q (rows_at (points ++ string) (elements ++ row) (places ++ r ∷ []))
    found q true is =
        let same : q ≡ string = (bytes_decides q string).0 is in
        ap (λ l. option_map (part (elements ++ row)) (next l)) same ∙ ap (option_map (part (elements ++ row))) here ∙ ap Some (part-end elements row r.row rs re)
        ∙ sym (row_with-push_here string row (rows_at points elements places) (none_of (row_with string (rows_at points elements places)) absent)) ∙ ap (λ l. row_with l (rows_at points elements places ++ (string, row) ∷ [])) (sym same) ∙ ap (row_with q) (sym rows)
    found q false is =
        ap (option_map (part (elements ++ row))) (others q (differs q is)) ∙ same_part elements row (find q) (was.lent q) ∙ was.found q
        ∙ sym (row_with-push_other q string row (rows_at points elements places) is) ∙ ap (row_with q) (sym rows)

    lent : (q : List ℕ) (p : Place) → next q ≡ Some p → (b : Bool) → bytes_eq q string ≡ b → (p.start ≤ p.end) × (p.end ≤ length (elements ++ row))
    lent q p has true is =
        let same : q ≡ string = (bytes_decides q string).0 is in
        let there : r.row ≡ p = some_is r.row p (sym here ∙ ap next (sym same) ∙ has) in
        subst (λ (x : Place). (x.start ≤ x.end) × (x.end ≤ length (elements ++ row))) there (omega (arith, length-append elements row), omega arith)
      where
        some_is : (x y : Place) → Some x ≡ Some y → x ≡ y
        some_is x y h = cc
    lent q p has false is =
        let old = was.lent q p (sym (others q (differs q is)) ∙ has) in
        (old.0, omega (arith, old.1, length-append elements row))

-- without rows
pub IsIndexed-none : (find : List ℕ → Option Place) → ((string : List ℕ) → find string ≡ None) → IsIndexed [] [] [] find 0 2
IsIndexed-none find none = record {
  within = tt;
  all = refl;
  found = λ string. ap (option_map (part [])) (none string);
  lent = λ string p has. let clash : None ≡ Some p = sym (none string) ∙ has in cc;
  longest_is = refl;
  largest_is = refl;
}

-- ---- what the index finds

is_some-map : {X Y : Type 0} (f : X → Y) (o : Option X) → is_some (option_map f o) ≡ is_some o
is_some-map f None = refl
is_some-map f (Some x) = refl

pub found_string : (points : List ℕ) (elements : List Element) (places : List RowPlaces) (find : List ℕ → Option Place) (longest largest : ℕ) → IsIndexed points elements places find longest largest
    → (string : List ℕ) → is_some (row_with string (rows_at points elements places)) ≡ is_some (find string)
found_string points elements places find longest largest indexed string = ap is_some (sym (indexed.found string)) ∙ is_some-map (part elements) (find string)

pub is_some-none : {X : Type 0} (o : Option X) → o ≡ None → is_some o ≡ false
is_some-none o none = ap is_some none

-- one row less to test
pub any-rest : (q : List ℕ → Bool) (points : List ℕ) (elements : List Element) (places : List RowPlaces) (i : ℕ) (d : RowPlaces) (whole : Bool) → i < length places → q (part points (get_or places i d).string) ≡ false
    → list_any (λ row. q row.0) (rows_at points elements (drop i places)) ≡ whole → list_any (λ row. q row.0) (rows_at points elements (drop (i + 1) places)) ≡ whole
any-rest q points elements places i d whole lt off is =
    sym (ap (λ l. list_any (λ row. q row.0) (rows_at points elements l)) (drop_more places i d lt)
    ∙ ap (λ b. b || list_any (λ row. q row.0) (rows_at points elements (drop (i + 1) places))) off) ∙ is
