-- Rows of which some are left out, rows that follow others, and the overlay of two tables.
use Rattle.std.proofs.Common.{◌≡◌, ℕ, zero, suc, ◌+◌, Bool, true, false, not, ◌||◌, cond, List, [], ◌∷◌, ◌++◌, take, drop, filter, slice_get, Option, Some, None, is_some, refl, sym, ap, ◌∙◌, append-nil, bytes_eq, length, arith}
use Rattle.std.proofs.lemmas.List.{drop_more, take_more}
use Rattle.std.proofs.lemmas.List.Elements.{filter-append}
use Rattle.std.proofs.lemmas.Option.{slice_get_within, get_or_from_slice_get}
use Rattle.std.specs.Cmp.Lexicographic.{bytes_decides}
use Rattle.std.specs.List.{list_any}
use Rattle.std.specs.Option.{option_or}
use Rattle.collation_table.specs.declared.elements.Element.{Element}
use Rattle.collation_table.specs.Table.{TableMap, row_with, row_of, is_mapped}
use Rattle.collation_table.specs.Overlay.{overlay, empty_table, OverlayLaws}
use Rattle.collation_table.proofs.TableLemmas.{no_such_string}

-- ---- a list at a place

pub drop-at : {X : Type 0} (xs : List X) (i : ℕ) (x : X) → slice_get xs i ≡ Some x → drop i xs ≡ x ∷ drop (i + 1) xs
drop-at xs i x at = drop_more xs i x (slice_get_within xs i x at) ∙ ap (λ y. y ∷ drop (i + 1) xs) (get_or_from_slice_get xs i x x at)

pub take-at : {X : Type 0} (xs : List X) (i : ℕ) (x : X) → slice_get xs i ≡ Some x → take (i + 1) xs ≡ take i xs ++ x ∷ []
take-at xs i x at = take_more xs i x (slice_get_within xs i x at) ∙ ap (λ y. take i xs ++ y ∷ []) (get_or_from_slice_get xs i x x at)

-- one row less to test
pub any-after : {X : Type 0} (p : X → Bool) (xs : List X) (i : ℕ) (x : X) (whole : Bool) → slice_get xs i ≡ Some x → p x ≡ false → list_any p (drop i xs) ≡ whole → list_any p (drop (i + 1) xs) ≡ whole
any-after p xs i x whole at off is = sym (ap (list_any p) (drop-at xs i x at) ∙ ap (λ b. b || list_any p (drop (i + 1) xs)) off) ∙ is

pub any-here : {X : Type 0} (p : X → Bool) (xs : List X) (i : ℕ) (x : X) (whole : Bool) → slice_get xs i ≡ Some x → p x ≡ true → list_any p (drop i xs) ≡ whole → true ≡ whole
any-here p xs i x whole at on is = sym (ap (list_any p) (drop-at xs i x at) ∙ ap (λ b. b || list_any p (drop (i + 1) xs)) on) ∙ is

-- ---- rows that are left out, by their strings

pub filter-at : {X : Type 0} (p : X → Bool) (xs : List X) (i : ℕ) (x : X) → slice_get xs i ≡ Some x → p x ≡ true → filter p (take (i + 1) xs) ≡ filter p (take i xs) ++ x ∷ []
filter-at p xs i x at on =
    ap (filter p) (take-at xs i x at) ∙ filter-append p (take i xs) (x ∷ []) ∙ ap (λ b. filter p (take i xs) ++ cond b (x ∷ []) []) on

pub filter-past : {X : Type 0} (p : X → Bool) (xs : List X) (i : ℕ) (x : X) → slice_get xs i ≡ Some x → p x ≡ false → filter p (take (i + 1) xs) ≡ filter p (take i xs)
filter-past p xs i x at off =
    ap (filter p) (take-at xs i x at) ∙ filter-append p (take i xs) (x ∷ []) ∙ ap (λ b. filter p (take i xs) ++ cond b (x ∷ []) []) off ∙ append-nil (filter p (take i xs))

pub row_with-kept : (p : List ℕ → Bool) (string : List ℕ) (rows : List (List ℕ × List Element)) → p string ≡ true → row_with string (filter (λ row. p row.0) rows) ≡ row_with string rows
row_with-kept p string [] is = refl
row_with-kept p string (r ∷ rows) is = by (p r.0) refl (bytes_eq string r.0) refl (row_with-kept p string rows is)
  where
    by : (a : Bool) → p r.0 ≡ a → (b : Bool) → bytes_eq string r.0 ≡ b → row_with string (filter (λ row. p row.0) rows) ≡ row_with string rows
        → row_with string (cond a (r ∷ filter (λ row. p row.0) rows) (filter (λ row. p row.0) rows)) ≡ cond b (Some r.1) (row_with string rows)
    by true e b f rest = λ i. cond (f i) (Some r.1) (rest i)
    by false e true f rest = let clash : true ≡ false = sym is ∙ ap p ((bytes_decides string r.0).0 f) ∙ e in cc
    by false e false f rest = rest

pub row_with-left_out : (p : List ℕ → Bool) (string : List ℕ) (rows : List (List ℕ × List Element)) → p string ≡ false → row_with string (filter (λ row. p row.0) rows) ≡ None
row_with-left_out p string [] is = refl
row_with-left_out p string (r ∷ rows) is = by (p r.0) refl (bytes_eq string r.0) refl (row_with-left_out p string rows is)
  where
    by : (a : Bool) → p r.0 ≡ a → (b : Bool) → bytes_eq string r.0 ≡ b → row_with string (filter (λ row. p row.0) rows) ≡ None
        → row_with string (cond a (r ∷ filter (λ row. p row.0) rows) (filter (λ row. p row.0) rows)) ≡ None
    by true e true f rest = let clash : true ≡ false = sym e ∙ sym (ap p ((bytes_decides string r.0).0 f)) ∙ is in cc
    by true e false f rest = ap (λ b. cond b (Some r.1) (row_with string (filter (λ row. p row.0) rows))) f ∙ rest
    by false e b f rest = rest

-- what passes no test is left whole
pub filter-whole : {X : Type 0} (p : X → Bool) (xs : List X) → list_any p xs ≡ false → filter (λ x. not (p x)) xs ≡ xs
filter-whole p [] none = refl
filter-whole {X} p (x ∷ xs) none = by (p x) none (filter-whole p xs)
  where
    by : (b : Bool) → (b || list_any p xs) ≡ false → (list_any p xs ≡ false → filter (λ y. not (p y)) xs ≡ xs) → cond (not b) (x ∷ filter (λ y. not (p y)) xs) (filter (λ y. not (p y)) xs) ≡ x ∷ xs
    by true h rest = cc
    by false h rest = ap (λ l. x ∷ l) (rest h)

-- nothing that is left passes the test
pub any-left : {X : Type 0} (p : X → Bool) (xs : List X) → list_any p (filter (λ x. not (p x)) xs) ≡ false
any-left p [] = refl
any-left {X} p (x ∷ xs) = by (p x) refl (any-left p xs)
  where
    by : (b : Bool) → p x ≡ b → list_any p (filter (λ y. not (p y)) xs) ≡ false → list_any p (cond (not b) (x ∷ filter (λ y. not (p y)) xs) (filter (λ y. not (p y)) xs)) ≡ false
    by true e rest = rest
    by false e rest = ap (λ b. b || list_any p (filter (λ y. not (p y)) xs)) e ∙ rest

-- ---- rows that follow others

pub row_with-append : (string : List ℕ) (xs ys : List (List ℕ × List Element)) → row_with string (xs ++ ys) ≡ option_or (row_with string xs) (row_with string ys)
row_with-append string [] ys = refl
row_with-append string (r ∷ xs) ys = by (bytes_eq string r.0) (row_with-append string xs ys)
  where
    by : (b : Bool) → row_with string (xs ++ ys) ≡ option_or (row_with string xs) (row_with string ys) → cond b (Some r.1) (row_with string (xs ++ ys)) ≡ option_or (cond b (Some r.1) (row_with string xs)) (row_with string ys)
    by true rest = refl
    by false rest = rest

mapped-at : (string : List ℕ) (row : List Element) (rows : List (List ℕ × List Element)) (i : ℕ) → slice_get rows i ≡ Some (string, row) → is_some (row_with string rows) ≡ true
mapped-at string row [] i at = cc
mapped-at string row (r ∷ rows) zero at =
    let same : r ≡ (string, row) = cc in
    ap (λ b. is_some (cond b (Some r.1) (row_with string rows))) ((bytes_decides string r.0).1 (sym (ap (λ (q : List ℕ × List Element). q.0) same)))
mapped-at string row (r ∷ rows) (suc i) at = by (bytes_eq string r.0) (mapped-at string row rows i at)
  where
    by : (b : Bool) → is_some (row_with string rows) ≡ true → is_some (cond b (Some r.1) (row_with string rows)) ≡ true
    by true rest = refl
    by false rest = rest

unmapped : (T : TableMap) (string : List ℕ) (rows : List (List ℕ × List Element)) → list_any (λ row. is_mapped T row.0) rows ≡ false → is_mapped T string ≡ true → row_with string rows ≡ None
unmapped T string rows apart is = by (row_with string rows) refl
  where
    by : (o : Option (List Element)) → row_with string rows ≡ o → o ≡ None
    by None e = refl
    by (Some row) e = let clash : true ≡ false = sym is ∙ no_such_string (is_mapped T) string rows apart (ap is_some e) in cc

-- the next row of the tailor is one more
pub absent-after : (T : TableMap) (rows : List (List ℕ × List Element)) (i : ℕ) (string : List ℕ) (row : List Element) → list_any (λ r. is_mapped T r.0) rows ≡ false
    → slice_get T.rows i ≡ Some (string, row) → row_with string (take i T.rows) ≡ None → is_some (row_with string (rows ++ take i T.rows)) ≡ false
absent-after T rows i string row apart at distinct =
    ap is_some (row_with-append string rows (take i T.rows) ∙ (λ j. option_or (unmapped T string rows apart (mapped-at string row T.rows i at) j) (distinct j)))

-- the next row that is kept is one more
pub absent-kept : (p : List ℕ → Bool) (rows : List (List ℕ × List Element)) (i : ℕ) (string : List ℕ) → p string ≡ true → row_with string (take i rows) ≡ None
    → is_some (row_with string (filter (λ row. p row.0) (take i rows))) ≡ false
absent-kept p rows i string is distinct = ap is_some (row_with-kept p string (take i rows) is ∙ distinct)

-- ---- the overlay

or_none : {X : Type 0} (o : Option X) → option_or o None ≡ o
or_none None = refl
or_none (Some x) = refl

pub overlay-rows : (base tailor : TableMap) (string : List ℕ) → row_of (overlay base tailor) string ≡ option_or (row_of tailor string) (row_of base string)
overlay-rows base tailor string = row_with-append string (filter (λ row. not (is_mapped tailor row.0)) base.rows) tailor.rows ∙ by (row_with string tailor.rows) refl
  where
    by : (o : Option (List Element)) → row_with string tailor.rows ≡ o → option_or (row_with string (filter (λ row. not (is_mapped tailor row.0)) base.rows)) (row_with string tailor.rows) ≡ option_or (row_with string tailor.rows) (row_with string base.rows)
    by None e =
        (λ i. option_or (row_with-kept (λ s. not (is_mapped tailor s)) string base.rows (ap (λ o. not (is_some o)) e) i) (e i))
        ∙ or_none (row_with string base.rows) ∙ ap (λ o. option_or o (row_with string base.rows)) (sym e)
    by (Some row) e =
        ap (λ o. option_or o (row_with string tailor.rows)) (row_with-left_out (λ s. not (is_mapped tailor s)) string base.rows (ap (λ o. not (is_some o)) e))
        ∙ e ∙ ap (λ o. option_or o (row_with string base.rows)) (sym e)

-- without rows no string is mapped
pub none_mapped : (T : TableMap) → length T.rows ≡ 0 → (rows : List (List ℕ × List Element)) → list_any (λ row. is_mapped T row.0) rows ≡ false
none_mapped T none [] = refl
none_mapped T none (r ∷ rows) = (λ i. is_some (row_with r.0 (nil T.rows none i)) || list_any (λ row. is_mapped T row.0) rows) ∙ none_mapped T none rows
  where
    nil : (l : List (List ℕ × List Element)) → length l ≡ 0 → l ≡ []
    nil [] is = refl
    nil (x ∷ xs) is = absurd (omega arith)

pub overlay-base : (base : TableMap) → overlay base empty_table ≡ base
overlay-base base = λ i. record {
  rows = (append-nil (filter (λ row. not (is_mapped empty_table row.0)) base.rows) ∙ filter-whole (λ row. is_mapped empty_table row.0) base.rows (none_mapped empty_table refl base.rows)) i;
  ranges = append-nil base.ranges i;
}

pub overlay_laws-hold : OverlayLaws
overlay_laws-hold = record { rows = overlay-rows; base_alone = overlay-base; tailor_alone = λ tailor. refl }
