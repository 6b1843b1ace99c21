-- Lemmas on the rows of a table, as the map inside `Rows` holds them.
use Rattle.std.proofs.Common.{◌≡◌, ℕ, zero, suc, Bool, true, false, cond, List, [], ◌∷◌, ◌++◌, length, take, get_or, nat_lt, ◌||◌, ◌<◌, arith, Option, Some, None, is_some, slice_get, refl, sym, ap, subst, ◌∙◌, ◌⊎◌, inl, inr}
use Rattle.std.specs.List.{AllByRecursion}
use Rattle.std.proofs.lemmas.Option.{slice_get_within}
use Rattle.std.proofs.lemmas.Bool.{or_parts, ltb-false}
use Rattle.std.specs.List.{list_any}
use Rattle.collation_table.specs.declared.limits.TheConstants.{MOST_STRING_POINTS, MOST_ROW_ELEMENTS}
use Rattle.collation_table.specs.Table.{TableMap, row_with, is_mapped}
use Rattle.collation_table.specs.Faults.{entry_kind, is_beyond_unicode}
use Rattle.std.proofs.Math.Nat.{le_of_lt}
use Rattle.std.proofs.Math.Seq.{take-append_seam}
use Rattle.std.proofs.lemmas.List.{take-append-le}
use Rattle.collation_table.specs.declared.elements.Element.{Element}
use Rattle.collation_table.specs.declared.ranges.ImplicitRange.{ImplicitRange}
use Rattle.collation_table.specs.WellFormed.{AreStringsDistinct, AreRangesSound, breaks_ranges, breaks_wf1, breaks_wf3, breaks_pair_rule, IsRowSound}

-- ---- one row more, one range more

pub AllByRecursion-push : {X : Type 0} (P : X → Type 0) (xs : List X) (x : X) → AllByRecursion P xs → P x → AllByRecursion P (xs ++ x ∷ [])
AllByRecursion-push P [] x all p = (p, tt)
AllByRecursion-push P (y ∷ ys) x all p = (all.0, AllByRecursion-push P ys x all.1 p)

slice_get_push : {X : Type 0} (xs : List X) (y : X) (k : ℕ) (x : X) → slice_get (xs ++ y ∷ []) k ≡ Some x → (slice_get xs k ≡ Some x) ⊎ ((k ≡ length xs) × (y ≡ x))
slice_get_push [] y zero x at = inr (refl, cc)
slice_get_push [] y (suc k) x at = cc
slice_get_push (z ∷ zs) y zero x at = inl at
slice_get_push (z ∷ zs) y (suc k) x at = by (slice_get_push zs y k x at)
  where
    by : (slice_get zs k ≡ Some x) ⊎ ((k ≡ length zs) × (y ≡ x)) → (slice_get zs k ≡ Some x) ⊎ ((suc k ≡ suc (length zs)) × (y ≡ x))
    by (inl found) = inl found
    by (inr last) = inr (ap suc last.0, last.1)

pub AreRangesSound-push : (rs : List ImplicitRange) (r : ImplicitRange) → AreRangesSound rs → breaks_ranges rs r ≡ false → AreRangesSound (rs ++ r ∷ [])
AreRangesSound-push rs r sound ok = λ k s at. by k s (slice_get_push rs r k s at)
  where
    by : (k : ℕ) (s : ImplicitRange) → (slice_get rs k ≡ Some s) ⊎ ((k ≡ length rs) × (r ≡ s)) → breaks_ranges (take k (rs ++ r ∷ [])) s ≡ false
    by k s (inl found) =
        rw (take-append-le k rs (r ∷ []) (le_of_lt (slice_get_within rs k s found))) (sound k s found)
    by k s (inr last) =
        let whole : take k (rs ++ r ∷ []) ≡ rs =
        ap (λ n. take n (rs ++ r ∷ [])) last.0 ∙ take-append_seam rs (r ∷ []) in
        ap (λ l. breaks_ranges l s) whole ∙ ap (breaks_ranges rs) (sym last.1) ∙ ok

pub none_of : {X : Type 0} (o : Option X) → is_some o ≡ false → o ≡ None
none_of None h = refl
none_of (Some x) h = cc

pub AreStringsDistinct-push : (rows : List (List ℕ × List Element)) (string : List ℕ) (row : List Element) → AreStringsDistinct rows → is_some (row_with string rows) ≡ false → AreStringsDistinct (rows ++ (string, row) ∷ [])
AreStringsDistinct-push rows string row distinct absent = λ k r at. by k r (slice_get_push rows (string, row) k r at)
  where
    by : (k : ℕ) (r : List ℕ × List Element) → (slice_get rows k ≡ Some r) ⊎ ((k ≡ length rows) × ((string, row) ≡ r)) → row_with r.0 (take k (rows ++ (string, row) ∷ [])) ≡ None
    by k r (inl found) =
        rw (take-append-le k rows ((string, row) ∷ []) (le_of_lt (slice_get_within rows k r found))) (distinct k r found)
    by k r (inr last) =
        let whole : take k (rows ++ (string, row) ∷ []) ≡ rows =
        ap (λ n. take n (rows ++ (string, row) ∷ [])) last.0 ∙ take-append_seam rows ((string, row) ∷ []) in
        ap (row_with r.0) whole ∙ ap (λ (q : List ℕ × List Element). row_with q.0 rows) (sym last.1) ∙ none_of (row_with string rows) absent

-- what holds of each holds of the one at a place
pub AllByRecursion-at : {X : Type 0} (P : X → Type 0) (xs : List X) (k : ℕ) (x : X) → AllByRecursion P xs → slice_get xs k ≡ Some x → P x
AllByRecursion-at P [] k x all at = cc
AllByRecursion-at P (y ∷ ys) zero x all at = let same : y ≡ x = cc in subst P same all.0
AllByRecursion-at P (y ∷ ys) (suc k) x all at = AllByRecursion-at P ys k x all.1 at

-- ---- a line that is right

kind_none : (test : Bool) (kind : ℕ) (rest : Option ℕ) → cond test (Some kind) rest ≡ None → (test ≡ false) × (rest ≡ None)
kind_none true kind rest none = cc
kind_none false kind rest none = (refl, none)

any_at : (string : List ℕ) (k d : ℕ) → list_any is_beyond_unicode string ≡ false → k < length string → get_or string k d < 0x110000
any_at [] k d none lt = absurd (omega arith)
any_at (x ∷ string) k d none lt = by k lt (or_parts (is_beyond_unicode x) (list_any is_beyond_unicode string) none) (λ n. any_at string n d)
  where
    by : (k : ℕ) → k < length (x ∷ string) → (is_beyond_unicode x ≡ false) × (list_any is_beyond_unicode string ≡ false) → ((n : ℕ) → list_any is_beyond_unicode string ≡ false → n < length string → get_or string n d < 0x110000) → get_or (x ∷ string) k d < 0x110000
    by zero lt parts rest = omega (arith, ltb-false 0x10FFFF x parts.0)
    by (suc n) lt parts rest = rest n parts.1 (omega arith)

pub IsRowSound-from_kind : (T : TableMap) (string : List ℕ) (row : List Element) → 0 < length string → 0 < length row → entry_kind T string row ≡ None → IsRowSound string row
IsRowSound-from_kind T string row points elements none =
    let beyond = kind_none (list_any is_beyond_unicode string) 2 _ none in
    let twice = kind_none (is_mapped T string) 3 _ beyond.1 in
    let long = kind_none (nat_lt MOST_STRING_POINTS (length string) || nat_lt MOST_ROW_ELEMENTS (length row)) 4 _ twice.1 in
    let wf1 = kind_none (breaks_wf1 row) 5 _ long.1 in
    let wf3 = kind_none (breaks_wf3 row) 7 _ wf1.1 in
    let pairs = kind_none (breaks_pair_rule row) 10 _ wf3.1 in
    let sizes = or_parts (nat_lt MOST_STRING_POINTS (length string)) (nat_lt MOST_ROW_ELEMENTS (length row)) long.0 in
    record {
      some_points = points;
      few_points = ltb-false MOST_STRING_POINTS (length string) sizes.0;
      points = λ k d lt. any_at string k d beyond.0 lt;
      some_elements = elements;
      few_elements = ltb-false MOST_ROW_ELEMENTS (length row) sizes.1;
      wf1 = wf1.0;
      wf3 = wf3.0;
      pairs = pairs.0;
    }
