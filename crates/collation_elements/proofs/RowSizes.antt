-- A row that is found has no more elements than the largest row of its table.
use Rattle.std.proofs.Common.{◌≡◌, ℕ, ◌≤◌, List, [], ◌∷◌, map, length, Some, sym, ◌∙◌, ap, arith, inl, inr}
use Rattle.std.proofs.lemmas.Bool.{cases_Bool, cond-true, cond-false}
use Rattle.std.proofs.lemmas.Option.{none-some, same_Some}
use Rattle.std.specs.Prelude.{bytes_eq}
use Rattle.collation_table.specs.declared.elements.Element.{Element}
use Rattle.collation_table.specs.declared.limits.TheConstants.{MOST_ROW_ELEMENTS}
use Rattle.collation_table.specs.Table.{TableMap, HasSizes, row_of, row_with, greatest}

row_with-few : (string : List ℕ) (rows : List (List ℕ × List Element)) (row : List Element) → row_with string rows ≡ Some row → length row ≤ greatest (map (λ r. length r.1) rows)
row_with-few string [] row h = absurd (none-some row h)
row_with-few string (r ∷ rows) row h =
    elim (cases_Bool (bytes_eq string r.0)) [
      | inl same ↦ let is : r.1 ≡ row = same_Some r.1 row (sym (cond-true _ _ _ same) ∙ h) in omega (arith, ap length is)
      | inr other ↦ omega (arith, row_with-few string rows row (sym (cond-false _ _ _ other) ∙ h))
    ]

pub row_of-few : (T : TableMap) (string : List ℕ) (row : List Element) → HasSizes T → row_of T string ≡ Some row → length row ≤ MOST_ROW_ELEMENTS
row_of-few T string row sizes h = omega (arith, row_with-few string T.rows row h, sizes.row)
