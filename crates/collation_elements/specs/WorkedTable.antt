-- A small table for worked rows: Latin letters with a contraction and accents, a soft hyphen, a radical with a pair.
use Rattle.std.specs.Prelude.{ℕ, Bool, true, false, List, [], ◌∷◌}
use Rattle.collation_table.specs.declared.elements.Element.{Element}
use Rattle.collation_table.specs.Table.{TableMap}

abbrev pub element : Bool → ℕ → ℕ → ℕ → Element
element variable first second third = record { is_variable = variable; w1 = first; w2 = second; w3 = third }

-- a row with one element
abbrev pub row : List ℕ → Bool → ℕ → ℕ → ℕ → List ℕ × List Element
row key variable first second third = (key, element variable first second third ∷ [])

abbrev pub worked_table : TableMap
worked_table = record {
  ranges = [];
  rows =
      row (0x20 ∷ []) true 0x0201 0x20 2 ∷
      row (0x2D ∷ []) true 0x0202 0x20 2 ∷
      row (0x61 ∷ []) false 0x1C00 0x20 2 ∷
      row (0x41 ∷ []) false 0x1C00 0x20 8 ∷
      row (0x62 ∷ []) false 0x1C10 0x20 2 ∷
      row (0x63 ∷ []) false 0x1C20 0x20 2 ∷
      row (0x63 ∷ 0x68 ∷ []) false 0x1C28 0x20 2 ∷
      row (0x65 ∷ []) false 0x1C40 0x20 2 ∷
      row (0x68 ∷ []) false 0x1C50 0x20 2 ∷
      row (0x6D ∷ []) false 0x1C60 0x20 2 ∷
      row (0x72 ∷ []) false 0x1C70 0x20 2 ∷
      row (0x73 ∷ []) false 0x1C80 0x20 2 ∷
      row (0x75 ∷ []) false 0x1C90 0x20 2 ∷
      row (0x75 ∷ 0x301 ∷ []) false 0x1C98 0x20 2 ∷
      row (0x300 ∷ []) false 0 0x25 2 ∷
      row (0x301 ∷ []) false 0 0x24 2 ∷
      row (0x327 ∷ []) false 0 0x30 2 ∷
      row (0x20DD ∷ []) false 0 0x40 2 ∷
      row (0xAD ∷ []) false 0 0 0 ∷
      (0x2F00 ∷ [], element false 0xFB40 0x20 4 ∷ element false 0xCE00 0 0 ∷ []) ∷ [];
}
