-- Moves over the bytes of a piece: one more, one run after another, and what a cursor says then.
use Rattle.std.proofs.Common.{◌≡◌, ◌∙◌, ◌⊎◌, inl, inr, ℕ, ◌+◌, ◌-◌, ◌<◌, ◌≤◌, Bool, true, false, nat_lt, cond, List, [], ◌∷◌, ◌++◌, length, take, drop, slice_index, Option, Some, None, refl, sym, ap, subst, arith}
use Rattle.std.specs.Prelude.{slice_range}
use Rattle.std.proofs.Math.Seq.{take-add}
use Rattle.std.proofs.lemmas.Bool.{cases_lt, lt-ltb, ltb-true}
use Rattle.std.proofs.lemmas.Option.{same_Some}
use Rattle.std.proofs.lemmas.List.{drop-drop, get_or-drop, get_or-take}
use Rattle.std.proofs.lemmas.List.Edits.{between_more, between_none}
use Rattle.byte_dfa.specs.declared.moves.Cursor.{Cursor}
use Rattle.byte_dfa.specs.declared.cells.TheConstants.{UNKNOWN_CELL}
use Rattle.byte_dfa.specs.declared.moves.TheConstants.{STOP}
use Rattle.byte_dfa.specs.Moves.{Accepts, Follows, HasRow, IsCursor, IsSpot, IsTable, MovesLead, cell_of, place, row_after}

-- a cell of the column from a byte on
pub cell-column : (cells : List ℕ) (byte row : ℕ) → row + byte < length cells → slice_index (take (length cells - byte) (drop byte cells)) row ≡ slice_index cells (row + byte)
cell-column cells byte row within =
    let there : row < length cells - byte = omega (arith, within) in
    let turned : byte + row ≡ row + byte = omega arith in
    get_or-take (length cells - byte) (drop byte cells) row 0 there ∙ get_or-drop byte cells row 0 ∙ ap (λ n. slice_index cells n) turned

-- ---- the row behind some bytes

went-on : (b : Bool) (o : Option ℕ) (row : ℕ) → cond b o None ≡ Some row → (b ≡ true) × (o ≡ Some row)
went-on true o row h = (refl, h)
went-on false o row h = cc

-- the first of some moves, and the others
pub row_after-first : (cells : List ℕ) (row to byte : ℕ) (bytes : List ℕ) → row_after cells row (byte ∷ bytes) ≡ Some to → (STOP < cell_of cells row byte) × (row_after cells (cell_of cells row byte) bytes ≡ Some to)
row_after-first cells row to byte bytes h =
    let cell = cell_of cells row byte in
    let w = went-on (nat_lt STOP cell) (row_after cells cell bytes) to h in (ltb-true STOP cell w.0, w.1)

-- more bytes lead on from the row behind the first ones
pub row_after-append : (cells : List ℕ) (row mid : ℕ) (xs ys : List ℕ) → row_after cells row xs ≡ Some mid → row_after cells row (xs ++ ys) ≡ row_after cells mid ys
row_after-append cells row mid [] ys h = ap (λ n. row_after cells n ys) (same_Some row mid h)
row_after-append cells row mid (x ∷ xs) ys h =
    let cell = cell_of cells row x in
    let w = went-on (nat_lt STOP cell) (row_after cells cell xs) mid h in
    ap (λ b. cond b (row_after cells cell (xs ++ ys)) None) w.0 ∙ row_after-append cells cell mid xs ys w.1

row_after-one : (cells : List ℕ) (row byte cell : ℕ) → cell ≡ cell_of cells row byte → STOP < cell → row_after cells row (byte ∷ []) ≡ Some cell
row_after-one cells row byte cell is some =
    ap (λ b. cond b (Some (cell_of cells row byte)) None) (lt-ltb _ _ (subst (λ n. STOP < n) is some)) ∙ ap (λ (n : ℕ). Some n) (sym is)

-- ---- moves between two places

joined : (xs : List ℕ) (a b c : ℕ) → a ≤ b → b ≤ c → slice_range xs a c ≡ slice_range xs a b ++ slice_range xs b c
joined xs a b c ab bc =
    let all : c - a ≡ (b - a) + (c - b) = omega (arith, ab, bc) in
    let mid : a + (b - a) ≡ b = omega (arith, ab) in
    ap (λ n. take n (drop a xs)) all ∙ take-add (b - a) (c - b) (drop a xs) ∙ ap (λ (l : List ℕ). take (b - a) (drop a xs) ++ take (c - b) l) (drop-drop (b - a) a xs ∙ ap (λ n. drop n xs) mid)

-- no move
pub leads-none : (cells piece : List ℕ) (at row : ℕ) → IsSpot cells piece at row → MovesLead cells piece at row at row
leads-none cells piece at row spot = record { on = omega arith; spot = spot; moves = ap (row_after cells row) (between_none piece at) }

-- one move more
pub leads-more : (cells piece : List ℕ) (at row to mid cell : ℕ) → IsTable cells → to < length piece → slice_index piece to < 256 → cell ≡ cell_of cells mid (slice_index piece to) → STOP < cell → MovesLead cells piece at row to mid →
    MovesLead cells piece at row (to + 1) cell
leads-more cells piece at row to mid cell table within byte is some h =
    let on = h.on in
    let here = h.spot.has_row in
    let b = slice_index piece to in
    record {
      on = omega (arith, on);
      spot = record {
        within = omega (arith, within);
        has_row = subst (HasRow cells) (sym is) (table.rows (place mid b) 0 (omega (arith, here, byte)));
      };
      moves = ap (row_after cells row) (between_more piece at to 0 on within) ∙ row_after-append cells row mid (slice_range piece at to) (b ∷ []) h.moves ∙ row_after-one cells mid b cell is some;
    }

-- one move
pub leads-one : (cells piece : List ℕ) (at row cell : ℕ) → IsTable cells → at < length piece → slice_index piece at < 256 → cell ≡ cell_of cells row (slice_index piece at) → STOP < cell → IsSpot cells piece at row → MovesLead cells piece at row (at + 1) cell
leads-one cells piece at row cell table within byte is some spot = leads-more cells piece at row at row cell table within byte is some (leads-none cells piece at row spot)

-- moves after others
pub leads-on : (cells piece : List ℕ) (at row mid mid_row to to_row : ℕ) → MovesLead cells piece at row mid mid_row → MovesLead cells piece mid mid_row to to_row → MovesLead cells piece at row to to_row
leads-on cells piece at row mid mid_row to to_row g h =
    let first = g.on in
    let second = h.on in
    record {
      on = omega (arith, first, second);
      spot = h.spot;
      moves = ap (row_after cells row) (joined piece at mid to first second) ∙ row_after-append cells row mid_row (slice_range piece at mid) (slice_range piece mid to) g.moves ∙ h.moves;
    }

-- the same place and row
pub leads-same : (cells piece : List ℕ) (at row to to_row other other_row : ℕ) → other ≡ to → other_row ≡ to_row → MovesLead cells piece at row to to_row → MovesLead cells piece at row other other_row
leads-same cells piece at row to to_row other other_row same same_row h = subst (λ n. MovesLead cells piece at row n other_row) (sym same) (subst (MovesLead cells piece at row to) (sym same_row) h)

-- the same beginning
pub leads-from : (cells piece : List ℕ) (at row other other_row to to_row : ℕ) → other ≡ at → other_row ≡ row → MovesLead cells piece at row to to_row → MovesLead cells piece other other_row to to_row
leads-from cells piece at row other other_row to to_row same same_row h =
    subst (λ n. MovesLead cells piece n other_row to to_row) (sym same) (subst (λ n. MovesLead cells piece at n to to_row) (sym same_row) h)

-- ---- moves that may have come to a stop on the way

abbrev pub MayLead : List ℕ → List ℕ → ℕ → ℕ → ℕ → ℕ → Type 0
MayLead cells piece at row to now = (now ≤ STOP) × HasRow cells now ⊎ MovesLead cells piece at row to now

pub may-none : (cells piece : List ℕ) (at row to : ℕ) → to ≡ at → IsSpot cells piece at row → MayLead cells piece at row to row
may-none cells piece at row to same spot = inr (leads-same cells piece at row at row to row same refl (leads-none cells piece at row spot))

-- the cells of the row are there
pub may-row : (cells piece : List ℕ) (at row to now : ℕ) → MayLead cells piece at row to now → HasRow cells now
may-row cells piece at row to now h = elim h [ inl stop ↦ stop.1 | inr leads ↦ leads.spot.has_row ]

-- one move more
pub may-more : (cells piece : List ℕ) (at row to mid next cell : ℕ) → IsTable cells → next ≡ to + 1 → to < length piece → slice_index piece to < 256 → cell ≡ cell_of cells mid (slice_index piece to) → MayLead cells piece at row to mid →
    MayLead cells piece at row next cell
may-more cells piece at row to mid next cell table same within byte is h =
    let here = may-row cells piece at row to mid h in
    let b = slice_index piece to in
    let has : HasRow cells cell = subst (HasRow cells) (sym is) (table.rows (place mid b) 0 (omega (arith, here, byte))) in
    elim h [
      | inl stop ↦ let first : cell ≡ UNKNOWN_CELL = is ∙ table.stops (place mid b) (omega (arith, stop.0, byte)) in inl (omega (arith, first), has)
      | inr leads ↦ elim (cases_lt STOP cell) [
        | inl some ↦ inr (leads-same cells piece at row (to + 1) cell next cell same refl (leads-more cells piece at row to mid cell table within byte is some leads))
        | inr stop ↦ inl (stop, has)
      ]
    ]

-- they came to none
pub may-lead : (cells piece : List ℕ) (at row to now other : ℕ) → other ≡ to → STOP < now → MayLead cells piece at row to now → MovesLead cells piece at row other now
may-lead cells piece at row to now other same some h = elim h [
  | inl stop ↦ absurd (omega (arith, some, stop.0))
  | inr leads ↦ leads-same cells piece at row to now other now same refl leads
]

-- ---- cursors

abbrev pub cursor_at : ℕ → ℕ → ℕ → ℕ → Cursor
cursor_at at row accepted_at accepted_row = record { at = at; row = row; accepted_at = accepted_at; accepted_row = accepted_row }

-- a run may go on from where one came
pub come-cursor : (cells piece : List ℕ) (from to : Cursor) → Follows cells piece from to → IsCursor cells piece to
come-cursor cells piece from to h = record { spot = h.here.spot; order = h.order }

-- no move
pub follows-none : (cells piece : List ℕ) (from : Cursor) → IsCursor cells piece from → Follows cells piece from from
follows-none cells piece from is = record { here = leads-none cells piece from.at from.row is.spot; order = is.order; accepted = inl (refl, refl) }

-- on to a place and row, which are where it last accepted if that changes
pub follows-moved : (cells piece : List ℕ) (from to : Cursor) (at row : ℕ) → from.accepted_at ≤ from.at → MovesLead cells piece from.at from.row at row → to.at ≡ at → to.row ≡ row →
    (to.accepted_at ≡ from.accepted_at) × (to.accepted_row ≡ from.accepted_row) ⊎ (to.accepted_at ≡ at) × (to.accepted_row ≡ row) × Accepts row → Follows cells piece from to
follows-moved cells piece from to at row order leads is is_row accepted =
    let on = leads.on in
    record {
      here = leads-same cells piece from.at from.row at row to.at to.row is is_row leads;
      order = elim accepted [ inl same ↦ omega (arith, order, on, is, same.0) | inr new ↦ omega (arith, is, new.0) ];
      accepted = elim accepted [ inl same ↦ inl same | inr new ↦ inr (leads-same cells piece from.at from.row at row to.accepted_at to.accepted_row new.0 new.1 leads, subst Accepts (sym new.1) new.2) ];
    }

-- a run after another
pub follows-on : (cells piece : List ℕ) (from mid to : Cursor) → Follows cells piece from mid → Follows cells piece mid to → Follows cells piece from to
follows-on cells piece from mid to g h =
    record {
      here = leads-on cells piece from.at from.row mid.at mid.row to.at to.row g.here h.here;
      order = h.order;
      accepted = elim h.accepted [
        | inl same ↦ elim g.accepted [
          | inl was ↦ inl (same.0 ∙ was.0, same.1 ∙ was.1)
          | inr met ↦ inr (leads-same cells piece from.at from.row mid.accepted_at mid.accepted_row to.accepted_at to.accepted_row same.0 same.1 met.0, subst Accepts (sym same.1) met.1)
        ]
        | inr met ↦ inr (leads-on cells piece from.at from.row mid.at mid.row to.accepted_at to.accepted_row g.here met.0, met.1)
      ];
    }

-- back to where a run accepted last, if that was behind its beginning
pub follows-back : (cells piece : List ℕ) (from near back : Cursor) → IsCursor cells piece from → Follows cells piece from near → (back ≡ from) ⊎ (from.at < near.accepted_at) × (back ≡ record near { at = near.accepted_at; row = near.accepted_row }) →
    Follows cells piece from back × (back.at ≤ near.at)
follows-back cells piece from near back is h back_is = elim back_is [
  | inl begun ↦ subst (λ (it : Cursor). Follows cells piece from it × (it.at ≤ near.at)) (sym begun) (follows-none cells piece from is, h.here.on)
  | inr mark ↦ elim h.accepted [
    | inl same ↦ let order = is.order in absurd (omega (arith, order, same.0, mark.0))
    | inr met ↦ subst (λ (it : Cursor). Follows cells piece from it × (it.at ≤ near.at)) (sym mark.1) (record { here = met.0; order = omega arith; accepted = inr met }, h.order)
  ]
]
