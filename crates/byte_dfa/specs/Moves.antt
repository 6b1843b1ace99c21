-- Rows of cells, and where moves over the bytes of a piece lead.
use Rattle.std.specs.Prelude.{◌≡◌, ◌⊎◌, ℕ, ◌+◌, ◌*◌, ◌%◌, ◌<◌, ◌≤◌, nat_lt, if◌then◌else◌, List, [], ◌∷◌, length, Option, Some, None, slice_index, slice_range, All}
use Rattle.byte_dfa.specs.declared.moves.Cursor.{Cursor}
use Rattle.byte_dfa.specs.declared.cells.TheConstants.{FIRST_ROW, ROW, UNKNOWN_CELL}
use Rattle.byte_dfa.specs.declared.moves.TheConstants.{STOP, UNIT}

-- where the cell of a byte stands: the number of a row counts its cells by fours
abbrev pub place : ℕ → ℕ → ℕ
place row byte = UNIT * row + byte

abbrev pub cell_of : List ℕ → ℕ → ℕ → ℕ
cell_of cells row byte = slice_index cells (place row byte)

-- the cells of a row are there, one for each byte
abbrev pub HasRow : List ℕ → ℕ → Type 0
HasRow cells row = UNIT * row + 256 ≤ length cells

-- each cell is a row of these cells, and those of the stops lead to the first stop
pub record IsTable (cells : List ℕ) : Type 0 where
  pub rows : All (HasRow cells) cells
  pub stops : (at : ℕ) → at < UNIT * FIRST_ROW → slice_index cells at ≡ UNKNOWN_CELL

-- how many cells are added with a row: those of the stops too, if there are none yet
abbrev pub added : List ℕ → ℕ
added cells = UNIT * (if nat_lt 0 (length cells) then ROW else FIRST_ROW + ROW)

-- the bytes before a row are accepted
abbrev pub Accepts : ℕ → Type 0
Accepts row = row % 2 ≡ 1

-- the row behind these bytes, by one move for each; none where a cell on the way is a stop
abbrev pub row_after : List ℕ → ℕ → List ℕ → Option ℕ
row_after cells row [] = Some row
row_after cells row (byte ∷ bytes) =
    let cell = cell_of cells row byte in
    if nat_lt STOP cell then row_after cells cell bytes else None

-- a place in a piece, and a row
pub record IsSpot (cells piece : List ℕ) (at row : ℕ) : Type 0 where
  pub within : at ≤ length piece
  pub has_row : HasRow cells row

-- moves over the bytes between two places of a piece lead from the one row to the other
pub record MovesLead (cells piece : List ℕ) (at row to to_row : ℕ) : Type 0 where
  pub on : at ≤ to
  pub spot : IsSpot cells piece to to_row
  pub moves : row_after cells row (slice_range piece at to) ≡ Some to_row

-- A run may go on from this cursor: the place where it last accepted is not behind it.
pub record IsCursor (cells piece : List ℕ) (cursor : Cursor) : Type 0 where
  pub spot : IsSpot cells piece cursor.at cursor.row
  pub order : cursor.accepted_at ≤ cursor.at

-- a run goes no further than this: the piece has no more bytes, or the cell of the next one is a stop
abbrev pub HasEnded : List ℕ → List ℕ → Cursor → Type 0
HasEnded cells piece cursor =
    (length piece ≤ cursor.at) ⊎ (cell_of cells cursor.row (slice_index piece cursor.at) ≤ STOP)

-- A run came from one cursor to the other by these moves. Where it last accepted is a place on the way, or is as it was.
pub record Follows (cells piece : List ℕ) (from to : Cursor) : Type 0 where
  pub here : MovesLead cells piece from.at from.row to.at to.row
  pub order : to.accepted_at ≤ to.at
  pub accepted : (to.accepted_at ≡ from.accepted_at) × (to.accepted_row ≡ from.accepted_row) ⊎ MovesLead cells piece from.at from.row to.accepted_at to.accepted_row × Accepts to.accepted_row
