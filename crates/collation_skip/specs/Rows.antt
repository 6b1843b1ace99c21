-- What the table of moves says.
use Rattle.std.specs.Prelude.{◌≡◌, ℕ, ◌+◌, ◌*◌, ◌<◌, nat_lt, List, length, take, Some, slice_get, if◌then◌else◌}
use Rattle.collation_table.specs.Table.{TableMap}
use Rattle.collation_pattern.specs.Compiled.{Compiled}
use Rattle.collation_skip.specs.declared.automaton.Automaton.{Automaton}
use Rattle.byte_dfa.specs.declared.cells.TheConstants.{FIRST_ROW, ROW}
use Rattle.byte_dfa.specs.Moves.{cell_of}
use Rattle.byte_dfa.specs.declared.moves.TheConstants.{STOP, UNIT}
use Rattle.collation_skip.specs.declared.state.State.{State}
use Rattle.collation_skip.specs.Reached.{HasReached, IsMove}

-- 1 where the text may be passed by up to the last character, else 0
abbrev pub parity : State → ℕ
parity state = if nat_lt 0 state.before then 1 else 0

-- the row of a state
abbrev pub row_at : ℕ → State → ℕ
row_at number state = FIRST_ROW + ROW * number + parity state

-- how many cells the rows of so many states have, with those of the stops before them
abbrev pub cells_of : ℕ → ℕ
cells_of states = if nat_lt 0 states then UNIT * (FIRST_ROW + ROW * states) else 0

abbrev pub IsRow : Automaton → ℕ → State → Type 0
IsRow automaton row state =
    (number : ℕ) × (slice_get automaton.states.items number ≡ Some state) × (row ≡ row_at number state)

-- each cell is unknown, a stop, or the row of a state to which its byte leads
pub record AreRowsRight (table : TableMap) (pattern : Compiled) (automaton : Automaton) : Type 0 where
  pub len : length automaton.cells ≡ cells_of (length automaton.states.items)
  pub cells : (row byte : ℕ) (from : State) → byte < 256 → IsRow automaton row from
      → let cell = cell_of automaton.cells row byte in STOP < cell
      → ∥ ((to : State) × IsRow automaton cell to × IsMove table pattern from byte to) ∥₁

-- the row is that of a state that was reached behind so many bytes of a piece, wherever this stands
abbrev pub Stands : TableMap → Compiled → Automaton → List ℕ → ℕ → ℕ → Type 0
Stands table pattern automaton piece at row =
    ∥ ((state : State) × IsRow automaton row state × ((start : ℕ) → HasReached table pattern state start (take at piece))) ∥₁
