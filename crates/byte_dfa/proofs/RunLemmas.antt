-- Runs of four: where they are after some moves, and that they go on from a stop to stops.
use Rattle.std.proofs.Common.{◌≡◌, ℕ, ◌+◌, ◌<◌, List, length, slice_index, arith}
use Rattle.byte_dfa.specs.declared.four_runs.Spot.{Spot}
use Rattle.byte_dfa.specs.declared.moves.TheConstants.{STOP}
use Rattle.byte_dfa.specs.Moves.{IsSpot, IsTable, cell_of}
use Rattle.byte_dfa.specs.Runs.{HasRun}
use Rattle.byte_dfa.proofs.MoveLemmas.{MayLead, may-lead, may-more, may-none}

-- a spot, and where a run is that came so far from it, or to a stop
abbrev pub spot_at : ℕ → ℕ → Spot
spot_at at row = record { at = at; row = row }

abbrev pub MayRun : List ℕ → List ℕ → Spot → ℕ → ℕ → Type 0
MayRun cells piece from n now = MayLead cells piece from.at from.row (from.at + n) now

-- no move
pub run-none : (cells piece : List ℕ) (from : Spot) → IsSpot cells piece from.at from.row → MayRun cells piece from 0 from.row
run-none cells piece from spot = may-none cells piece from.at from.row (from.at + 0) (omega arith) spot

-- one move more
pub run-more : (cells piece : List ℕ) (from : Spot) (n row cell : ℕ) → IsTable cells → from.at + n < length piece → slice_index piece (from.at + n) < 256 → cell ≡ cell_of cells row (slice_index piece (from.at + n)) →
    MayRun cells piece from n row → MayRun cells piece from (n + 1) cell
run-more cells piece from n row cell table within byte is h = may-more cells piece from.at from.row (from.at + n) row (from.at + (n + 1)) cell table (omega arith) within byte is h

-- no stop
pub run-goes : (cells piece : List ℕ) (from : Spot) (n len row : ℕ) → n ≡ len → STOP < row → MayRun cells piece from n row → HasRun cells piece from (spot_at (from.at + len) row)
run-goes cells piece from n len row same some h = may-lead cells piece from.at from.row (from.at + n) row (from.at + len) (omega (arith, same)) some h
