-- Four runs over one piece.
use Rattle.std.specs.Prelude.{ℕ, List}
use Rattle.byte_dfa.specs.declared.four_runs.Spot.{Spot}
use Rattle.byte_dfa.specs.declared.four_runs.Spots.{Spots}
use Rattle.byte_dfa.specs.Moves.{IsSpot, MovesLead}

abbrev pub AreSpots : List ℕ → List ℕ → Spots → Type 0
AreSpots cells piece spots =
    IsSpot cells piece spots.first.at spots.first.row
    × (IsSpot cells piece spots.second.at spots.second.row × (IsSpot cells piece spots.third.at spots.third.row × IsSpot cells piece spots.fourth.at spots.fourth.row))

abbrev pub HasRun : List ℕ → List ℕ → Spot → Spot → Type 0
HasRun cells piece from to = MovesLead cells piece from.at from.row to.at to.row

abbrev pub HaveRun : List ℕ → List ℕ → Spots → Spots → Type 0
HaveRun cells piece from to =
    HasRun cells piece from.first to.first × (HasRun cells piece from.second to.second × (HasRun cells piece from.third to.third × HasRun cells piece from.fourth to.fourth))
