-- Where units end between characters, and which characters can be taken by themselves.
use Rattle.std.specs.Prelude.{◌≡◌, ℕ, ◌+◌, true, None, List, ◌∷◌, ◌++◌, slice_get}
use Rattle.std.specs.Option.{ForSome}
use Rattle.collation_table.specs.Table.{TableMap}
use Rattle.nfd_points.specs.declared.points.Point.{Point}
use Rattle.nfd_points.specs.Points.{byte_len, points_of, begins_with_starter}
use Rattle.nfd_points.specs.PointFaults.{point_fault}
use Rattle.collation_elements.specs.Units.{units}
use Rattle.collation_letters.specs.Letters.{ordered_from}

-- no unit reaches from these points to the character c that stands after them, at an offset
abbrev pub EndsBefore : TableMap → List Point → ℕ → ℕ → Type 0
EndsBefore table ps at c =
    ForSome (slice_get (points_of at c) 0) (λ x. (more : List Point) → units table (ps ++ x ∷ more) ≡ units table ps ++ units table (x ∷ more))

-- What is known of characters in a row, of which the first stands at an offset, that are taken before the character that follows:
-- they are without a fault, it begins with a starter, and no unit reaches to it.
pub record IsNext (table : TableMap) (at : ℕ) (cs : List ℕ) (next : ℕ) : Type 0 where
  pub good : point_fault cs ≡ None
  pub begins : begins_with_starter (points_of (at + byte_len cs) next) ≡ true
  pub ends : EndsBefore table (ordered_from at cs) (at + byte_len cs) next
