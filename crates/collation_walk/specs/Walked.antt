-- What a weigher and a walk represent together.
use Rattle.std.specs.Prelude.{◌≡◌, ℕ, List, [], ◌∷◌, ◌++◌}
use Rattle.nfd_points.specs.declared.points.Point.{Point}
use Rattle.collation_table.specs.Table.{TableMap}
use Rattle.collation_elements.specs.declared.keys.Item.{Item}
use Rattle.collation_elements.specs.Units.{units}
use Rattle.collation_elements.specs.UnitValues.{IsUnitOf, UnitValue}
use Rattle.collation_elements.specs.Weighing.{value_items, weigher_after, WeigherStandsFor}
use Rattle.collation_pattern.specs.Compiled.{Compiled}
use Rattle.collation_letters.specs.declared.letter.Letter.{Letter}
use Rattle.collation_letters.specs.Letters.{IsLetter, ordered_from}
use Rattle.collation_walk.specs.declared.matching.Matcher.{Matcher}
use Rattle.collation_walk.specs.Walks.{WalksInto, WalksOver}

-- the units went through a weigher and a walk, and the ranges came out
pub record HasWalked (table : TableMap) (pattern : Compiled) (matcher : Matcher) (us : List (List Point)) (ranges : List (ℕ × ℕ)) : Type 0 where
  pub items : List Item
  pub weighed : WeigherStandsFor table matcher.weigher us items
  pub walked : WalksOver pattern.keys items ranges matcher.walk
  pub strength : matcher.weigher.strength ≡ pattern.strength
  pub variable : matcher.weigher.variable ≡ pattern.variable

-- further units went through, and further ranges came out
abbrev pub HasWalkedOn : TableMap → Compiled → Matcher → Matcher → List (List Point) → List (ℕ × ℕ) → Type 0
HasWalkedOn table pattern matcher now us found =
    (before : List (List Point)) (ranges : List (ℕ × ℕ)) → HasWalked table pattern matcher before ranges
    → HasWalked table pattern now (before ++ us) (ranges ++ found)

-- A unit was weighed, and its items were walked over: the ranges that became known stand behind those found before.
pub record TakesUnit (pattern : Compiled) (old new : Matcher) (unit : UnitValue) (before found : List (ℕ × ℕ)) : Type 0 where
  pub weighed : (table : TableMap) (points : List Point) (us : List (List Point)) (given : List Item) → IsUnitOf table points unit →
      WeigherStandsFor table old.weigher us given → WeigherStandsFor table new.weigher (us ++ points ∷ []) (given ++ value_items old.weigher unit)
  pub after : new.weigher ≡ weigher_after old.weigher unit
  pub walked : WalksInto pattern old.walk new.walk (value_items old.weigher unit) before found

-- The characters of a letter, of which the first stands at an offset, were walked over.
abbrev pub WalksLetter : TableMap → Compiled → Matcher → Matcher → Letter → ℕ → List (ℕ × ℕ) → Type 0
WalksLetter table pattern matcher now letter start found =
    (cs : List ℕ) → IsLetter table pattern cs letter → HasWalkedOn table pattern matcher now (units table (ordered_from start cs)) found
