-- What comes of a letter that begins a cluster and a mark that follows it.
use Rattle.std.specs.Prelude.{◌≡◌, ◌≢◌, ◌⊎◌, ℕ, ◌+◌, ◌≤◌, Bool, true, List, ◌++◌, Option}
use Rattle.collation_elements.specs.declared.keys.Key.{Key}
use Rattle.collation_letters.specs.declared.letter.Letter.{Letter}
use Rattle.collation_letters.specs.declared.letter.Role.{Role}
use Rattle.collation_letters.specs.declared.letter.Role.TheVariants.{Plain}
use Rattle.collation_letters.specs.declared.joining.TheConstants.{MOST_POINTS}
use Rattle.collation_letters.specs.declared.symbols.Symbols.{Symbols}
use Rattle.collation_letters.specs.Letters.{begins_cluster, is_mark, flag_after, counted}
use Rattle.collation_letters.specs.Symbols.{AreLastSymbols, AreSymbolsAt, listed}

-- the symbols of the keys of both, as far as those of the mark count, and the flag after both, whatever it was before
pub record Joins (base mark : Letter) (both : Role × Symbols) : Type 0 where
  pub base_begins : begins_cluster base.role ≡ true
  pub mark_joins : is_mark mark.role ≡ true
  pub begins : begins_cluster both.0 ≡ true
  pub flag : (after : Bool) → flag_after both.0 after ≡ flag_after mark.role (flag_after base.role after)
  pub symbols : (depth : Option ℕ) (pattern keys later : List Key) (after : Bool) → AreSymbolsAt depth pattern keys (listed base.symbols)
      → AreLastSymbols pattern later (counted mark.role (flag_after base.role after) (listed mark.symbols))
      → AreSymbolsAt depth pattern (keys ++ later) (listed both.1)

-- the letter of both, which need not be settled
pub record IsOfBoth (base mark both : Letter) : Type 0 where
  pub joins : Joins base mark (both.role, both.symbols)
  pub other : both.role ≢ Plain
  pub stays : mark.class ≡ 0 ⊎ base.class ≤ mark.class
  pub closed : both.is_closed ≡ base.is_closed
  pub apart : both.is_apart ≡ base.is_apart
  pub class : both.class ≡ mark.class
  pub points : both.points ≡ base.points + 1
  pub most : both.points ≤ MOST_POINTS
