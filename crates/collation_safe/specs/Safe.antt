-- Safe offsets: where a search may begin. Each is a boundary of every text that has these bytes there, whatever stands before them and
-- whatever follows.
use Rattle.std.specs.Prelude.{◌≡◌, ℕ, Bool, true, false, not, ◌&&◌, ◌||◌, List, [], ◌∷◌, take, drop, map, unwrap_or}
use Rattle.std.specs.Char.{len_utf8}
use Rattle.std.specs.List.{list_all, list_any}
use Rattle.utf8_cut.specs.Sequences.{SpellsCharacter}
use Rattle.nfd_points.specs.declared.points.Point.{Point}
use Rattle.nfd_points.specs.Points.{points_of, is_starter}
use Rattle.collation_table.specs.declared.elements.Element.{Element}
use Rattle.collation_table.specs.Table.{TableMap, row_of, implicit_pair}
use Rattle.collation_table.specs.Unsafe.{is_behind_first, begins_with}
use Rattle.collation_elements.specs.Elements.{begins_primary}

-- the strings that the table maps
abbrev pub strings : TableMap → List (List ℕ)
strings table = map (λ row. row.0) table.rows

-- the first element of a mapped string has a primary weight
abbrev pub is_primary : TableMap → List ℕ → Bool
is_primary table string = begins_primary (unwrap_or (row_of table string) [])

-- the elements of the code point alone: of its row, or implicit
abbrev pub alone : TableMap → ℕ → List Element
alone table cp = unwrap_or (row_of table (cp ∷ [])) (implicit_pair table cp)

-- A unit begins where the code point stands, whatever stands before it, and has a primary weight first, whatever follows: the code point
-- stands in no mapped string behind the first place, and each mapped string that begins with it, and it alone, has a primary weight first.
abbrev pub is_safe_code_point : TableMap → ℕ → Bool
is_safe_code_point table cp =
    not (list_any (is_behind_first cp) (strings table))
    && list_all (λ string. not (begins_with cp string) || is_primary table string) (strings table)
    && begins_primary (alone table cp)

abbrev pub begins_safely : TableMap → List Point → Bool
begins_safely table [] = false
begins_safely table (p ∷ ps) = is_starter p && is_safe_code_point table p.cp

-- the first point of the character's decomposition is a starter, and its code point is such
abbrev pub is_safe_character : TableMap → ℕ → Bool
is_safe_character table c = begins_safely table (points_of 0 c)

-- such a character stands whole at the offset of the bytes
pub record IsSafeOffset (table : TableMap) (bytes : List ℕ) (at : ℕ) : Type 0 where
  pub character : ℕ
  pub whole : SpellsCharacter (take (len_utf8 character) (drop at bytes)) character
  pub safe : is_safe_character table character ≡ true
