-- What a pattern is, and from which text it was compiled.
use Rattle.std.specs.Prelude.{◌≡◌, ℕ, List}
use Rattle.std.specs.Str.{IsUtf8}
use Rattle.collation_table.specs.Table.{TableMap}
use Rattle.collation_elements.specs.declared.settings.Variable.{Variable}
use Rattle.collation_elements.specs.declared.settings.Strength.{Strength}
use Rattle.collation_elements.specs.declared.keys.Key.{Key}
use Rattle.collation_pattern.specs.Levels.{text_keys}

-- the keys of a text, with the settings under which they are compared
pub record Compiled : Type 0 where
  pub keys : List Key
  pub strength : Strength
  pub variable : Variable

-- the pattern is what the text p gives when it is compiled with this table, under the pattern's settings
pub record IsCompiledWith (table : TableMap) (pattern : Compiled) (p : List ℕ) : Type 0 where
  pub text : IsUtf8 p
  pub keys : pattern.keys ≡ text_keys table pattern.strength pattern.variable p
