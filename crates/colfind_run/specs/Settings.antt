-- What the words of the command ask for.
use Rattle.std.specs.Prelude.{◌≡◌, List, [], codes, false, option_map, unwrap_or, if◌then◌else◌}
use Rattle.std.specs.Str.{bytes_eq}
use Rattle.clap.specs.Words.{Row, Text, first_of, fault_of, matches_of, takes}
use Rattle.clap.specs.declared.builder.value_parser.ValueParser.{ValueParser}
use Rattle.collation_elements.specs.declared.settings.Strength.{Strength}
use Rattle.collation_elements.specs.declared.settings.Strength.TheVariants.{One, Two, Three}
use Rattle.collation_elements.specs.declared.settings.Variable.{Variable}
use Rattle.collation_elements.specs.declared.settings.Variable.TheVariants.{NonIgnorable, Shifted}
use Rattle.collation_matches.specs.declared.select.Select.{Select}
use Rattle.collation_matches.specs.declared.select.Select.TheVariants.{All, Chain}
use Rattle.colfind_io.specs.declared.output.Output.{Output}
use Rattle.colfind_io.specs.declared.output.Output.TheVariants.{Ranges, Count, Marks}
use Rattle.colfind_run.specs.declared.words.Settings.{Settings}
use Rattle.colfind_run.specs.Command.{TakesNames, command, strength_names, variable_names, output_names, select_names}

abbrev pub strength_of : Text → Strength
strength_of word = if bytes_eq word (codes "1") then One else (if bytes_eq word (codes "2") then Two else Three)

abbrev pub variable_of : Text → Variable
variable_of word = if bytes_eq word (codes "shifted") then Shifted else NonIgnorable

abbrev pub output_of : Text → Output
output_of word = if bytes_eq word (codes "count") then Count else (if bytes_eq word (codes "marks") then Marks else Ranges)

abbrev pub select_of : Text → Select
select_of word = if bytes_eq word (codes "chain") then Chain else All

-- the text of an entry
abbrev pub entry : Text → List Row → Text
entry id rows = unwrap_or (first_of id rows) []

-- the settings are those of the entries
pub record IsReadFrom (rows : List Row) (s : Settings) : Type 0 where
  pub table : s.table.now ≡ entry (codes "table") rows
  pub tailor : option_map (λ path. path.now) s.tailor ≡ first_of (codes "tailor") rows
  pub pattern : s.pattern.now ≡ entry (codes "pattern") rows
  pub strength : s.strength ≡ strength_of (entry (codes "strength") rows)
  pub variable : s.variable ≡ variable_of (entry (codes "variable") rows)
  pub output : s.output ≡ output_of (entry (codes "output") rows)
  pub select : s.select ≡ select_of (entry (codes "select") rows)
  pub text : option_map (λ path. path.now) s.text ≡ first_of (codes "text") rows

-- the command takes the words, and the settings are read from the entries that they make, or that stand for words left out
pub record IsTakenAs (words : List Text) (s : Settings) : Type 0 where
  pub strengths : ValueParser
  pub variables : ValueParser
  pub outputs : ValueParser
  pub selections : ValueParser
  pub has_strengths : TakesNames strengths strength_names
  pub has_variables : TakesNames variables variable_names
  pub has_outputs : TakesNames outputs output_names
  pub has_selections : TakesNames selections select_names
  pub no_fault : fault_of (command strengths variables outputs selections) words ≡ []
  pub read : IsReadFrom (matches_of (command strengths variables outputs selections) words) s

-- the command does not take the words
pub record IsCommandLineRefused (words : List Text) : Type 0 where
  pub strengths : ValueParser
  pub variables : ValueParser
  pub outputs : ValueParser
  pub selections : ValueParser
  pub has_strengths : TakesNames strengths strength_names
  pub has_variables : TakesNames variables variable_names
  pub has_outputs : TakesNames outputs output_names
  pub has_selections : TakesNames selections select_names
  pub refused : takes (command strengths variables outputs selections) words ≡ false
