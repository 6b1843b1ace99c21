-- The command `colfind --table FILE [--tailor FILE] [--strength 1|2|3] [--variable shifted|non-ignorable] [--output ranges|count|marks] [--select all|chain] PATTERN [FILE]`, as its argument parser sees it.
use Rattle.std.specs.Prelude.{◌≡◌, List, [], ◌∷◌, map, Some, codes, true}
use Rattle.std.specs.Borrow.{Bor}
use Rattle.clap.specs.Words.{App, Rule, Text, new_app, new_rule, with_rule}
use Rattle.clap.specs.declared.builder.value_parser.ValueParser.{ValueParser}
use Rattle.clap.specs.declared.builder.value_parser.ValueParser.TheVariants.{Names}

-- the parser takes these names and no other value
abbrev pub TakesNames : ValueParser → List Text → Type 0
TakesNames parser names = (listed : Bor (List (Bor Text))) × (parser ≡ Names listed) × (map (λ name. name.now) listed.now ≡ names)

abbrev pub strength_names : List Text
strength_names = codes "1" ∷ codes "2" ∷ codes "3" ∷ []

abbrev pub variable_names : List Text
variable_names = codes "shifted" ∷ codes "non-ignorable" ∷ []

abbrev pub output_names : List Text
output_names = codes "ranges" ∷ codes "count" ∷ codes "marks" ∷ []

abbrev pub select_names : List Text
select_names = codes "all" ∷ codes "chain" ∷ []

abbrev pub table_rule : Rule
table_rule = record (new_rule (codes "table")) { long = Some (codes "table"); required = true }

-- a second table file, which tailors the first, and may be left out
abbrev pub tailor_rule : Rule
tailor_rule = record (new_rule (codes "tailor")) { long = Some (codes "tailor") }

abbrev pub strength_rule : ValueParser → Rule
strength_rule names = record (new_rule (codes "strength")) {
  long = Some (codes "strength");
  parser = Some names;
  defaults = codes "3" ∷ [];
}

abbrev pub variable_rule : ValueParser → Rule
variable_rule names = record (new_rule (codes "variable")) {
  long = Some (codes "variable");
  parser = Some names;
  defaults = codes "non-ignorable" ∷ [];
}

abbrev pub output_rule : ValueParser → Rule
output_rule names = record (new_rule (codes "output")) {
  long = Some (codes "output");
  parser = Some names;
  defaults = codes "ranges" ∷ [];
}

abbrev pub select_rule : ValueParser → Rule
select_rule names = record (new_rule (codes "select")) {
  long = Some (codes "select");
  parser = Some names;
  defaults = codes "all" ∷ [];
}

abbrev pub pattern_rule : Rule
pattern_rule = record (new_rule (codes "pattern")) { required = true }

-- the text file, which may be left out
abbrev pub text_rule : Rule
text_rule = new_rule (codes "text")

-- the words come without the program's name, and there is no flag for help
abbrev pub empty_command : App
empty_command = record { top = record (new_app (codes "colfind")).top { no_binary_name = true; disable_help_flag = true }; subs = [] }

-- the options of the command but the last, by the parsers of those that take names
abbrev pub first_options : ValueParser → ValueParser → ValueParser → App
first_options strengths variables outputs =
    with_rule (with_rule (with_rule (with_rule (with_rule empty_command table_rule) tailor_rule) (strength_rule strengths)) (variable_rule variables)) (output_rule outputs)

abbrev pub options : ValueParser → ValueParser → ValueParser → ValueParser → App
options strengths variables outputs selections = with_rule (first_options strengths variables outputs) (select_rule selections)

-- the command: its options, the pattern and the text file
abbrev pub command : ValueParser → ValueParser → ValueParser → ValueParser → App
command strengths variables outputs selections = with_rule (with_rule (options strengths variables outputs selections) pattern_rule) text_rule
