-- What a pattern was made of, and what is found with it.
use Rattle.std.specs.Prelude.{ℕ, List}
use Rattle.collation_table.specs.Table.{TableMap}
use Rattle.collation_elements.specs.declared.settings.Variable.{Variable}
use Rattle.collation_elements.specs.declared.settings.Strength.{Strength}
use Rattle.collation_pattern.specs.Compiled.{Compiled}
pub use Rattle.collation_pattern.specs.Compiled.{IsCompiledWith}
use Rattle.collation_matches.specs.Answer.{Answer, answer}
use Rattle.collation_matches.specs.Matches.{settled}
use Rattle.collation_matches.specs.GoodPrefix.{whole}
use Rattle.collation_matches.specs.Selecting.{selected, selected_answer}
use Rattle.collation_matches.specs.declared.select.Select.{Select}

-- the answer to a text that has ended, with all ranges or with the chain of them
abbrev pub answer_by : Select → TableMap → Strength → Variable → List ℕ → List ℕ → Answer
answer_by select table strength variable text bytes = selected_answer select (answer table strength variable text bytes)

abbrev pub answer_to : Select → TableMap → List ℕ → Compiled → List ℕ → Answer
answer_to select table text pattern = answer_by select table pattern.strength pattern.variable text

-- the ranges that are settled in a text that cannot be read further, all or the chain of them
abbrev pub settled_by : Select → TableMap → Strength → Variable → List ℕ → List ℕ → List (ℕ × ℕ)
settled_by select table strength variable text bytes = selected select (settled table strength variable text (whole bytes))

abbrev pub settled_in : Select → TableMap → List ℕ → Compiled → List ℕ → List (ℕ × ℕ)
settled_in select table text pattern = settled_by select table pattern.strength pattern.variable text
