-- What a search looks for, and its answer.
use Rattle.std.specs.Prelude.{ℕ, List}
use Rattle.collation_table.specs.Table.{TableMap}
use Rattle.collation_pattern.specs.Compiled.{Compiled, IsCompiledWith}
use Rattle.collation_matches.specs.declared.select.Select.{Select}
use Rattle.collation_matches.specs.Answer.{Answer, answer}
use Rattle.collation_matches.specs.Matches.{settled}
use Rattle.collation_matches.specs.Selecting.{selected, selected_answer}

-- a pattern, the table under which it is looked for, and which of its matches are handed out
pub record Sought : Type 0 where
  pub table : TableMap
  pub pattern : Compiled
  pub select : Select

abbrev pub seeking : TableMap → Compiled → Select → Sought
seeking table pattern select = record { table = table; pattern = pattern; select = select }

-- the pattern is what compiling this text with this table gives
abbrev pub IsCompiledFrom : Sought → List ℕ → Type 0
IsCompiledFrom s text = IsCompiledWith s.table s.pattern text

-- the answer to some bytes, and the settled matches in a text, where the pattern was compiled from this text: all ranges, or the
-- chain of them
abbrev pub answer_to : Sought → List ℕ → List ℕ → Answer
answer_to s text bytes = selected_answer s.select (answer s.table s.pattern.strength s.pattern.variable text bytes)

abbrev pub settled_in : Sought → List ℕ → List ℕ → List (ℕ × ℕ)
settled_in s text bytes = selected s.select (settled s.table s.pattern.strength s.pattern.variable text bytes)
