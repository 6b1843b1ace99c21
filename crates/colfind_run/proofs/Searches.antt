-- From a run of the search to what the program has found.
use Rattle.std.proofs.Common.{◌≡◌, ℕ, List, Option, None, Some, refl, sym, ap, ◌∙◌, subst, length}
use Rattle.std.specs.Str.{IsUtf8}
use Rattle.collation_table.specs.Table.{TableMap}
use Rattle.collation_table.specs.WellFormed.{IsWellFormed}
use Rattle.collation_elements.specs.declared.settings.Variable.{Variable}
use Rattle.collation_elements.specs.declared.settings.Strength.{Strength}
use Rattle.collation_pattern.specs.Compiled.{Compiled}
use Rattle.collation_pattern.specs.Levels.{text_keys}
use Rattle.collation_matches.specs.Answer.{answer_at}
use Rattle.collation_matches.specs.GoodPrefix.{fault}
use Rattle.collation_matches.specs.Selecting.{selected}
use Rattle.collation_matches.specs.declared.select.Select.{Select}
use Rattle.collation_matches.specs.declared.TextFault.{TextFault}
use Rattle.colfind_io.specs.declared.output.Output.{Output}
use Rattle.colfind_io.specs.Devices.{with_piece}
use Rattle.colfind_run.specs.Patterns.{IsCompiledWith, answer_by}
use Rattle.colfind_io.specs.Printing.{output}
use Rattle.colfind_run.specs.Running.{PrintsAll}
use Rattle.colfind_run.specs.Searching.{FindsSelected}

module _ (table : TableMap) (strength : Strength) (variable : Variable) (text : List ℕ) where
  -- what was compiled is the pattern of its text
  pub compiled_from : (pattern : Compiled) → IsUtf8 text
      → pattern ≡ record { keys = text_keys table strength variable text; strength = strength; variable = variable }
      → IsCompiledWith table pattern text
  compiled_from pattern utf8 is = subst (λ (p : Compiled). IsCompiledWith table p text) (sym is) (record { text = utf8; keys = refl })

  -- an answer without a fault is that to bytes without one
  good_by_answer : (bytes : List ℕ) (at : Option TextFault) → (answer_at table strength variable text bytes at).fault ≡ None → at ≡ None
  good_by_answer bytes None good = refl
  good_by_answer bytes (Some at) good = good

  pub finds_selected : (form : Output) (select : Select) (count : ℕ) (before after held then : Option (List ℕ)) → IsWellFormed table
      → PrintsAll (answer_by select table strength variable text) form count before after held then
      → FindsSelected table strength variable text form select count before after held then
  finds_selected form select count before after held then formed run =
      let good = good_by_answer run.bytes (fault run.bytes) run.good in
      let ranges = ap (λ at. selected select (answer_at table strength variable text run.bytes at).ranges) good in
      record {
        table_is = formed;
        bytes = run.bytes;
        from_reader = run.from_reader;
        end = run.end;
        good = good;
        counted = run.counted ∙ ap length ranges;
        to_writer = run.to_writer ∙ ap (λ rs. with_piece (output form rs) held) ranges;
      }
