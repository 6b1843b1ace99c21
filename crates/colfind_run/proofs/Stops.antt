-- Why the program ends without an answer, from what its steps answered.
use Rattle.std.proofs.Common.{◌≡◌, ℕ, List, Bool, true, false, Option, None, is_some, refl, sym, subst, ◌∙◌, true≢false}
use Rattle.std.specs.Str.{IsUtf8}
use Rattle.clap.specs.Words.{Text as Word}
use Rattle.collation_table.specs.Table.{TableMap}
use Rattle.collation_pattern.specs.Compiled.{Compiled}
use Rattle.collation_pattern.specs.Levels.{text_keys}
use Rattle.collation_pattern.specs.PatternFaults.{pattern_fault}
use Rattle.colfind_run.specs.Patterns.{IsCompiledWith}
use Rattle.colfind_run.proofs.Searches.{compiled_from}
use Rattle.colfind_run.specs.declared.faults.Stop.{Stop}
use Rattle.colfind_run.specs.declared.faults.Stop.TheVariants.{Words, File, Tailor, Table, Pattern, TextFile, Text, Read, Write, Memory}
use Rattle.colfind_run.specs.declared.words.Settings.{Settings}
use Rattle.colfind_run.specs.Searching.{FileBytes, IsTableOf, left_of}
use Rattle.colfind_run.specs.Settings.{IsTakenAs}
use Rattle.colfind_run.specs.Stopping.{IsReason, StopsAtText, StopsSearch, Seen, of_file}

-- a text is in a file or in the input, and in neither can a step stop of which no case speaks
never : {A : Type 0} (asked : Settings) → ((is_some asked.text ≡ false → ⊥) × (is_some asked.text ≡ true → (left : Option (List ℕ)) × (n : ℕ) × ⊥)) → A
never asked both = by_case (is_some asked.text) both
  where
    by_case : {A : Type 0} (b : Bool) → ((b ≡ false → ⊥) × (b ≡ true → (left : Option (List ℕ)) × (n : ℕ) × ⊥)) → A
    by_case false both = absurd (both.0 refl)
    by_case true both = absurd (both.1 refl).2

module _ (files : FileBytes) where
  -- the search stopped, with the settings and the table that were read before
  pub search_stops : (words : List Word) (Unasked : Type 0) (asked : Settings) (table : TableMap) (stop : Stop) (before after : Seen)
      → IsTakenAs words asked → (is_some asked.text ≡ true → Unasked) → IsTableOf files asked table
      → StopsSearch files table asked stop before after → IsReason files words Unasked stop before after
  search_stops words U asked table (Words fault) before after taken file of stops = never asked stops.1
  search_stops words U asked table (File fault) before after taken file of stops = never asked stops.1
  search_stops words U asked table (Tailor fault) before after taken file of stops = never asked stops.1
  search_stops words U asked table (Table fault) before after taken file of stops = never asked stops.1
  search_stops words U asked table (Pattern fault) before after taken file of stops = (asked, taken, file, (table, of, stops))
  search_stops words U asked table TextFile before after taken file of stops = (asked, taken, file, (table, of, stops))
  search_stops words U asked table (Text fault) before after taken file of stops = (asked, taken, file, (table, of, stops))
  search_stops words U asked table (Read count) before after taken file of stops = (asked, taken, file, (table, of, stops))
  search_stops words U asked table Write before after taken file of stops = (asked, taken, file, (table, of, stops))
  search_stops words U asked table Memory before after taken file of stops = (asked, taken, file, (table, of, stops))

  -- the search in a text file stopped
  at_file : (table : TableMap) (asked : Settings) (left : Option (List ℕ)) (reads_after : ℕ) (stop : Stop) (before after : Seen)
      → pattern_fault table asked.strength asked.variable asked.pattern.now ≡ None → is_some asked.text ≡ true
      → StopsAtText table asked.strength asked.variable asked.pattern.now asked.output asked.select stop
      (of_file (left_of files asked None) 0 before) (of_file left reads_after after)
      → StopsSearch files table asked stop before after
  at_file table asked left reads_after (Words fault) before after good given stops = absurd stops
  at_file table asked left reads_after (File fault) before after good given stops = absurd stops
  at_file table asked left reads_after (Tailor fault) before after good given stops = absurd stops
  at_file table asked left reads_after (Table fault) before after good given stops = absurd stops
  at_file table asked left reads_after (Pattern fault) before after good given stops = absurd stops
  at_file table asked left reads_after TextFile before after good given stops = absurd stops
  at_file table asked left reads_after (Text fault) before after good given stops =
      (good, ((λ no. absurd (true≢false (sym given ∙ no))), (λ _. (left, reads_after, stops))))
  at_file table asked left reads_after (Read count) before after good given stops =
      (good, ((λ no. absurd (true≢false (sym given ∙ no))), (λ _. (left, reads_after, stops))))
  at_file table asked left reads_after Write before after good given stops =
      (good, ((λ no. absurd (true≢false (sym given ∙ no))), (λ _. (left, reads_after, stops))))
  at_file table asked left reads_after Memory before after good given stops =
      (good, ((λ no. absurd (true≢false (sym given ∙ no))), (λ _. (left, reads_after, stops))))

  pub file_stops : (table : TableMap) (asked : Settings) (pattern : Compiled) (at left : Option (List ℕ)) (reads reads_after : ℕ) (stop : Stop) (before after : Seen)
      → IsUtf8 asked.pattern.now
      → pattern ≡ record { keys = text_keys table asked.strength asked.variable asked.pattern.now; strength = asked.strength; variable = asked.variable }
      → pattern_fault table asked.strength asked.variable asked.pattern.now ≡ None → is_some asked.text ≡ true → reads ≡ 0
      → at ≡ left_of files asked None
      → ((p : List ℕ) → IsCompiledWith table pattern p
      → StopsAtText table pattern.strength pattern.variable p asked.output asked.select stop (of_file at reads before) (of_file left reads_after after))
      → StopsSearch files table asked stop before after
  file_stops table asked pattern at left reads reads_after stop before after utf8 is good given none opened stops =
      let text = asked.pattern.now in
      let compiled = compiled_from table asked.strength asked.variable text pattern utf8 is in
      let P : Compiled → Type 0 = λ p. StopsAtText table p.strength p.variable text asked.output asked.select stop (of_file at reads before) (of_file left reads_after after) in
      let Q : ℕ → Type 0 = λ n. StopsAtText table asked.strength asked.variable text asked.output asked.select stop (of_file at n before) (of_file left reads_after after) in
      let O : Option (List ℕ) → Type 0 = λ o. StopsAtText table asked.strength asked.variable text asked.output asked.select stop (of_file o 0 before) (of_file left reads_after after) in
      at_file table asked left reads_after stop before after good given (subst O opened (subst Q none (subst P is (stops text compiled))))
