-- What a run has found when its text has ended, and when a write has failed before.
use Rattle.std.specs.Prelude.{Result, Ok, Err, is_ok, is_err, not, Option}
use Rattle.std.proofs.Common.{◌≡◌, ◌∙◌, ℕ, ◌+◌, ◌<◌, ◌≤◌, ◌^◌, true, false, List, ◌++◌, length, refl, sym, ap, subst, arith, append_assoc, nat_lt}
use Rattle.std.proofs.lemmas.List.Concat.{flat_map-append}
use Rattle.collation_table.specs.Table.{TableMap}
use Rattle.collation_elements.specs.declared.settings.Variable.{Variable}
use Rattle.collation_elements.specs.declared.settings.Strength.{Strength}
use Rattle.collation_pattern.specs.Compiled.{Compiled}
use Rattle.collation_matches.specs.Answer.{Answer, answer}
use Rattle.collation_matches.specs.GoodPrefix.{whole}
use Rattle.collation_matches.specs.Matches.{settled}
use Rattle.collation_matches.specs.Sought.{Sought, IsCompiledFrom, answer_to, settled_in}
use Rattle.collation_matches.specs.declared.select.Select.{Select}
use Rattle.colfind_run.specs.Patterns as patterns
use Rattle.colfind_run.specs.Patterns.{IsCompiledWith}
use Rattle.colfind_io.specs.declared.devices.DeviceFault.{DeviceFault}
use Rattle.colfind_io.specs.declared.lines.Lines.{Lines}
use Rattle.colfind_io.specs.declared.output.Output.{Output}
use Rattle.colfind_run.specs.declared.run.TextEnd.{TextEnd}
use Rattle.colfind_run.specs.declared.run.TextEnd.TheVariants.{Good, Fault, Unread}
use Rattle.colfind_io.specs.Devices.{after_piece, one_if}
use Rattle.colfind_run.specs.Finding.{Finds, IsFoundIn, failures_of}
use Rattle.colfind_io.specs.Gathering.{Prints}
use Rattle.colfind_io.specs.Printing.{output, printed_range, printed_lines}
use Rattle.colfind_run.specs.Running.{PrintsPrefix, reported_ranges}
use Rattle.colfind_io.specs.Writing.{WritesPrefix}
use Rattle.colfind_io.proofs.Prints.{output-prefix_of_lines}
use Rattle.colfind_run.proofs.Runs.{has_risen}
use Rattle.colfind_run.proofs.Searched.{short_take}
use Rattle.colfind_run.proofs.Selections.{selected-few}

-- both say that the pattern was compiled of this text
pub compiled_from : (table : TableMap) (pattern : Compiled) (select : Select) (p : List ℕ) (s : Sought) → s ≡ record { table = table; pattern = pattern; select = select } → IsCompiledWith table pattern p → IsCompiledFrom s p
compiled_from table pattern select p s same h = subst (λ (t : Sought). IsCompiledFrom t p) (sym same) h

few_found : (all : List ℕ → Answer) (settled : List ℕ → List (ℕ × ℕ)) (end : TextEnd) (ranges : List (ℕ × ℕ)) (bytes : List ℕ) (left : Option (List ℕ)) →
    length (all bytes).ranges ≤ length bytes + 1 → length (settled bytes) ≤ length bytes + 1 → length bytes ≤ 2 ^ 62 + 4096 →
    IsFoundIn all settled end ranges bytes left → length ranges < 2 ^ 64
few_found all settled Good ranges bytes left few few_settled short found = let e = ap (λ (a : Answer). length a.ranges) found.1 in omega (arith, e, few, short)
few_found all settled (Fault f) ranges bytes left few few_settled short found = let e = ap (λ (a : Answer). length a.ranges) found.1 in omega (arith, e, few, short)
few_found all settled (Unread k) ranges bytes left few few_settled short found = let e = ap (λ (rs : List (ℕ × ℕ)). length rs) found.1 in omega (arith, e, few_settled, short)

pub record Concluded (all : List ℕ → Answer) (settled : List ℕ → List (ℕ × ℕ)) (end : TextEnd) (ranges : List (ℕ × ℕ)) (before after : Option (List ℕ)) : Type 0 where
  pub finds : Finds all settled end ranges before after
  pub few : length ranges < 2 ^ 64

abbrev pub FewAnswered : Type 0
FewAnswered = (table : TableMap) (strength : Strength) (variable : Variable) (pattern bytes : List ℕ) → length (answer table strength variable pattern bytes).ranges ≤ length bytes + 1

abbrev pub FewSettled : Type 0
FewSettled = (table : TableMap) (strength : Strength) (variable : Variable) (pattern text : List ℕ) → length (settled table strength variable pattern text) ≤ length text + 1

pub concluded : FewAnswered → FewSettled → (table : TableMap) (pattern : Compiled) (select : Select) (p : List ℕ) (s : Sought) → s ≡ record { table = table; pattern = pattern; select = select } → IsCompiledWith table pattern p →
    (end : TextEnd) (ranges : List (ℕ × ℕ)) (bytes : List ℕ) (before after : Option (List ℕ)) →
    before ≡ after_piece bytes after → length bytes ≤ 2 ^ 62 + 4096 →
    (IsCompiledFrom s p → IsFoundIn (λ b. answer_to s p b) (λ b. settled_in s p (whole b)) end ranges bytes after) →
    Concluded (patterns.answer_to select table p pattern) (patterns.settled_in select table p pattern) end ranges before after
concluded few few_settled table pattern select p s same h end ranges bytes before after from short found =
    let here : IsFoundIn (patterns.answer_to select table p pattern) (patterns.settled_in select table p pattern) end ranges bytes after =
    subst (λ (t : Sought). IsFoundIn (λ b. answer_to t p b) (λ b. settled_in t p (whole b)) end ranges bytes after) same (found (compiled_from table pattern select p s same h)) in
    let a = few table pattern.strength pattern.variable p bytes in
    let b = few_settled table pattern.strength pattern.variable p (whole bytes) in
    let a' = selected-few select (answer table pattern.strength pattern.variable p bytes).ranges in
    let b' = selected-few select (settled table pattern.strength pattern.variable p (whole bytes)) in
    let n : length (whole bytes) ≤ length bytes = short_take _ bytes in
    record {
      finds = record { bytes = bytes; from_reader = from; found = here };
      few = few_found (patterns.answer_to select table p pattern) (patterns.settled_in select table p pattern) end ranges bytes after
          (omega (arith, a, a')) (omega (arith, b, b', n)) short here;
    }

-- a write failed while the text came: of the ranges so far, which begin the answer, a prefix of the lines was written
pub unwritten : (all : List ℕ → Answer) (settled : List ℕ → List (ℕ × ℕ)) (form : Output) (lines : Lines) (a b : ℕ) (bytes : List ℕ) (handed : List (ℕ × ℕ)) (before after held then : Option (List ℕ)) (f f1 : ℕ) →
    b ≡ a → before ≡ after_piece bytes after → ((rest : List (ℕ × ℕ)) × ((all bytes).ranges ≡ handed ++ rest)) → Prints form lines handed held then f f1 →
    PrintsPrefix (reported_ranges all settled (nat_lt a b)) form before after held then
unwritten all settled form lines a b bytes handed before after held then f f1 same from begins p =
    let reported : reported_ranges all settled (nat_lt a b) bytes ≡ (all bytes).ranges =
    ap (λ t. reported_ranges all settled t bytes) (has_risen a b Good (omega (arith, same))) in
    let more = printed_lines form begins.0 in
    let lines_are : printed_lines form (all bytes).ranges ≡ p.written ++ (p.rest ++ more) =
    ap (printed_lines form) begins.1 ∙ flat_map-append (printed_range form) handed begins.0 ∙ ap (λ xs. xs ++ more) p.whole ∙ append_assoc p.written p.rest more in
    let prefix : WritesPrefix held then (output form (all bytes).ranges) =
    output-prefix_of_lines form (all bytes).ranges held then (record { prefix = p.written; rest = p.rest ++ more; whole = lines_are; written = p.to_writer }) in
    record {
      bytes = bytes;
      from_reader = from;
      to_writer = subst (λ (rs : List (ℕ × ℕ)). WritesPrefix held then (output form rs)) (sym reported) prefix;
    }

pub no_failure : (r : Result (Unit {0}) DeviceFault) → false ≡ is_err r → one_if (not (is_ok r)) ≡ 0
no_failure (Ok a) h = refl
no_failure (Err e) h = absurd (let clash : false ≡ true = h in cc)

pub one_failure : (r : Result (Unit {0}) DeviceFault) → true ≡ is_err r → one_if (not (is_ok r)) ≡ 1
one_failure (Ok a) h = absurd (let clash : true ≡ false = h in cc)
one_failure (Err e) h = refl

pub at_most_one : (end : TextEnd) → failures_of end ≤ 1
at_most_one Good = omega arith
at_most_one (Fault f) = omega arith
at_most_one (Unread k) = omega arith

-- so many failures more, where what counts them is known
pub added : (a b k m : ℕ) → b ≡ a + k → m ≡ k → b ≡ a + m
added a b k m e n = omega (arith, e, n)

pub none_added : (a b k : ℕ) → b ≡ a + k → k ≡ 0 → b ≡ a
none_added a b k e n = omega (arith, e, n)

pub one_added : (a b k m : ℕ) → b ≡ a + k → m ≡ k → m ≤ 1 → (a ≤ b) × (b ≤ a + 1)
one_added a b k m e n most = (omega (arith, e), omega (arith, e, n, most))
