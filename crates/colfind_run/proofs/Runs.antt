-- What a run has read and printed, from what was found and written.
use Rattle.std.proofs.Common.{◌≡◌, ◌+◌, ℕ, true, false, List, length, Option, sym, ap, ◌∙◌, subst, nat_lt, arith}
use Rattle.std.specs.Prelude.{Result, Ok, Err, OnOk, OnErr, is_err}
use Rattle.std.proofs.lemmas.Bool.Decides.{nat_tests}
use Rattle.collation_matches.specs.Answer.{Answer}
use Rattle.collation_matches.specs.declared.TextFault.{TextFault}
use Rattle.colfind_io.specs.declared.output.Output.{Output}
use Rattle.colfind_run.specs.declared.run.TextEnd.{TextEnd}
use Rattle.colfind_run.specs.declared.run.TextEnd.TheVariants.{Good, Fault, Unread}
use Rattle.colfind_io.specs.Devices.{with_piece}
use Rattle.colfind_io.specs.Printing.{output}
use Rattle.colfind_io.specs.Writing.{WritesPrefix}
use Rattle.colfind_run.specs.Finding.{Finds, IsFoundIn, failures_of}
use Rattle.colfind_run.specs.Running.{PrintsAll, PrintsToFault, PrintsSettled, PrintsPrefix, reported_ranges}

module _ (all : List ℕ → Answer) (settled : List ℕ → List (ℕ × ℕ)) (form : Output) (ranges : List (ℕ × ℕ)) (before after held then : Option (List ℕ)) where
  pub prints_all : (count : ℕ) → Finds all settled Good ranges before after → then ≡ with_piece (output form ranges) held → count ≡ length ranges
      → PrintsAll all form count before after held then
  prints_all count finds wrote counted =
      let is = ap (λ a. a.ranges) finds.found.1 in
      record {
        bytes = finds.bytes;
        from_reader = finds.from_reader;
        end = finds.found.0;
        good = ap (λ a. a.fault) finds.found.1;
        counted = counted ∙ ap length (sym is);
        to_writer = wrote ∙ ap (λ rs. with_piece (output form rs) held) (sym is);
      }

  pub prints_to_fault : (fault : TextFault) → Finds all settled (Fault fault) ranges before after → then ≡ with_piece (output form ranges) held
      → PrintsToFault all form fault before after held then
  prints_to_fault fault finds wrote = record {
    bytes = finds.bytes;
    from_reader = finds.from_reader;
    mendable = finds.found.0;
    fault = ap (λ a. a.fault) finds.found.1;
    to_writer = wrote ∙ ap (λ rs. with_piece (output form rs) held) (sym (ap (λ a. a.ranges) finds.found.1));
  }

  pub prints_settled : (count : ℕ) → Finds all settled (Unread count) ranges before after → then ≡ with_piece (output form ranges) held
      → PrintsSettled settled form count before after held then
  prints_settled count finds wrote = record {
    bytes = finds.bytes;
    from_reader = finds.from_reader;
    open_text = finds.found.0;
    counted = finds.found.2;
    to_writer = wrote ∙ ap (λ rs. with_piece (output form rs) held) finds.found.1;
  }

-- whether the reader failed, as its count says
pub has_risen : (a b : ℕ) (end : TextEnd) → b ≡ a + failures_of end → nat_lt a b ≡ nat_lt 0 (failures_of end)
has_risen a b Good e = grind (arith, nat_tests)
has_risen a b (Fault f) e = grind (arith, nat_tests)
has_risen a b (Unread k) e = grind (arith, nat_tests)

reported : (all : List ℕ → Answer) (settled : List ℕ → List (ℕ × ℕ)) (end : TextEnd) (ranges : List (ℕ × ℕ)) (bytes : List ℕ) (left : Option (List ℕ))
    → IsFoundIn all settled end ranges bytes left → reported_ranges all settled (nat_lt 0 (failures_of end)) bytes ≡ ranges
reported all settled Good ranges bytes left found = ap (λ a. a.ranges) found.1
reported all settled (Fault f) ranges bytes left found = ap (λ a. a.ranges) found.1
reported all settled (Unread k) ranges bytes left found = sym found.1

pub prints_prefix : (all : List ℕ → Answer) (settled : List ℕ → List (ℕ × ℕ)) (form : Output) (a b : ℕ) (end : TextEnd) (ranges : List (ℕ × ℕ)) (before after held then : Option (List ℕ))
    → b ≡ a + failures_of end → Finds all settled end ranges before after → WritesPrefix held then (output form ranges)
    → PrintsPrefix (reported_ranges all settled (nat_lt a b)) form before after held then
prints_prefix all settled form a b end ranges before after held then count finds prefix =
    let is : reported_ranges all settled (nat_lt a b) finds.bytes ≡ ranges =
    ap (λ f. reported_ranges all settled f finds.bytes) (has_risen a b end count) ∙ reported all settled end ranges finds.bytes after finds.found in
    record {
      bytes = finds.bytes;
      from_reader = finds.from_reader;
      to_writer = subst (λ rs. WritesPrefix held then (output form rs)) (sym is) prefix;
    }

module _ {T E P : Type 0} where
  -- what holds at an `Err`, where the test gave one
  pub at_err : (r : Result T E) → OnErr r P → true ≡ is_err r → P
  at_err (Ok x) holds test = absurd (let h : true ≡ false = test in cc)
  at_err (Err e) holds test = holds

  -- what holds at an `Ok`, where the test gave no error
  pub at_ok : (r : Result T E) → OnOk r P → false ≡ is_err r → P
  at_ok (Ok x) holds test = holds
  at_ok (Err e) holds test = absurd (let h : false ≡ true = test in cc)
