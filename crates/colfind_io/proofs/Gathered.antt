-- Lines that are gathered, written and counted.
use Rattle.std.specs.Prelude.{Result, Ok, Err, OnOk, OnErr, is_ok, is_err, not, Option}
use Rattle.std.proofs.Common.{◌≡◌, ◌∙◌, ℕ, ◌+◌, ◌<◌, ◌^◌, Bool, true, false, List, [], ◌∷◌, ◌++◌, length, sym, ap, subst, arith, append_assoc, append-nil, length-append}
use Rattle.std.proofs.lemmas.List.Concat.{flat_map-append}
use Rattle.colfind_io.specs.declared.devices.DeviceFault.{DeviceFault}
use Rattle.colfind_io.specs.declared.output.Output.{Output}
use Rattle.colfind_io.specs.declared.lines.Lines.{Lines}
use Rattle.colfind_io.specs.Devices.{with_piece, one_if}
use Rattle.colfind_io.specs.Gathering.{Prints}
use Rattle.colfind_io.specs.Printing.{output, printed_range, printed_lines, printed_end}
use Rattle.colfind_io.specs.Writing.{WritesPrefix}
use Rattle.colfind_io.proofs.Pieces.{write-step}
use Rattle.colfind_io.proofs.Prints.{output-whole, output-prefix_of_lines, output-prefix_of_end}

not_both : (b : Bool) → b ≡ true → b ≡ false → ⊥
not_both b h k = let clash : true ≡ false = sym h ∙ k in cc

-- the lines that waited were written, or a prefix of them
pub sent : (form : Output) (old new : Lines) (ranges : List (ℕ × ℕ)) (before during after : Option (List ℕ)) (f f1 f2 : ℕ) (bytes : List ℕ) (r : Result (Unit {0}) DeviceFault) →
    Prints form old ranges before during f f1 → false ≡ old.failed → bytes ≡ old.waiting.bytes →
    OnOk r (after ≡ with_piece bytes during) → OnErr r (WritesPrefix during after bytes) → f2 ≡ f1 + one_if (not (is_ok r)) →
    new.form ≡ old.form → new.count ≡ old.count → new.waiting.bytes ≡ [] → new.failed ≡ is_err r →
    Prints form new ranges before after f f2
sent form old new ranges before during after f f1 f2 bytes (Ok a) p good is wrote prefix count form_same count_same empty failed = record {
  form_is = form_same ∙ p.form_is;
  written = p.written ++ bytes;
  rest = [];
  whole = p.whole ∙ ap (λ xs. p.written ++ xs) (p.waits (sym good) ∙ sym is) ∙ sym (append-nil (p.written ++ bytes));
  to_writer = write-step before during after p.written bytes p.to_writer wrote;
  waits = λ h. sym empty;
  counted = λ h. count_same ∙ p.counted h;
  failed = let e = ap one_if good in let e' = ap one_if failed in let b = p.failed in omega (arith, e, e', b, count);
}
sent form old new ranges before during after f f1 f2 bytes (Err e) p good is wrote prefix count form_same count_same empty failed = record {
  form_is = form_same ∙ p.form_is;
  written = p.written ++ prefix.prefix;
  rest = prefix.rest;
  whole = p.whole ∙ ap (λ xs. p.written ++ xs) (p.waits (sym good) ∙ sym is ∙ prefix.whole) ∙ sym (append_assoc p.written prefix.prefix prefix.rest);
  to_writer = write-step before during after p.written prefix.prefix p.to_writer prefix.written;
  waits = λ h. absurd (not_both new.failed failed h);
  counted = λ h. count_same ∙ p.counted h;
  failed = let e = ap one_if good in let e' = ap one_if failed in let b = p.failed in omega (arith, e, e', b, count);
}

-- after a failed write nothing is written
pub unsent : (form : Output) (old new : Lines) (ranges : List (ℕ × ℕ)) (before after : Option (List ℕ)) (f f1 : ℕ) →
    Prints form old ranges before after f f1 → true ≡ old.failed →
    new.form ≡ old.form → new.count ≡ old.count → new.failed ≡ old.failed →
    Prints form new ranges before after f f1
unsent form old new ranges before after f f1 p bad form_same count_same failed = record {
  form_is = form_same ∙ p.form_is;
  written = p.written;
  rest = p.rest;
  whole = p.whole;
  to_writer = p.to_writer;
  waits = λ h. absurd (not_both new.failed (failed ∙ sym bad) h);
  counted = λ h. count_same ∙ p.counted h;
  failed = p.failed ∙ ap (λ b. f + one_if b) (sym failed);
}

printed_lines-push : (form : Output) (ranges : List (ℕ × ℕ)) (range : ℕ × ℕ) →
    printed_lines form (ranges ++ range ∷ []) ≡ printed_lines form ranges ++ printed_range form range
printed_lines-push form ranges range =
    flat_map-append (printed_range form) ranges (range ∷ [])
    ∙ ap (λ xs. printed_lines form ranges ++ xs) (append-nil (printed_range form range))

-- the lines of one range more
pub grown : (form : Output) (old new : Lines) (ranges : List (ℕ × ℕ)) (range : ℕ × ℕ) (before after : Option (List ℕ)) (f f1 : ℕ) →
    Prints form old ranges before after f f1 →
    new.form ≡ old.form → (old.count + 1 < 2 ^ 64 → new.count ≡ old.count + 1) → new.waiting.bytes ≡ old.waiting.bytes ++ printed_range old.form range → new.failed ≡ old.failed →
    Prints form new (ranges ++ range ∷ []) before after f f1
grown form old new ranges range before after f f1 p form_same count_more waiting failed =
    let line = printed_range form range in
    record {
      form_is = form_same ∙ p.form_is;
      written = p.written;
      rest = p.rest ++ line;
      whole = printed_lines-push form ranges range ∙ ap (λ xs. xs ++ line) p.whole ∙ append_assoc p.written p.rest line;
      to_writer = p.to_writer;
      waits = λ h. ap (λ xs. xs ++ line) (p.waits (sym failed ∙ h)) ∙ ap (λ o. old.waiting.bytes ++ printed_range o range) (sym p.form_is) ∙ sym waiting;
      counted = λ h.
          let longer = length-append ranges (range ∷ []) in
          let so_far = p.counted (omega (arith, longer, h)) in
          let more = count_more (omega (arith, longer, h, so_far)) in
          omega (arith, longer, so_far, more);
      failed = p.failed ∙ ap (λ b. f + one_if b) (sym failed);
    }

-- after a failed write a prefix of all is there
pub failed-prefix : (form : Output) (lines : Lines) (ranges : List (ℕ × ℕ)) (before after : Option (List ℕ)) (f f1 : ℕ) →
    Prints form lines ranges before after f f1 → WritesPrefix before after (output form ranges)
failed-prefix form lines ranges before after f f1 p =
    output-prefix_of_lines form ranges before after (record { prefix = p.written; rest = p.rest; whole = p.whole; written = p.to_writer })

module _ (form : Output) (lines : Lines) (ranges : List (ℕ × ℕ)) (before during after : Option (List ℕ)) (f f1 : ℕ) (p : Prints form lines ranges before during f f1)
    (good : false ≡ lines.failed) (empty : lines.waiting.bytes ≡ []) (few : length ranges < 2 ^ 64) where
  all_lines : during ≡ with_piece (printed_lines form ranges) before
  all_lines =
      let none : p.rest ≡ [] = p.waits (sym good) ∙ empty in
      p.to_writer ∙ ap (λ xs. with_piece xs before) (sym (p.whole ∙ ap (λ xs. p.written ++ xs) none ∙ append-nil p.written))

  end_is : printed_end lines.form lines.count ≡ printed_end form (length ranges)
  end_is = ap (λ o. printed_end o lines.count) p.form_is ∙ ap (printed_end form) (p.counted few)

  pub whole-at_end : (r : Result (Unit {0}) DeviceFault) → OnOk r (after ≡ with_piece (printed_end lines.form lines.count) during) →
      OnOk r (after ≡ with_piece (output form ranges) before)
  whole-at_end (Ok a) h = output-whole form ranges before during after all_lines (h ∙ ap (λ xs. with_piece xs during) end_is)
  whole-at_end (Err e) h = tt

  pub prefix-at_end : (r : Result (Unit {0}) DeviceFault) → OnErr r (WritesPrefix during after (printed_end lines.form lines.count)) →
      OnErr r (WritesPrefix before after (output form ranges))
  prefix-at_end (Ok a) h = tt
  prefix-at_end (Err e) h = output-prefix_of_end form ranges before during after all_lines (subst (WritesPrefix during after) end_is h)
