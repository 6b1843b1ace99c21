-- What is printed, range by range.
use Rattle.std.proofs.Common.{◌≡◌, ℕ, List, [], ◌++◌, length, drop, refl, sym, ap, ◌∙◌, append_assoc, append-nil, Option}
use Rattle.colfind_io.specs.Devices.{with_piece}
use Rattle.colfind_io.specs.Writing.{WritesPrefix}
use Rattle.colfind_io.proofs.Pieces.{write-step, prefix-of_part}
use Rattle.colfind_io.specs.Printing.{output, printed_lines, printed_end}
use Rattle.colfind_io.specs.declared.output.Output.{Output}

-- all is printed range by range, and then the end
pub output-splits : (form : Output) (ranges : List (ℕ × ℕ)) → output form ranges ≡ printed_lines form ranges ++ printed_end form (length ranges)
output-splits form ranges = refl

-- what was written of the lines, and those that are left
pub record Printed (form : Output) (ranges : List (ℕ × ℕ)) (before after : Option (List ℕ)) (i : ℕ) : Type 0 where
  pub lines : List ℕ
  pub whole : printed_lines form ranges ≡ lines ++ printed_lines form (drop i ranges)
  pub written : after ≡ with_piece lines before

-- the lines and then the end are all
pub output-whole : (form : Output) (ranges : List (ℕ × ℕ)) (before during after : Option (List ℕ))
    → during ≡ with_piece (printed_lines form ranges) before → after ≡ with_piece (printed_end form (length ranges)) during
    → after ≡ with_piece (output form ranges) before
output-whole form ranges before during after first second =
    write-step before during after (printed_lines form ranges) (printed_end form (length ranges)) first second
    ∙ ap (λ xs. with_piece xs before) (sym (output-splits form ranges))

-- a prefix of the lines is a prefix of all
pub output-prefix_of_lines : (form : Output) (ranges : List (ℕ × ℕ)) (before after : Option (List ℕ))
    → WritesPrefix before after (printed_lines form ranges) → WritesPrefix before after (output form ranges)
output-prefix_of_lines form ranges before after prefix = record {
  prefix = prefix.prefix;
  rest = prefix.rest ++ printed_end form (length ranges);
  whole = output-splits form ranges ∙ ap (λ xs. xs ++ printed_end form (length ranges)) prefix.whole
      ∙ append_assoc prefix.prefix prefix.rest (printed_end form (length ranges));
  written = prefix.written;
}

-- the lines and a prefix of the end are a prefix of all
pub output-prefix_of_end : (form : Output) (ranges : List (ℕ × ℕ)) (before during after : Option (List ℕ))
    → during ≡ with_piece (printed_lines form ranges) before → WritesPrefix during after (printed_end form (length ranges))
    → WritesPrefix before after (output form ranges)
output-prefix_of_end form ranges before during after first prefix =
    prefix-of_part before during after (printed_lines form ranges) (printed_end form (length ranges)) []
    (output form ranges) (output-splits form ranges ∙ sym (append-nil (printed_lines form ranges ++ printed_end form (length ranges)))) first prefix
