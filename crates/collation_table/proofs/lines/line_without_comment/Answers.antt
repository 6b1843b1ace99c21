use Rattle.std.proofs.Common.{◌<◌, length, ap, sym, ◌∙◌, arith, rules}
use Rattle.std.proofs.lemmas.Bool.{eqb-true, eqb-false}
use Rattle.collation_table.specs.Spelling.{trim_start}
use Rattle.collation_table.proofs.LineForms.{form_of-empty, form_of-directive, form_of-no_directive}
use Rattle.collation_table.proofs.lines.line_without_comment.Goals as goal

pub returns-then-is_empty : goal.returns-then-is_empty
returns-then-is_empty c = record {
  value =
      let none = eqb-true (length c.without_leading_blanks-trimmed.result.now) 0 (sym c.is_empty.ensures ∙ c.if-is_empty.true) in
      sym (form_of-empty c.args.text.now (ap length (sym c.without_leading_blanks-trimmed.ensures) ∙ none));
  some = search rules;
}

pub returns-in-Some : goal.returns-in-Some
returns-in-Some c =
    let apart = eqb-false (length c.without_leading_blanks-trimmed.result.now) 0 (sym c.is_empty.ensures ∙ c.if-is_empty.false) in
    let some : 0 < length (trim_start c.args.text.now) = omega (arith, apart, ap length c.without_leading_blanks-trimmed.ensures) in
    record {
      value = sym (form_of-directive c.args.text.now _ some (sym c.in-Some.ensures.value));
      some = c.in-Some.ensures.some;
    }

pub returns : goal.returns
returns c =
    let apart = eqb-false (length c.without_leading_blanks-trimmed.result.now) 0 (sym c.is_empty.ensures ∙ c.if-is_empty.false) in
    let some : 0 < length (trim_start c.args.text.now) = omega (arith, apart, ap length c.without_leading_blanks-trimmed.ensures) in
    record {
      value = rw (form_of-no_directive c.args.text.now some (sym c.in_default.ensures.value)) c.entry.ensures.value;
      some = c.entry.ensures.some;
    }
