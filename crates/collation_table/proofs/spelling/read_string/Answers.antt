use Rattle.std.proofs.Common.{◌≡◌, Some, None, [], ◌∷◌, ◌++◌, length, take, drop, ap, sym, ◌∙◌, arith}
use Rattle.std.specs.List.{position_or_len}
use Rattle.std.proofs.lemmas.Bool.{eqb-false}
use Rattle.collation_table.specs.Spelling.{begins_with_blank, trim_start, is_blank, code_point_of}
use Rattle.collation_table.proofs.LineForms.{begins_with_blank-trimmed}
use Rattle.collation_table.proofs.Parsed.{joined, joined-none, points_in, pieces}
use Rattle.collation_table.proofs.Words.{points_in-trimmed, points_on, points_none}
use Rattle.collation_table.proofs.spelling.read_string.Goals as goal

pub loop-rest-init : goal.loop-rest-init
loop-rest-init c = record {
  found =
      ap (λ xs. joined xs (points_in (pieces c.without_leading_blanks-rest.result.now))) c.clear.ensures.items
      ∙ joined-none (points_in (pieces c.without_leading_blanks-rest.result.now))
      ∙ ap (λ bytes. points_in (pieces bytes)) c.without_leading_blanks-rest.ensures
      ∙ points_in-trimmed c.args.text.now;
  trimmed = ap begins_with_blank c.without_leading_blanks-rest.ensures ∙ begins_with_blank-trimmed c.args.text.now;
}

pub returns-in_default-clause-value : goal.returns-in_default-clause-value
returns-in_default-clause-value c =
    let apart = eqb-false (length c.loop-rest.rest.now) 0 (sym c.is_empty.ensures ∙ c.loop-rest-test.true) in
    let none : code_point_of (take (position_or_len is_blank c.loop-rest.rest.now) c.loop-rest.rest.now) ≡ None =
    ap (λ n. code_point_of (take n c.loop-rest.rest.now)) (sym c.word_len-len.ensures.value) ∙ sym c.code_point.ensures.value ∙ c.in_default.is in
    sym (points_none c.loop-rest.string.items c.args.text.now c.loop-rest.rest.now (omega (arith, apart)) c.loop-rest.invariant.trimmed none c.loop-rest.invariant.found)

pub loop-rest-preserved : goal.loop-rest-preserved
loop-rest-preserved c =
    let some : code_point_of (take (position_or_len is_blank c.loop-rest.rest.now) c.loop-rest.rest.now) ≡ Some c.in-Some.point =
    ap (λ n. code_point_of (take n c.loop-rest.rest.now)) (sym c.word_len-len.ensures.value) ∙ sym c.code_point.ensures.value ∙ c.in-Some.is in
    record {
      found =
          ap (λ xs. joined xs (points_in (pieces c.without_front-rest.result.now))) c.in_ok-push.ensures.items
          ∙ ap (λ bytes. joined (c.loop-rest.string.items ++ c.in-Some.point ∷ []) (points_in (pieces bytes))) (c.without_front-rest.ensures ∙ ap (λ n. trim_start (drop n c.loop-rest.rest.now)) c.word_len-len.ensures.value)
          ∙ points_on c.loop-rest.string.items c.in-Some.point (points_in (pieces c.args.text.now)) c.loop-rest.rest.now some c.loop-rest.invariant.found;
      trimmed = ap begins_with_blank c.without_front-rest.ensures ∙ begins_with_blank-trimmed (drop c.word_len-len.result c.loop-rest.rest.now);
    }
