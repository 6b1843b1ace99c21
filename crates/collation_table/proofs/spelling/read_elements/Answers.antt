use Rattle.std.proofs.Common.{◌≤◌, [], ◌∷◌, ◌++◌, length, drop, ap, sym, ◌∙◌, arith}
use Rattle.std.proofs.lemmas.Bool.{eqb-false}
use Rattle.collation_table.specs.Spelling.{begins_with_blank, elements_of_parts}
use Rattle.collation_table.proofs.Cuts.{parts}
use Rattle.collation_table.proofs.Parsed.{joined, joined-none}
use Rattle.collation_table.proofs.LineForms.{begins_with_blank-trimmed}
use Rattle.collation_table.proofs.FrontElements.{elements_of_parts-trimmed, elements_none, elements_on}
use Rattle.collation_table.proofs.spelling.read_elements.Goals as goal

pub loop-rest-init : goal.loop-rest-init
loop-rest-init c = record {
  found =
      ap (λ xs. joined xs (elements_of_parts (parts 93 c.without_leading_blanks-rest.result.now))) c.clear.ensures.items
      ∙ joined-none (elements_of_parts (parts 93 c.without_leading_blanks-rest.result.now))
      ∙ ap (λ bytes. elements_of_parts (parts 93 bytes)) c.without_leading_blanks-rest.ensures
      ∙ elements_of_parts-trimmed c.args.text.now;
  trimmed = ap begins_with_blank c.without_leading_blanks-rest.ensures ∙ begins_with_blank-trimmed c.args.text.now;
}

pub returns-in_default-clause-value : goal.returns-in_default-clause-value
returns-in_default-clause-value c =
    let apart = eqb-false (length c.loop-rest.rest.now) 0 (sym c.is_empty.ensures ∙ c.loop-rest-test.true) in
    sym (elements_none c.loop-rest.elements.items c.args.text.now c.loop-rest.rest.now (omega (arith, apart)) c.loop-rest.invariant.trimmed (sym c.element_at_front.ensures.value ∙ c.in_default.is) c.loop-rest.invariant.found)

pub loop-rest-preserved : goal.loop-rest-preserved
loop-rest-preserved c =
    let long : 17 ≤ length c.loop-rest.rest.now = c.in-Some.ensures.within in
    record {
      found =
          ap (λ xs. joined xs (elements_of_parts (parts 93 c.without_front-rest.result.now))) c.in_ok-push.ensures.items
          ∙ ap (λ bytes. joined (c.loop-rest.elements.items ++ c.in-Some.element ∷ []) (elements_of_parts (parts 93 bytes))) c.without_front-rest.ensures
          ∙ elements_on c.loop-rest.elements.items c.in-Some.element (elements_of_parts (parts 93 c.args.text.now)) c.loop-rest.rest.now long (sym c.element_at_front.ensures.value ∙ c.in-Some.is) c.loop-rest.invariant.found;
      trimmed = ap begins_with_blank c.without_front-rest.ensures ∙ begins_with_blank-trimmed (drop 17 c.loop-rest.rest.now);
    }
