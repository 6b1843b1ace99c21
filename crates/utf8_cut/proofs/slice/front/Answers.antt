use Rattle.std.proofs.Common.{Some, ap, sym, ◌∙◌}
use Rattle.std.specs.Str.{chars}
use Rattle.utf8_cut.specs.Characters.{with_offsets}
use Rattle.utf8_cut.proofs.CharactersLemmas.{text_prefix, text_fault, fault_within}
use Rattle.utf8_cut.proofs.slice.front.Goals as goal

pub returns-in-Ok-clause-text : goal.returns-in-Ok-clause-text
returns-in-Ok-clause-text c = c.in-Ok.ensures.cases.0 ∙ sym (text_prefix _ c.in-Ok.ensures.cases.1)

pub returns-in-Ok-clause-fault : goal.returns-in-Ok-clause-fault
returns-in-Ok-clause-fault c = sym (text_fault _ c.in-Ok.ensures.cases.1)

pub returns-in-Ok-clause-characters : goal.returns-in-Ok-clause-characters
returns-in-Ok-clause-characters c = ap (λ t. with_offsets 0 (chars t)) (c.in-Ok.ensures.cases.0 ∙ sym (text_prefix _ c.in-Ok.ensures.cases.1))

pub returns-in-Err-clause-fault : goal.returns-in-Err-clause-fault
returns-in-Err-clause-fault c =
    let at = c.valid_up_to-end.ensures ∙ c.in-Err.ensures.valid_len in
    ap Some at ∙ sym (fault_within c.args.bytes.now _ c.in-Err.ensures.valid_len c.in-Err.ensures.cases.1.short)
