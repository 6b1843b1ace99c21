use Rattle.std.proofs.Common.{sym, ◌∙◌}
use Rattle.utf8_cut.proofs.CharactersLemmas.{text_fault}
use Rattle.colfind_c.proofs.exports.text_of.Goals as goal

pub returns-in_default-Some-clause-none : goal.returns-in_default-Some-clause-none
returns-in_default-Some-clause-none c u =
    let some_is_none = sym c.in_default-Some.is-1 ∙ c.front.ensures.fault ∙ text_fault c.args.bytes.now u in cc
