use Rattle.std.specs.Str.{chars}
use Rattle.std.proofs.Common.{◌≡◌, ◌∙◌, ℕ, List, [], ◌∷◌, ◌++◌, sym, ap, subst, arith}
use Rattle.std.proofs.lemmas.List.{take_all}
use Rattle.collation_letters.specs.Letters.{IsLetter}
use Rattle.collation_finder.proofs.CharacterLemmas.{one_taken}
use Rattle.collation_finder.proofs.reading.with_mark_in_order.Goals as goal

-- one character and the mark
pub returns-else-is_steps-clause-joined : goal.returns-else-is_steps-clause-joined
returns-else-is_steps-clause-joined g c = λ letter mark.
    let text = c.args.so_far.now in
    let first = c.in_ok-first.first in
    let n = c.in_ok-first.len in
    let one : chars text ≡ first ∷ [] =
    ap chars (sym (take_all n text (omega (arith, c.if-len-so_far.true)))) ∙ (one_taken text n first c.in_ok-first.ensures.len c.in_ok-first.ensures.some.1).1 in
    subst (λ (cs : List ℕ). IsLetter (g.W.Weights.table c.args.query.now.table.now) c.args.query.now.pattern.now (cs ++ c.args.c ∷ []) c.pair-both.result) (sym one) c.pair-both.ensures.letter
