use Rattle.std.specs.Str.{chars}
use Rattle.std.proofs.Common.{◌≡◌, ◌∙◌, ℕ, List, [], ◌∷◌, ◌++◌, ◌-◌, take, drop, sym, ap, subst, arith}
use Rattle.std.proofs.lemmas.List.{take_all}
use Rattle.collation_letters.specs.Letters.{IsLetter}
use Rattle.collation_finder.proofs.CharacterLemmas.{one_taken}
use Rattle.collation_finder.proofs.letter_loop.join.Goals as goal

-- the two characters of a string
pub returns-else-is_steps-clause-joined : goal.returns-else-is_steps-clause-joined
returns-else-is_steps-clause-joined g c =
    let text = take (c.args.end - c.args.at) (drop c.args.at c.args.piece.now) in
    let first = c.in_ok-first.first in
    let len = c.in_ok-first.len in
    let one = one_taken text len first c.in_ok-first.ensures.len c.in_ok-first.ensures.some.1 in
    let all : take len text ≡ text = take_all len text (omega (arith, c.if-len-so_far.false)) in
    let codes : chars text ≡ first ∷ [] = ap chars (sym all) ∙ one.1 in
    λ letter following. subst (λ (cs : List ℕ). IsLetter (g.W.Weights.table c.args.query.now.table.now) c.args.query.now.pattern.now (cs ++ c.args.next ∷ []) c.pair-pair.result) (sym codes) c.pair-pair.ensures.letter
