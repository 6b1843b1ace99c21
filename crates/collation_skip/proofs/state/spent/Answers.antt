use Rattle.std.proofs.Common.{◌∙◌, Some, refl, sym, subst, arith}
use Rattle.collation_letters.specs.declared.letter.Letter.{Letter}
use Rattle.collation_letters.specs.Letters.{IsLetterAt}
use Rattle.collation_letters.proofs.JoiningLemmas.{base-not_mark}
use Rattle.collation_skip.proofs.SpentLemmas.{held-without_apart, spent-letter}
use Rattle.collation_skip.proofs.state.spent.Goals as goal

pub returns-then-is_clean-clause-letter : goal.returns-then-is_clean-clause-letter
returns-then-is_clean-clause-letter c = λ table ps h. c.with_most_points.ensures.letter c.args.depth table c.args.pattern.now ps h

pub returns-then-not-has_last_key-clause-letter : goal.returns-then-not-has_last_key-clause-letter
returns-then-not-has_last_key-clause-letter c = λ table ps h.
    subst (λ (l : Letter). IsLetterAt (Some c.args.depth) table c.args.pattern.now ps l) (sym c.without_apart.ensures.same)
    (held-without_apart (Some c.args.depth) table c.args.pattern.now ps c.args.letter h)

pub returns-clause-letter : goal.returns-clause-letter
returns-clause-letter c = λ table ps h.
    let has = c.has_last_key.ensures in
    let yes = c.if-not-has_last_key.false in
    c.settled.ensures.points (Some c.args.depth) table c.args.pattern.now ps
    (c.with_most_points-2.ensures.letter c.args.depth table c.args.pattern.now ps
    (spent-letter table c.args.pattern.now ps c.args.depth c.args.letter _ (base-not_mark c.args.letter.role (has.begins yes)) refl refl refl (omega arith) refl (has.some yes)
    (λ before keys symbols at. c.depth_after.ensures before keys symbols at ∙ c.if-depth_after-ne0.false) h))
