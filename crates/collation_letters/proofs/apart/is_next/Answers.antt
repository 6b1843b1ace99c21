use Rattle.std.proofs.Common.{[], ◌∷◌, inl, inr}
use Rattle.collation_letters.proofs.LetterApart.{next-of_letter, plain-known, taken-known}
use Rattle.collation_letters.proofs.apart.is_next.Goals as goal

pub returns-then-letter-clause-apart : goal.returns-then-letter-clause-apart
returns-then-letter-clause-apart c = λ yes depth table pattern at cs next h f.
    let laws = c.laws_of_characters.ensures in
    next-of_letter laws laws.order_shifted laws.shifted c.units_stay_apart.ensures.before depth table pattern at cs next c.args.letter.now c.args.following.now
    (taken-known c.args.letter.now.role (inr c.in-Base.is)) (c.is_starter-in-Base.ensures c.if-is_starter.true table pattern (next ∷ []) f) (inl yes) h f

pub returns-else-letter-clause-apart : goal.returns-else-letter-clause-apart
returns-else-letter-clause-apart c = λ yes depth table pattern at cs next h f.
    let laws = c.laws_of_characters.ensures in
    next-of_letter laws laws.order_shifted laws.shifted c.units_stay_apart.ensures.before depth table pattern at cs next c.args.letter.now c.args.following.now
    (taken-known c.args.letter.now.role (inr c.in-Base.is)) (c.is_starter-in-Base.ensures c.if-is_starter.true table pattern (next ∷ []) f) (inr yes) h f

pub returns-in-Plain-clause-apart : goal.returns-in-Plain-clause-apart
returns-in-Plain-clause-apart c = λ yes depth table pattern at cs next h f.
    let laws = c.laws_of_characters.ensures in
    next-of_letter laws laws.order_shifted laws.shifted c.units_stay_apart.ensures.before depth table pattern at cs next c.args.letter.now c.args.following.now
    (plain-known c.args.letter.now.role c.in-Plain.is) (c.is_starter.ensures yes table pattern (next ∷ []) f) (inl (h.plain c.in-Plain.is).0) h f
