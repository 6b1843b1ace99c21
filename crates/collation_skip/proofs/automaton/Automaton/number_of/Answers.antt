use Rattle.collation_skip.proofs.automaton.Automaton.number_of.Goals as goal

pub returns-in_err-number-clause-right : goal.returns-in_err-number-clause-right
returns-in_err-number-clause-right c = λ table pattern right. c.add.ensures.right table pattern (c.make_places.ensures.right table pattern right)

pub returns-clause-right : goal.returns-clause-right
returns-clause-right c = λ table pattern right. c.note.ensures.right table pattern (c.add.ensures.right table pattern (c.make_places.ensures.right table pattern right))
