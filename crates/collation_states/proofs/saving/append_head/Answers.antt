use Rattle.collation_states.proofs.saving.append_head.Goals as goal

pub returns-in-All-clause-saved : goal.returns-in-All-clause-saved
returns-in-All-clause-saved c =
    rw (← c.word_of_select.ensures, ← c.word_of_strength.ensures, ← c.word_of_variable.ensures, c.in-All.is) c.in_ok-extend_from_slice.ensures.items
