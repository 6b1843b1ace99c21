use Rattle.collation_skip.proofs.classes.is_right_of_known.Goals as goal

pub returns-clause-class : goal.returns-clause-class
returns-clause-class c = λ yes table are. c.is_right.ensures.class yes table (c.in-Some.ensures table c.args.pattern.now are)

pub returns-clause-clean : goal.returns-clause-clean
returns-clause-clean c = λ yes table are some. let letter = c.in-Some.ensures table c.args.pattern.now are in ∣ (c.in-Some.letter, letter, c.is_right.ensures.clean yes some) ∣₁

pub returns-in_default-clause-class : goal.returns-in_default-clause-class
returns-in_default-clause-class c = λ yes table are.
    let barred = c.is_barred.ensures in
    record {
      whole = λ none. absurd (barred.halt yes none);
      any = λ none. absurd (barred.halt yes none);
      other = λ none. absurd (barred.halt yes none);
      behind = λ none. absurd (barred.halt yes none);
      back = λ none. absurd (barred.halt yes none);
      closed = λ none. absurd (barred.joins yes none);
      apart = λ none. absurd (barred.inner yes none);
    }

pub returns-in_default-clause-clean : goal.returns-in_default-clause-clean
returns-in_default-clause-clean c = λ yes table are some. absurd (some (c.is_barred.ensures.clean yes))
