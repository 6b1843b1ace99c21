use Rattle.std.proofs.Common.{◌∙◌, List, [], ◌∷◌, ◌++◌, ap, subst, append_assoc}
use Rattle.collation_elements.specs.declared.keys.Item.{Item}
use Rattle.collation_elements.specs.declared.weigher.Weigher.{Weigher}
use Rattle.collation_elements.specs.Weighing.{WeigherStandsFor}
use Rattle.collation_walk.specs.Walked.{TakesUnit}
use Rattle.collation_walk.specs.Walks.{WalksOver}
use Rattle.collation_walk.proofs.matching.take_unit.Goals as goal

pub returns-in-Some-clause-taken : goal.returns-in-Some-clause-taken
returns-in-Some-clause-taken c = record {
  weighed = λ table points units given is stands.
      subst (λ (t : List Item). WeigherStandsFor table c.take_short.new.self (units ++ points ∷ []) (given ++ t)) c.in-Some.ensures.items
      (c.in-Some.ensures.stands table points units given is stands);
  after = c.in-Some.ensures.after;
  walked = λ before ranges h.
      let starts = c.walk_start.ensures.stands before ranges h in
      let keyed = c.walk_key.ensures.stands _ _ starts in
      subst (λ (t : List Item). WalksOver c.args.pattern.now.keys t (ranges ++ c.walk_start.new.found.items) c.walk_key.new.walk)
      (append_assoc before _ _ ∙ ap (λ t. before ++ t) c.in-Some.ensures.items) keyed;
}

-- the weigher is as it was
pub returns-in-None-clause-taken : goal.returns-in-None-clause-taken
returns-in-None-clause-taken c =
    let long = c.take_long.ensures.taken in
    subst (λ (w : Weigher). TakesUnit c.args.pattern.now (record { weigher = w; walk = c.args.matcher.now.walk }) c.take_long.new.matcher c.args.unit c.args.found.now.items c.take_long.new.found.items) c.in-None.ensures.none long
