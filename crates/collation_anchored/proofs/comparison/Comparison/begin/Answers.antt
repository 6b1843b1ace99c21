use Rattle.std.proofs.Common.{◌∙◌, [], length, take, refl, rules, sym, ap, arith}
use Rattle.std.proofs.lemmas.Str.{chars-nil}
use Rattle.nfd_points.proofs.ReorderingLemmas.{HasReordered-nil}
use Rattle.nfd_points.specs.Reordering.{is_closed}
use Rattle.collation_anchored.specs.declared.keys.Progress.{Progress}
use Rattle.collation_anchored.proofs.comparison.Comparison.begin.Goals as goal

pub invariant_of-self : goal.invariant_of-self
unfolding is_closed
invariant_of-self c =
    let none = ap (λ w. w.points) c.clear.ensures.empty in
    record {
      capacity = ap (λ w. w.capacity) c.clear.ensures.empty ∙ c.args.self.now.capacity;
      undecided = let zero = ap length none in omega (arith, zero);
      closed = ap is_closed none;
      not_ended = ap (λ w. w.has_ended) c.clear.ensures.empty;
    }

pub returns-clause-taken : goal.returns-clause-taken
returns-clause-taken c = λ table.
    let cut = c.new-self.ensures.stands_for in
    let starts = HasReordered-nil _ c.finish.ensures.held in
    record {
      cut_stands = search (rules, chars-nil);
      compared = record {
        points = [];
        reordered = search (rules, chars-nil);
        came = record {
          units = [];
          items = [];
          cut = c.clear.ensures.stands table;
          weighed = c.new-self-2.ensures.stands table;
          strength = ap (λ w. w.strength) c.new-self-2.ensures.value ∙ c.strength.ensures;
          variable = ap (λ w. w.variable) c.new-self-2.ensures.value ∙ c.variable.ensures;
          keys = ap (λ (p : Progress). take p.matched c.args.pattern.now.keys) (sym c.new-self-3.ensures);
          within = let none = ap (λ (p : Progress). p.matched) c.new-self-3.ensures in omega (arith, none);
          completed = ap (λ (p : Progress). p.completed) c.new-self-3.ensures;
        };
      };
      open_bytes = search (rules, chars-nil);
    }

pub returns-clause-counted : goal.returns-clause-counted
returns-clause-counted c = λ table. record {
  points = [];
  reordered = HasReordered-nil _ c.finish.ensures.held;
  counted = record {
    units = [];
    items = [];
    cut = c.clear.ensures.stands table;
    weighed = c.new-self-2.ensures.stands table;
    strength = ap (λ w. w.strength) c.new-self-2.ensures.value ∙ c.strength.ensures;
    variable = ap (λ w. w.variable) c.new-self-2.ensures.value ∙ c.variable.ensures;
    keys = refl;
  };
}
