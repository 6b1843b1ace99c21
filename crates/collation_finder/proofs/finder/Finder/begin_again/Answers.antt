use Rattle.std.proofs.Common.{◌∙◌, List, [], ap, arith, length}
use Rattle.std.proofs.lemmas.List.Elements.{All-same, All-nil}
use Rattle.std.specs.List.{Contains}
use Rattle.unicode_normalization.specs.StreamSafe.{has_short_runs}
use Rattle.nfd_points.specs.declared.points.Point.{Point}
use Rattle.nfd_points.specs.Reordering.{IsSoundPoint, code_points, is_closed}
use Rattle.collation_finder.proofs.finder.Finder.begin_again.Goals as goal

pub invariant_of-self : goal.invariant_of-self
unfolding is_closed has_short_runs
invariant_of-self c =
    let none = ap (λ w. w.points) c.clear.ensures.empty in
    let room = ap (λ w. w.capacity) c.clear.ensures.empty in
    let fits = c.args.self.now.short in
    let few = c.args.self.now.undecided in
    record {
      short = omega (arith, room, fits);
      undecided = let zero = ap length none in omega (arith, zero, room, few);
      closed = ap is_closed none;
      sound = All-same IsSoundPoint _ _ none (All-nil IsSoundPoint);
      short_runs = ap (λ ps. has_short_runs 0 (code_points ps)) none;
      state = omega (arith, c.begin_again.ensures.state);
    }

pub returns-clause-stands : goal.returns-clause-stands
returns-clause-stands c = λ table.
    let none = ap (λ w. w.points) c.clear.ensures.empty in
    let first : List Point = [] in
    record {
      points = [];
      reordered = c.new-self.ensures.starts;
      matched = record {
        units = [];
        cut = c.clear.ensures.stands table;
        went = record {
          items = [];
          weighed = c.new-self-2.ensures.stands table;
          walked = c.begin_again.ensures.walks;
          strength = ap (λ w. w.strength) c.new-self-2.ensures.value ∙ c.strength.ensures;
          variable = ap (λ w. w.variable) c.new-self-2.ensures.value ∙ c.variable.ensures;
        };
        kept = All-same (Contains first) _ _ none (All-nil (Contains first));
      };
    }

pub returns-clause-goes_on : goal.returns-clause-goes_on
returns-clause-goes_on c = record {
  open_text = ap (λ w. w.has_ended) c.clear.ensures.empty;
  setup = record {
    longest = ap (λ w. w.capacity) c.clear.ensures.empty;
    pattern_len = c.begin_again.ensures.room;
    select = c.begin_again.ensures.select;
  };
}
