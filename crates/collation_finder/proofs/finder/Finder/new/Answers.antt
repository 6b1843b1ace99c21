use Rattle.std.proofs.Common.{◌∙◌, List, [], ap}
use Rattle.std.proofs.lemmas.List.Elements.{All-same, All-nil}
use Rattle.std.specs.List.{Contains}
use Rattle.unicode_normalization.specs.StreamSafe.{has_short_runs}
use Rattle.nfd_points.specs.declared.points.Point.{Point}
use Rattle.nfd_points.specs.Reordering.{IsSoundPoint, code_points}
use Rattle.collation_finder.proofs.finder.Finder.new.Goals as goal

pub invariant_of-result-clause-sound : goal.invariant_of-result-clause-sound
invariant_of-result-clause-sound g c =
    let none = ap (λ w. w.points) c.in_ok-with_capacity.ensures.empty in
    All-same IsSoundPoint _ _ none (All-nil IsSoundPoint)

pub invariant_of-result-clause-short_runs : goal.invariant_of-result-clause-short_runs
unfolding has_short_runs
invariant_of-result-clause-short_runs g c = ap (λ w. has_short_runs 0 (code_points w.points)) c.in_ok-with_capacity.ensures.empty

pub returns-clause-stands : goal.returns-clause-stands
returns-clause-stands g c =
    let table = g.W.Weights.table c.args.table.now in
    let none = ap (λ w. w.points) c.in_ok-with_capacity.ensures.empty in
    let first : List Point = [] in
    record {
      points = [];
      reordered = c.new.ensures.starts;
      matched = record {
        units = [];
        cut = c.in_ok-with_capacity.ensures.stands table;
        went = record {
          items = [];
          weighed = c.new-2.ensures.stands table;
          walked = c.in_ok-new.ensures.walks;
          strength = ap (λ w. w.strength) c.new-2.ensures.value ∙ c.strength.ensures;
          variable = ap (λ w. w.variable) c.new-2.ensures.value ∙ c.variable.ensures;
        };
        kept = All-same (Contains first) _ _ none (All-nil (Contains first));
      };
    }
