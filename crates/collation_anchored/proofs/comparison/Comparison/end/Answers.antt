use Rattle.std.proofs.Common.{◌∙◌, List, [], ◌++◌, length, refl, sym, ap, arith, inl, inr}
use Rattle.std.proofs.lemmas.Bool.{cases_Bool}
use Rattle.std.proofs.lemmas.List.{append-nil}
use Rattle.nfd_points.specs.declared.points.Point.{Point}
use Rattle.nfd_points.specs.Reordering.{is_closed}
use Rattle.collation_elements.specs.declared.keys.Key.{Key}
use Rattle.collation_elements.specs.Keys.{keys}
use Rattle.collation_anchored.specs.Anchored.{is_begun}
use Rattle.collation_anchored.specs.Compared.{completed}
use Rattle.collation_anchored.proofs.BegunKeys.{begun-take}
use Rattle.collation_anchored.proofs.KeysSoFar.{came_pushed, came_all, completed_all}
use Rattle.collation_anchored.proofs.comparison.Comparison.end.Goals as goal

pub invariant_of-self : goal.invariant_of-self
unfolding is_closed
invariant_of-self g c =
    let none = ap (λ w. w.points) c.clear.ensures.empty in
    record {
      capacity = ap (λ w. w.capacity) c.clear.ensures.empty ∙ c.cut_units-alike.ensures.capacity ∙ ap (λ w. w.capacity) c.end.ensures.ended ∙ ap (λ w. w.capacity) c.push_points.ensures.points ∙ c.args.self.now.capacity;
      undecided = let zero = ap length none in omega (arith, zero);
      closed = ap is_closed none;
      not_ended = ap (λ w. w.has_ended) c.clear.ensures.empty;
    }

pub returns-clause-matched : goal.returns-clause-matched
returns-clause-matched g c = λ taken h alike.
    let table = g.W.Weights.table c.args.table.now in
    let pattern = c.args.pattern.now in
    let old = c.args.self.now in
    let out = c.finish.new.out.items in
    let cut = c.cut_units-alike in
    let came = came_pushed table pattern old.window c.end.new.self old.weigher old.progress h.points c.as_slice.result.now out h.came
    (c.end.ensures.stands table (h.points ++ c.as_slice.result.now) h.came.units (c.push_points.ensures.stands table h.points h.came.units h.came.cut)) c.as_slice.ensures.value in
    ap (keys table pattern.strength pattern.variable) (c.finish.ensures.rest taken h.points h.reordered)
    ∙ came_all table pattern cut.new.window cut.new.weigher cut.new.progress (h.points ++ out) (cut.ensures.stands (h.points ++ out) came alike) (cut.ensures.all (ap (λ w. w.has_ended) c.end.ensures.ended) alike)

pub returns-clause-within : goal.returns-clause-within
returns-clause-within g c = λ taken h alike.
    let table = g.W.Weights.table c.args.table.now in
    let pattern = c.args.pattern.now in
    let old = c.args.self.now in
    let out = c.finish.new.out.items in
    let came = came_pushed table pattern old.window c.end.new.self old.weigher old.progress h.points c.as_slice.result.now out h.came
    (c.end.ensures.stands table (h.points ++ c.as_slice.result.now) h.came.units (c.push_points.ensures.stands table h.points h.came.units h.came.cut)) c.as_slice.ensures.value in
    (c.cut_units-alike.ensures.stands (h.points ++ out) came alike).within

pub returns-clause-begun : goal.returns-clause-begun
returns-clause-begun g c = λ taken h.
    let table = g.W.Weights.table c.args.table.now in
    let pattern = c.args.pattern.now in
    let old = c.args.self.now in
    let out = c.finish.new.out.items in
    let cut = c.cut_units-alike in
    let ks : List Point → List Key = keys table pattern.strength pattern.variable in
    elim (cases_Bool cut.result) [
      | inl alike ↦
          alike ∙ sym (ap (is_begun pattern.keys) (returns-clause-matched g c taken h alike) ∙ begun-take pattern.keys cut.new.progress.matched (returns-clause-within g c taken h alike))
      | inr apart ↦
          let came = came_pushed table pattern old.window c.end.new.self old.weigher old.progress h.points c.as_slice.result.now out h.came
          (c.end.ensures.stands table (h.points ++ c.as_slice.result.now) h.came.units (c.push_points.ensures.stands table h.points h.came.units h.came.cut)) c.as_slice.ensures.value in
          let differs = cut.ensures.differs (h.points ++ out) [] came (λ e. refl) apart in
          apart ∙ sym (ap (λ (ps : List Point). is_begun pattern.keys (ks ps)) (c.finish.ensures.rest taken h.points h.reordered ∙ sym (append-nil (h.points ++ out))) ∙ differs)
    ]

pub returns-clause-completed : goal.returns-clause-completed
returns-clause-completed g c = λ taken h.
    let table = g.W.Weights.table c.args.table.now in
    let pattern = c.args.pattern.now in
    let old = c.args.self.now in
    let out = c.finish.new.out.items in
    let cut = c.cut_units-alike in
    let came = came_pushed table pattern old.window c.end.new.self old.weigher old.progress h.points c.as_slice.result.now out h.came
    (c.end.ensures.stands table (h.points ++ c.as_slice.result.now) h.came.units (c.push_points.ensures.stands table h.points h.came.units h.came.cut)) c.as_slice.ensures.value in
    let all = c.finish.ensures.rest taken h.points h.reordered in
    elim (cases_Bool cut.result) [
      | inl alike ↦
          completed_all table pattern cut.new.window cut.new.weigher cut.new.progress (h.points ++ out) (cut.ensures.stands (h.points ++ out) came alike) (cut.ensures.all (ap (λ w. w.has_ended) c.end.ensures.ended) alike)
          ∙ ap (completed table pattern) (sym all)
      | inr apart ↦
          cut.ensures.completed (h.points ++ out) [] came (λ e. refl) apart ∙ ap (completed table pattern) (append-nil (h.points ++ out) ∙ sym all)
    ]
