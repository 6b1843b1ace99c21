use Rattle.std.proofs.Common.{◌∙◌, ℕ, List, [], ◌++◌, length, refl, sym, ap, arith, inl, inr}
use Rattle.std.proofs.lemmas.Bool.{cases_Bool, lt-ltb, le-ltb}
use Rattle.std.proofs.lemmas.List.{append-nil}
use Rattle.nfd_points.specs.declared.points.Point.{Point}
use Rattle.nfd_points.specs.Points.{points}
use Rattle.nfd_points.specs.Reordering.{is_closed}
use Rattle.collation_elements.specs.Keys.{keys}
use Rattle.collation_anchored.proofs.CountedKeys.{counted_pushed, counted_all}
use Rattle.collation_anchored.proofs.comparison.Comparison.count_rest.Goals as goal

pub invariant_of-self : goal.invariant_of-self
unfolding is_closed
invariant_of-self g c =
    let none = ap (λ w. w.points) c.clear.ensures.empty in
    record {
      capacity = ap (λ w. w.capacity) c.clear.ensures.empty ∙ c.count_units-more.ensures.capacity ∙ ap (λ w. w.capacity) c.end.ensures.ended ∙ ap (λ w. w.capacity) c.push_points.ensures.points ∙ c.args.self.now.capacity;
      undecided = let zero = ap length none in omega (arith, zero);
      closed = ap is_closed none;
      not_ended = ap (λ w. w.has_ended) c.clear.ensures.empty;
    }

pub returns-clause-more : goal.returns-clause-more
returns-clause-more g c = λ pattern taken h.
    let table = g.W.Weights.table c.args.table.now in
    let old = c.args.self.now in
    let out = c.finish.new.out.items in
    let cut = c.count_units-more in
    let most = c.args.most in
    let of : List Point → ℕ = λ ps. length (keys table pattern.strength pattern.variable ps) in
    let whole = of (points taken) in
    let all = ap of (c.finish.ensures.rest taken h.points h.reordered) in
    let counted = counted_pushed table pattern old.window c.end.new.self old.weigher c.args.keys.now h.points c.as_slice.result.now out h.counted
    (c.end.ensures.stands table (h.points ++ c.as_slice.result.now) h.counted.units (c.push_points.ensures.stands table h.points h.counted.units h.counted.cut)) c.as_slice.ensures.value in
    elim (cases_Bool cut.result) [
      | inl more ↦
          let less = cut.ensures.more pattern (h.points ++ out) [] counted (λ e. refl) more in
          let none = ap of (append-nil (h.points ++ out)) in
          more ∙ sym (lt-ltb most whole (omega (arith, less, none, all)))
      | inr few ↦
          let within = cut.ensures.within in
          let count = counted_all table pattern cut.new.window cut.new.weigher cut.new.keys (h.points ++ out) (cut.ensures.stands pattern (h.points ++ out) counted few)
          (cut.ensures.all (ap (λ w. w.has_ended) c.end.ensures.ended) few) in
          few ∙ sym (le-ltb most whole (omega (arith, within, count, all)))
    ]
