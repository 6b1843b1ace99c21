use Rattle.std.proofs.Common.{◌≡◌, ◌∙◌, List, [], ◌∷◌, ◌++◌, Bool, true, false, length, sym, ap, arith, append_assoc}
use Rattle.nfd_points.specs.declared.points.Point.{Point}
use Rattle.nfd_points.specs.Points.{points, points_from, byte_len, ordered}
use Rattle.nfd_points.specs.Reordering.{is_closed}
use Rattle.collation_elements.specs.Keys.{keys}
use Rattle.collation_anchored.specs.Anchored.{is_begun}
use Rattle.collation_anchored.specs.Compared.{completed}
use Rattle.collation_anchored.proofs.KeysSoFar.{came_pushed}
use Rattle.collation_anchored.proofs.comparison.Comparison.take_character.Goals as goal

pub invariant_of-self-else-alike : goal.invariant_of-self-else-alike
unfolding is_closed
invariant_of-self-else-alike g c =
    let none = ap (λ w. w.points) c.clear.ensures.empty in
    record {
      capacity = ap (λ w. w.capacity) c.clear.ensures.empty ∙ c.cut_units-alike.ensures.capacity ∙ ap (λ w. w.capacity) c.push_points.ensures.points ∙ c.args.self.now.capacity;
      undecided = let zero = ap length none in omega (arith, zero);
      closed = ap is_closed none;
      not_ended = ap (λ w. w.has_ended) c.clear.ensures.empty;
    }

pub returns-then-alike-clause-stands : goal.returns-then-alike-clause-stands
returns-then-alike-clause-stands g c = λ taken h offset alike.
    let table = g.W.Weights.table c.args.table.now in
    let pattern = c.args.pattern.now in
    let out = c.push.new.out.items in
    let came = came_pushed table pattern c.args.self.now.window c.push_points.new.window c.args.self.now.weigher c.args.self.now.progress h.points c.as_slice.result.now out h.came
    (c.push_points.ensures.stands table h.points h.came.units h.came.cut) c.as_slice.ensures.value in
    record {
      points = h.points ++ out;
      reordered = c.in_ok-push.ensures.carries taken h.points h.reordered offset;
      came = c.cut_units-alike.ensures.stands (h.points ++ out) came c.if-alike.true;
    }

pub returns-else-alike-clause-differs : goal.returns-else-alike-clause-differs
returns-else-alike-clause-differs g c = λ taken rest h offset apart.
    let table = g.W.Weights.table c.args.table.now in
    let pattern = c.args.pattern.now in
    let out = c.push.new.out.items in
    let reordered = c.in_ok-push.ensures.carries taken h.points h.reordered offset in
    let later = ordered (c.push.new.self.held ++ points_from (byte_len (taken ++ c.args.c ∷ [])) rest) in
    let all : points (taken ++ c.args.c ∷ rest) ≡ (h.points ++ out) ++ later = ap points (sym (append_assoc taken (c.args.c ∷ []) rest)) ∙ reordered.continues rest in
    let came = came_pushed table pattern c.args.self.now.window c.push_points.new.window c.args.self.now.weigher c.args.self.now.progress h.points c.as_slice.result.now out h.came
    (c.push_points.ensures.stands table h.points h.came.units h.came.cut) c.as_slice.ensures.value in
    let goes_on = ap (λ w. w.has_ended) c.push_points.ensures.points ∙ c.args.self.now.not_ended in
    ap (λ (ps : List Point). is_begun pattern.keys (keys table pattern.strength pattern.variable ps)) all
    ∙ c.cut_units-alike.ensures.differs (h.points ++ out) later came (λ ended. absurd (never goes_on ended)) c.if-alike.false
  where
    never : {b : Bool} → b ≡ false → b ≡ true → ⊥
    never e f = cc

pub returns-else-alike-clause-completed : goal.returns-else-alike-clause-completed
returns-else-alike-clause-completed g c = λ taken rest h offset apart.
    let table = g.W.Weights.table c.args.table.now in
    let pattern = c.args.pattern.now in
    let out = c.push.new.out.items in
    let reordered = c.in_ok-push.ensures.carries taken h.points h.reordered offset in
    let later = ordered (c.push.new.self.held ++ points_from (byte_len (taken ++ c.args.c ∷ [])) rest) in
    let all : points (taken ++ c.args.c ∷ rest) ≡ (h.points ++ out) ++ later = ap points (sym (append_assoc taken (c.args.c ∷ []) rest)) ∙ reordered.continues rest in
    let came = came_pushed table pattern c.args.self.now.window c.push_points.new.window c.args.self.now.weigher c.args.self.now.progress h.points c.as_slice.result.now out h.came
    (c.push_points.ensures.stands table h.points h.came.units h.came.cut) c.as_slice.ensures.value in
    let goes_on = ap (λ w. w.has_ended) c.push_points.ensures.points ∙ c.args.self.now.not_ended in
    c.cut_units-alike.ensures.completed (h.points ++ out) later came (λ ended. absurd (never goes_on ended)) c.if-alike.false
    ∙ ap (completed table pattern) (sym all)
  where
    never : {b : Bool} → b ≡ false → b ≡ true → ⊥
    never e f = cc
