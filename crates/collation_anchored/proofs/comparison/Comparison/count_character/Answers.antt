use Rattle.std.proofs.Common.{◌≡◌, ◌<◌, ◌∙◌, List, [], ◌∷◌, ◌++◌, Bool, true, false, length, sym, ap, subst, arith, append_assoc}
use Rattle.nfd_points.specs.declared.points.Point.{Point}
use Rattle.nfd_points.specs.Points.{points, points_from, byte_len, ordered}
use Rattle.nfd_points.specs.Reordering.{is_closed}
use Rattle.collation_elements.specs.Keys.{keys}
use Rattle.collation_anchored.proofs.CountedKeys.{counted_pushed}
use Rattle.collation_anchored.proofs.comparison.Comparison.count_character.Goals as goal

pub invariant_of-self-then-more : goal.invariant_of-self-then-more
unfolding is_closed
invariant_of-self-then-more g c =
    let none = ap (λ w. w.points) c.clear.ensures.empty in
    record {
      capacity = ap (λ w. w.capacity) c.clear.ensures.empty ∙ c.count_units-more.ensures.capacity ∙ ap (λ w. w.capacity) c.push_points.ensures.points ∙ c.args.self.now.capacity;
      undecided = let zero = ap length none in omega (arith, zero);
      closed = ap is_closed none;
      not_ended = ap (λ w. w.has_ended) c.clear.ensures.empty;
    }

pub returns-else-more-clause-stands : goal.returns-else-more-clause-stands
returns-else-more-clause-stands g c = λ pattern taken h offset alike.
    let table = g.W.Weights.table c.args.table.now in
    let out = c.push.new.out.items in
    let counted = counted_pushed table pattern c.args.self.now.window c.push_points.new.window c.args.self.now.weigher c.args.keys.now h.points c.as_slice.result.now out h.counted
    (c.push_points.ensures.stands table h.points h.counted.units h.counted.cut) c.as_slice.ensures.value in
    record {
      points = h.points ++ out;
      reordered = c.in_ok-push.ensures.carries taken h.points h.reordered offset;
      counted = c.count_units-more.ensures.stands pattern (h.points ++ out) counted c.if-more.false;
    }

pub returns-then-more-clause-more : goal.returns-then-more-clause-more
returns-then-more-clause-more g c = λ pattern taken rest h offset more.
    let table = g.W.Weights.table c.args.table.now in
    let out = c.push.new.out.items in
    let reordered = c.in_ok-push.ensures.carries taken h.points h.reordered offset in
    let later = ordered (c.push.new.self.held ++ points_from (byte_len (taken ++ c.args.c ∷ [])) rest) in
    let all : points (taken ++ c.args.c ∷ rest) ≡ (h.points ++ out) ++ later = ap points (sym (append_assoc taken (c.args.c ∷ []) rest)) ∙ reordered.continues rest in
    let counted = counted_pushed table pattern c.args.self.now.window c.push_points.new.window c.args.self.now.weigher c.args.keys.now h.points c.as_slice.result.now out h.counted
    (c.push_points.ensures.stands table h.points h.counted.units h.counted.cut) c.as_slice.ensures.value in
    let goes_on = ap (λ w. w.has_ended) c.push_points.ensures.points ∙ c.args.self.now.not_ended in
    subst (λ (ps : List Point). c.args.most < length (keys table pattern.strength pattern.variable ps)) (sym all)
    (c.count_units-more.ensures.more pattern (h.points ++ out) later counted (λ ended. absurd (never goes_on ended)) c.if-more.true)
  where
    never : {b : Bool} → b ≡ false → b ≡ true → ⊥
    never e f = cc
