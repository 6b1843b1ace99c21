use Rattle.std.proofs.Common.{◌≡◌, ◌∙◌, ℕ, List, [], length, drop, refl, sym, ap, subst, arith}
use Rattle.std.proofs.lemmas.List.{append-nil, length-drop, nil_from_length}
use Rattle.std.proofs.lemmas.List.Elements.{All-same, All-drop}
use Rattle.unicode_normalization.specs.StreamSafe.{has_short_runs}
use Rattle.nfd_points.specs.declared.points.Point.{Point}
use Rattle.nfd_points.specs.Reordering.{IsSoundPoint, code_points, is_closed}
use Rattle.collation_elements.proofs.Cutting.{is_closed-drop}
use Rattle.collation_elements.proofs.LeftPoints.{short-drop}
use Rattle.collation_finder.specs.Matching.{HasMatched}
use Rattle.collation_finder.proofs.AsciiLemmas.{closed-none, short-none}
use Rattle.collation_finder.proofs.PointLetters.{decomposed, left-of, matched-cut}
use Rattle.collation_finder.proofs.finder.Finder.cut_letters.Goals as goal

pub returns-then-len-gt-MOST_GIVEN-clause-cut : goal.returns-then-len-gt-MOST_GIVEN-clause-cut
returns-then-len-gt-MOST_GIVEN-clause-cut g c = (
  [],
  refl,
  λ taken handed h. record {
    points = h.points;
    reordered = h.reordered;
    matched = subst (λ (t : List (ℕ × ℕ)). HasMatched (g.W.Weights.table c.args.query.now.table.now) c.args.query.now.pattern.now c.args.self.now.window c.args.self.now.matcher h.points t)
        (sym (append-nil handed)) h.matched;
  },
)

pub invariant_of-self-2 : goal.invariant_of-self-2
invariant_of-self-2 g c =
    let old = c.args.self.now in
    let n = c.walk_points-len.result in
    let is = left-of old.window.points c.as_slice.result.now c.move_points.new.window.points c.push_points.new.window.points n (c.as_slice.ensures.value ∙ c.move_points.ensures.points) (ap (λ w. w.points) c.move_points.ensures.emptied)
    (ap (λ w. w.points) c.push_points.ensures.points) in
    let room = ap (λ w. w.capacity) c.push_points.ensures.points ∙ ap (λ w. w.capacity) c.move_points.ensures.emptied in
    let fits = old.short in
    let keeps = c.walk_points-len.ensures.keeps in
    let made = c.requires.ready.made in
    record {
      short = omega (arith, room, fits);
      undecided = let count = ap length is in let fewer = length-drop n old.window.points in let few = old.undecided in omega (arith, count, fewer, few, room);
      closed = ap is_closed is ∙ is_closed-drop n old.window.points old.closed;
      sound = All-same IsSoundPoint _ _ is (All-drop IsSoundPoint n old.window.points old.sound);
      short_runs = ap (λ (ps : List Point). has_short_runs 0 (code_points ps)) is ∙ short-drop 0 n old.window.points old.short_runs;
      state = omega (arith, keeps.state, keeps.room, made.pattern_len);
    }

pub returns-clause-cut : goal.returns-clause-cut
returns-clause-cut g c =
    let table = g.W.Weights.table c.args.query.now.table.now in
    let pattern = c.args.query.now.pattern.now in
    let old = c.args.self.now in
    let n = c.walk_points-len.result in
    let e = c.walk_points-len.ensures in
    let is = left-of old.window.points c.as_slice.result.now c.move_points.new.window.points c.push_points.new.window.points n (c.as_slice.ensures.value ∙ c.move_points.ensures.points) (ap (λ w. w.points) c.move_points.ensures.emptied)
    (ap (λ w. w.points) c.push_points.ensures.points) in (
      e.walked.0,
      e.walked.1,
      λ taken handed h.
          let d = decomposed c.laws_of_reordering.ensures.others c.laws_of_points.ensures.decomposed table pattern old taken handed h in record {
            points = h.points;
            reordered = h.reordered;
            matched = matched-cut table pattern old.window c.push_points.new.window old.matcher c.walk_points-len.new.matcher n h.points handed e.walked.0 c.requires.ready.open_text is (e.closed d) (e.walked.2 d) h.matched;
          },
    )

pub returns-then-len-eq0-clause-cut : goal.returns-then-len-eq0-clause-cut
returns-then-len-eq0-clause-cut g c =
    let table = g.W.Weights.table c.args.query.now.table.now in
    let pattern = c.args.query.now.pattern.now in
    let old = c.args.self.now in
    let n = c.walk_points-len.result in
    let e = c.walk_points-len.ensures in
    let is : old.window.points ≡ drop n old.window.points = ap (λ k. drop k old.window.points) (sym c.if-len-eq0.true) in (
      e.walked.0,
      e.walked.1,
      λ taken handed h.
          let d = decomposed c.laws_of_reordering.ensures.others c.laws_of_points.ensures.decomposed table pattern old taken handed h in record {
            points = h.points;
            reordered = h.reordered;
            matched = matched-cut table pattern old.window old.window old.matcher c.walk_points-len.new.matcher n h.points handed e.walked.0 c.requires.ready.open_text is (e.closed d) (e.walked.2 d) h.matched;
          },
    )

-- all points of the window were walked over
pub invariant_of-self-then-len : goal.invariant_of-self-then-len
invariant_of-self-then-len g c =
    let old = c.args.self.now in
    let none = ap (λ w. w.points) c.clear.ensures.empty in
    let room = ap (λ w. w.capacity) c.clear.ensures.empty in
    let fits = old.short in
    let few = old.undecided in
    let keeps = c.walk_points-len.ensures.keeps in
    let made = c.requires.ready.made in
    record {
      short = omega (arith, room, fits);
      undecided = let zero = ap length none in omega (arith, zero, room, few);
      closed = ap is_closed none ∙ closed-none;
      sound = All-same IsSoundPoint _ _ none (λ k d less. absurd (omega (arith, less)));
      short_runs = ap (λ (ps : List Point). has_short_runs 0 (code_points ps)) none ∙ short-none;
      state = omega (arith, keeps.state, keeps.room, made.pattern_len);
    }

pub returns-then-len-clause-cut : goal.returns-then-len-clause-cut
returns-then-len-clause-cut g c =
    let table = g.W.Weights.table c.args.query.now.table.now in
    let pattern = c.args.query.now.pattern.now in
    let old = c.args.self.now in
    let n = c.walk_points-len.result in
    let e = c.walk_points-len.ensures in
    let none = ap (λ w. w.points) c.clear.ensures.empty in
    let left : drop n old.window.points ≡ [] = nil_from_length (drop n old.window.points) (let fewer = length-drop n old.window.points in omega (arith, fewer, c.if-len.true, c.len.ensures.len)) in
    let is : c.clear.new.self.points ≡ drop n old.window.points = none ∙ sym left in (
      e.walked.0,
      e.walked.1,
      λ taken handed h.
          let d = decomposed c.laws_of_reordering.ensures.others c.laws_of_points.ensures.decomposed table pattern old taken handed h in record {
            points = h.points;
            reordered = h.reordered;
            matched = matched-cut table pattern old.window c.clear.new.self old.matcher c.walk_points-len.new.matcher n h.points handed e.walked.0 c.requires.ready.open_text is (e.closed d) (e.walked.2 d) h.matched;
          },
    )
