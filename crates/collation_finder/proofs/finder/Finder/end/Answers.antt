use Rattle.std.proofs.Common.{◌∙◌, ℕ, List, ◌++◌, length, sym, ap, subst, arith}
use Rattle.nfd_points.specs.declared.points.Point.{Point}
use Rattle.nfd_points.specs.Reordering.{IsSoundPoint, code_points, is_closed}
use Rattle.std.proofs.lemmas.List.Elements.{All-same, All-nil}
use Rattle.std.specs.List.{Contains}
use Rattle.unicode_normalization.specs.StreamSafe.{has_short_runs}
use Rattle.nfd_points.specs.Points.{points}
use Rattle.collation_elements.specs.Units.{units}
use Rattle.collation_finder.specs.Finding.{FinderStandsFor}
use Rattle.collation_finder.specs.Matching.{HasMatched}
use Rattle.collation_walk.specs.Walked.{HasWalked}
use Rattle.collation_finder.proofs.MatchingLemmas.{matched-first, among-pushed}
use Rattle.collation_finder.proofs.PauseLemmas.{walked-all, walked-items}
use Rattle.collation_finder.proofs.finder.Finder.end.Given as given
use Rattle.collation_finder.proofs.finder.Finder.end.Goals.{After-cut_units}
use Rattle.collation_finder.proofs.finder.Finder.end.Goals as goal

pub invariant_of-self : goal.invariant_of-self
unfolding is_closed has_short_runs
invariant_of-self g c =
    let leaves = c.cut_units.ensures.leaves in
    let keeps = c.cut_units.ensures.keeps in
    let made = c.requires.ready.made in
    let none = leaves.all (ap (λ w. w.has_ended) c.end.ensures.ended) in
    let room = leaves.capacity ∙ ap (λ w. w.capacity) c.end.ensures.ended ∙ ap (λ w. w.capacity) c.push_points.ensures.points in
    let fits = c.args.self.now.short in
    record {
      short = omega (arith, room, fits);
      undecided = let zero = ap length none in omega (arith, zero, room, made.longest);
      closed = ap is_closed none;
      sound = All-same IsSoundPoint _ _ none (All-nil IsSoundPoint);
      short_runs = ap (λ ps. has_short_runs 0 (code_points ps)) none;
      state = omega (arith, keeps.state, keeps.room, made.pattern_len);
    }

walked : (g : given.Over) (c : After-cut_units g) (taken : List ℕ) (ranges : List (ℕ × ℕ)) → FinderStandsFor (g.W.Weights.table c.args.table.now) c.args.pattern.now c.args.self.now taken ranges →
    HasWalked (g.W.Weights.table c.args.table.now) c.args.pattern.now c.cut_units.new.matcher (units (g.W.Weights.table c.args.table.now) (points taken)) (ranges ++ c.cut_units.new.found.items)
walked g c taken ranges h =
    let table = g.W.Weights.table c.args.table.now in
    let pattern = c.args.pattern.now in
    let out = c.finish.new.out.items in
    let none = c.cut_units.ensures.leaves.all (ap (λ w. w.has_ended) c.end.ensures.ended) in
    let cut = c.end.ensures.stands table (h.points ++ c.as_slice.result.now) h.matched.units (c.push_points.ensures.stands table h.points h.matched.units h.matched.cut) in
    let points_now = ap (λ w. w.points) c.end.ensures.ended ∙ ap (λ w. w.points) c.push_points.ensures.points in
    let kept = All-same (Contains (h.points ++ c.as_slice.result.now)) _ _ points_now (among-pushed h.points c.args.self.now.window.points c.as_slice.result.now h.matched.kept) in
    let pushed = subst (λ (ps : List Point). HasMatched table pattern c.end.new.self c.args.self.now.matcher (h.points ++ ps) ranges)
    c.as_slice.ensures.value
    (record { units = h.matched.units; cut = cut; went = h.matched.went; kept = kept }) in
    let before = matched-first table pattern c.end.new.self c.args.self.now.matcher (h.points ++ out) ranges c.args.found.now.items c.requires.empty pushed in
    let all = walked-all table pattern c.cut_units.new.window c.cut_units.new.matcher (h.points ++ out) (ranges ++ c.cut_units.new.found.items)
    (c.cut_units.ensures.stands (h.points ++ out) ranges before) none in
    subst (λ ps. HasWalked table pattern c.cut_units.new.matcher (units table ps) (ranges ++ c.cut_units.new.found.items))
    (sym (c.finish.ensures.rest taken h.points h.reordered)) all

pub returns-clause-ended : goal.returns-clause-ended
returns-clause-ended g c =
    let here = (goal.at.returns-clause-ended g c).After-cut_units in
    let table = g.W.Weights.table c.args.table.now in
    record {
      walked = λ taken ranges h. walked g here taken ranges h;
      ended = λ taken ranges h.
          walked-items table c.args.pattern.now c.cut_units.new.matcher (units table (points taken)) (ranges ++ c.cut_units.new.found.items) (walked g here taken ranges h);
      good = λ taken ranges h. h.reordered.good;
    }

pub returns-clause-none_left : goal.returns-clause-none_left
returns-clause-none_left g c = c.cut_units.ensures.leaves.all (ap (λ w. w.has_ended) c.end.ensures.ended)
