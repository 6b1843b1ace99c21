use Rattle.std.specs.List.{FoldsTo}
use Rattle.std.proofs.Common.{◌≡◌, ◌∙◌, ℕ, List, ◌++◌, sym, ap, subst, append_assoc}
use Rattle.std.proofs.lemmas.List.{append-nil}
use Rattle.nfd_points.specs.declared.points.Point.{Point}
use Rattle.nfd_points.specs.Points.{points}
use Rattle.collation_elements.specs.Units.{units}
use Rattle.collation_walk.specs.Walked.{HasWalked}
use Rattle.collation_finder.proofs.PauseLemmas.{walked-all}
use Rattle.collation_walk.proofs.Folds.{folds-append}
use Rattle.collation_finder.proofs.finder.Finder.pause.Goals as goal

pub returns-then-holds_no_point-clause-paused : goal.returns-then-holds_no_point-clause-paused
returns-then-holds_no_point-clause-paused g c =
    let table = g.W.Weights.table c.args.query.now.table.now in
    let pattern = c.args.query.now.pattern.now in
    let cut = c.cut_letters.ensures.cut in
    let now = c.cut_letters.new.self in
    let none_waits = c.holds_no_point.ensures.waits c.if-holds_no_point.true in
    let none_left = c.holds_no_point.ensures.left c.if-holds_no_point.true in (
      cut.0,
      cut.1,
      λ taken handed h.
          let there = cut.2 taken handed h in
          let all : points taken ≡ there.points = c.laws_of_reordering.ensures.others now.reorder taken there.points there.reordered ∙ ap (λ (ps : List Point). there.points ++ ps) none_waits ∙ append-nil there.points in
          record {
            walked = subst (λ (ps : List Point). HasWalked table pattern now.matcher (units table ps) (handed ++ cut.0)) (sym all) (walked-all table pattern now.window now.matcher there.points (handed ++ cut.0) there.matched none_left);
            none_waits = none_waits;
            none_left = none_left;
            good = there.reordered.good;
          },
    )

pub returns-clause-paused : goal.returns-clause-paused
returns-clause-paused g c =
    let table = g.W.Weights.table c.args.query.now.table.now in
    let pattern = c.args.query.now.pattern.now in
    let cut = c.cut_letters.ensures.cut in
    let last = c.end.new.found.items in
    let calls = subst (λ (t : List (ℕ × ℕ)). FoldsTo (λ f range t'. goal.F-step g f range.0 range.1 tt t') c.cut_letters.new.sink t c.hand_out.new.sink) c.as_slice.ensures.value c.hand_out.ensures.called in (
      cut.0 ++ last,
      folds-append (λ f range t. goal.F-step g f range.0 range.1 tt t) c.args.sink.now cut.0 last c.cut_letters.new.sink c.hand_out.new.sink cut.1 calls,
      λ taken handed h.
          let there = cut.2 taken handed h in record {
            walked = subst (λ (t : List (ℕ × ℕ)). HasWalked table pattern c.end.new.self.matcher (units table (points taken)) t) (append_assoc handed cut.0 last) (c.end.ensures.ended.walked taken (handed ++ cut.0) there);
            none_waits = c.end.ensures.none_waits;
            none_left = ap (λ w. w.points) c.clear-2.ensures.empty;
            good = c.end.ensures.ended.good taken (handed ++ cut.0) there;
          },
    )
