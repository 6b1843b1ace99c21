use Rattle.std.proofs.Common.{◌≡◌, ◌∙◌, ◌+◌, ◌<◌, List, [], ◌∷◌, ◌++◌, length, take, refl, sym, ap, subst, arith}
use Rattle.std.proofs.lemmas.Option.{get_or_from_slice_get}
use Rattle.collation_table.proofs.OverlayLemmas.{take-at}
use Rattle.nfd_points.specs.declared.points.Point.{Point}
use Rattle.nfd_points.specs.Points.{decomposition}
use Rattle.collation_elements.specs.Units.{units}
use Rattle.collation_walk.specs.Walked.{HasWalkedOn}
use Rattle.collation_walk.proofs.Folds.{folds-append}
use Rattle.collation_walk.proofs.WalkSteps.{keeps-on}
use Rattle.collation_finder.specs.TakenAtOnce.{AreClosedHere, AreDecomposed}
use Rattle.collation_finder.proofs.CharacterLemmas.{on-none, on-more}
use Rattle.collation_finder.proofs.PointLetters.{closed-one_point, closed-on}
use Rattle.collation_finder.proofs.pausing.walk_points.Goals as goal

pub points-init : goal.points-init
points-init g c = record {
  within = omega arith;
  callable = c.requires.callable;
  right = c.requires.right;
  keeps = record { state = c.requires.state; select = refl; room = refl };
  closed = λ each more. refl;
  walked = ([], refl, λ each. on-none (g.W.Weights.table c.args.query.now.table.now) c.args.query.now.pattern.now c.args.matcher.now [] refl);
}

pub points-preserved : goal.points-preserved
points-preserved g c =
    let table = g.W.Weights.table c.args.query.now.table.now in
    let pattern = c.args.query.now.pattern.now in
    let points = c.args.window.now.points in
    let l = c.points in
    let i = l.invariant in
    let so_far = take l.len points in
    let p : Point = c.point-point.result in
    let is = c.point-point.ensures in
    let laws = c.laws_of_characters.ensures in
    let e = c.in-Some.ensures.plain in
    let walked = c.walk_letter.ensures.walked in
    let test = c.points-test.true in
    let count = c.len.ensures.len in
    let less : l.len < length points = omega (arith, test, count) in
    let all : take (l.len + 1) points ≡ so_far ++ p ∷ [] = take-at points l.len p is in
    let alone = λ (each : AreDecomposed points). e.alone (subst (λ (q : Point). decomposition q.cp ≡ q.cp ∷ []) (get_or_from_slice_get points l.len p p is) (each l.len p less)) in
    let one : (each : AreDecomposed points) → HasWalkedOn table pattern l.matcher c.walk_letter.new.matcher (units table (p ∷ [])) walked.0 =
    λ each. subst (λ (ps : List Point). HasWalkedOn table pattern l.matcher c.walk_letter.new.matcher (units table ps) walked.0) (alone each) (walked.2 (p.cp ∷ []) e.letter) in
    record {
      within = omega (arith, less);
      callable = c.walk_letter.ensures.callable;
      right = c.in-Some.ensures.right;
      keeps = keeps-on pattern _ _ _ i.keeps c.walk_letter.ensures.keeps;
      closed = λ each. subst (AreClosedHere table) (sym all) (closed-on table so_far p (i.closed each) (closed-one_point laws.shifted table pattern p c.in-Some.letter (alone each) e.plain e.letter));
      walked = (
        i.walked.0 ++ walked.0,
        folds-append (λ f range t. goal.F-step g f range.0 range.1 tt t) c.args.sink.now i.walked.0 walked.0 l.sink c.walk_letter.new.sink i.walked.1 walked.1,
        λ each. on-more table pattern c.args.matcher.now l.matcher c.walk_letter.new.matcher (units table so_far) (units table (p ∷ [])) (units table (take (l.len + 1) points)) i.walked.0 walked.0
            (ap (units table) all ∙ i.closed each (p ∷ [])) (i.walked.2 each) (one each),
      );
    }
