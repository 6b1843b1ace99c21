use Rattle.std.proofs.Common.{[], ◌++◌, refl, arith}
use Rattle.collation_finder.specs.LetterRun.{HasComeTo}
use Rattle.collation_walk.proofs.Folds.{folds-append}
use Rattle.collation_finder.proofs.LoopSteps.{come-none}
use Rattle.collation_walk.proofs.WalkSteps.{keeps-on}
use Rattle.collation_walk.specs.HandingOut.{HandsOut}
use Rattle.collation_finder.proofs.letter_loop.walk_letters.Given as given
use Rattle.collation_finder.proofs.letter_loop.walk_letters.Goals.{After-laws_of_characters, After-walk_run-is_due}
use Rattle.collation_finder.proofs.letter_loop.walk_letters.Goals as goal

-- nothing so far
none : (g : given.Over) (c : After-laws_of_characters g) → HasComeTo (g.W.Weights.table c.args.query.now.table.now) c.args.query.now.pattern.now c.args.front.piece.now c.args.front.offset c.args.front.reach c.args.from.next c.args.matcher.now c.args.matcher.now 0 c.args.from.next []
none g c =
    let first = c.requires.first in
    come-none c.laws_of_characters.ensures (g.W.Weights.table c.args.query.now.table.now) c.args.query.now.pattern.now c.args.front.piece.now c.args.front.offset c.args.front.reach c.args.from.next c.args.matcher.now first.front.0 first.front.1 first.begins

-- where the first character ends after the reach
pub returns-then-front-len_utf8-clause-come : goal.returns-then-front-len_utf8-clause-come
returns-then-front-len_utf8-clause-come g c = ([], refl, none g (goal.at.returns-then-front-len_utf8-clause-come g c).After-laws_of_characters)

pub runs-init : goal.runs-init
runs-init g c =
    let first = c.requires.first in
    record {
      callable = c.requires.callable;
      right = c.requires.right;
      keeps = record { state = c.requires.state; select = refl; room = refl };
      followed = record { within = omega (arith, first.front.0); next = first.front.1; letter = first.letter };
      come = ([], refl, none g (goal.at.runs-init g c).After-laws_of_characters);
    }

-- ---- a run more

come : (g : given.Over) (c : After-walk_run-is_due g) → HandsOut (goal.F-step g) c.args.sink.now c.walk_run-is_due.new.sink
    (HasComeTo (g.W.Weights.table c.args.query.now.table.now) c.args.query.now.pattern.now c.args.front.piece.now c.args.front.offset c.args.front.reach c.args.from.next c.args.matcher.now c.walk_run-is_due.new.matcher c.walk_run-is_due.result.0.len c.walk_run-is_due.result.0.next)
come g c =
    let i = c.runs.invariant in
    let walks = c.walk_run-is_due.ensures.walks in (
      i.come.0 ++ walks.0,
      folds-append (λ f range t. goal.F-step g f range.0 range.1 tt t) c.args.sink.now i.come.0 walks.0 c.runs.sink c.walk_run-is_due.new.sink i.come.1 walks.1,
      walks.2.come c.args.from.next c.args.matcher.now i.come.0 i.come.2,
    )

pub returns-then-not-is_due-clause-come : goal.returns-then-not-is_due-clause-come
returns-then-not-is_due-clause-come g c = come g (goal.at.returns-then-not-is_due-clause-come g c).After-walk_run-is_due

pub pass_by-here-requires-clause-may : goal.pass_by-here-requires-clause-may
pass_by-here-requires-clause-may g c = (c.walk_run-is_due.ensures.walks.2.due c.if-not-is_due.false).1

-- text behind it may have been passed by
pub runs-preserved : goal.runs-preserved
runs-preserved g c =
    let i = c.runs.invariant in
    let so_far = come g (goal.at.runs-preserved g c).After-walk_run-is_due in
    let e = c.pass_by-here.ensures in
    let now = e.passes.come c.args.from.next c.args.matcher.now so_far.0 so_far.2 in
    record {
      callable = c.walk_run-is_due.ensures.callable;
      right = e.right;
      keeps = keeps-on c.args.query.now.pattern.now _ _ _ (keeps-on c.args.query.now.pattern.now _ _ _ i.keeps c.walk_run-is_due.ensures.keeps) e.keeps;
      followed = record { within = now.within; next = now.next; letter = e.passes.letter };
      come = (so_far.0, so_far.1, now);
    }
