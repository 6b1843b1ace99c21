-- A point more: a starter ends a run, and a non-starter makes it longer.
use Rattle.std.proofs.Common.{◌∙◌, ◌+◌, sym, ap, refl, drop, arith}
use Rattle.unicode_normalization.specs.StreamSafe.{has_short_runs}
use Rattle.nfd_points.specs.Reordering.{code_points}
use Rattle.collation_states.proofs.StatePointLemmas.{no_point, after-starter, after-mark, after-too-many, after-all}
use Rattle.collation_states.proofs.state_points.have_short_runs.Goals as goal
use Rattle.collation_states.proofs.state_points.have_short_runs.Goals.{then-point-eq0, else-point-eq0+then-run-lt-MOST_WAITING}

pub returns-else-run-lt-MOST_WAITING : goal.returns-else-run-lt-MOST_WAITING
returns-else-run-lt-MOST_WAITING c =
    let at = c.loop-point.point-index in
    sym (c.loop-point.invariant.right ∙ after-too-many c.args.points.now at _ c.loop-point-test.true refl (c.requires at no_point c.loop-point-test.true) c.loop-point.run c.if-point-eq0.false c.if-run-lt-MOST_WAITING.false)

pub loop-point-preserved : goal.loop-point-preserved
loop-point-preserved c =
    let at = c.loop-point.point-index in
    elim c.if-point-eq0.branch [
      | then-point-eq0 w ↦ record {
        run = let zero = w.run-is in omega arith;
        right = c.loop-point.invariant.right
            ∙ after-starter c.args.points.now at _ c.loop-point-test.true refl (c.requires at no_point c.loop-point-test.true) c.loop-point.run w.if-point-eq0.true
            ∙ ap (λ n. has_short_runs n (code_points (drop (at + 1) c.args.points.now))) (sym w.run-is);
      }
      | else-point-eq0+then-run-lt-MOST_WAITING w ↦ record {
        run = let more = w.run-is in let short = w.if-run-lt-MOST_WAITING.true in omega arith;
        right = c.loop-point.invariant.right
            ∙ after-mark c.args.points.now at _ c.loop-point-test.true refl (c.requires at no_point c.loop-point-test.true) c.loop-point.run w.if-point-eq0.false w.if-run-lt-MOST_WAITING.true
            ∙ ap (λ n. has_short_runs n (code_points (drop (at + 1) c.args.points.now))) (sym w.run-is);
      }
    ]

pub returns : goal.returns
returns c = sym (c.loop-point.invariant.right ∙ after-all c.args.points.now c.loop-point.point-index c.loop-point.run c.loop-point-test.false)
