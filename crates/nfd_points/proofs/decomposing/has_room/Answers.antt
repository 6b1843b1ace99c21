use Rattle.std.proofs.Common.{◌+◌, drop, sym, ap, ◌∙◌, arith}
use Rattle.std.proofs.Math.ListN.{drop_of_length-le}
use Rattle.unicode_normalization.specs.Lookups.{canonical_combining_class}
use Rattle.unicode_normalization.specs.StreamSafe.{has_short_runs}
use Rattle.nfd_points.proofs.RunLemmas.{short-nil}
use Rattle.nfd_points.proofs.StepLemmas.{short-at_starter, short-at_mark, short-at_last, short-few}
use Rattle.nfd_points.proofs.decomposing.has_room.Goals as goal
use Rattle.nfd_points.proofs.decomposing.has_room.Goals.{then-canonical_combining_class-eq0, else-canonical_combining_class-eq0+then-run-lt-MOST_WAITING}

pub returns-then-parts-run : goal.returns-then-parts-run
returns-then-parts-run c = sym (short-few c.args.run c.args.parts.now (omega (arith, c.if-parts-run.true, c.requires)))

pub returns-else-run-lt-MOST_WAITING : goal.returns-else-run-lt-MOST_WAITING
returns-else-run-lt-MOST_WAITING c =
    sym (short-at_last c.loop-part.run c.args.parts.now c.loop-part.part-index c.part-item.result c.loop-part-test.true
    (λ e. c.if-canonical_combining_class-eq0.false (c.canonical_combining_class.ensures ∙ ap canonical_combining_class c.part-item.is ∙ e)) c.if-run-lt-MOST_WAITING.false)
    ∙ c.loop-part.invariant.rest

pub loop-part-preserved : goal.loop-part-preserved
loop-part-preserved c =
    let i = c.loop-part.part-index in
    let class = c.canonical_combining_class.ensures ∙ ap canonical_combining_class c.part-item.is in
    elim c.if-canonical_combining_class-eq0.branch [
      | then-canonical_combining_class-eq0 w ↦
          record {
            few = omega arith;
            rest =
                ap (λ n. has_short_runs n (drop (i + 1) c.args.parts.now)) w.run-is
                ∙ sym (short-at_starter c.loop-part.run c.args.parts.now i c.part-item.result c.loop-part-test.true (sym class ∙ w.if-canonical_combining_class-eq0.true))
                ∙ c.loop-part.invariant.rest;
          }
      | else-canonical_combining_class-eq0+then-run-lt-MOST_WAITING w ↦
          record {
            few = omega arith;
            rest =
                ap (λ n. has_short_runs n (drop (i + 1) c.args.parts.now)) w.run-is
                ∙ sym (short-at_mark c.loop-part.run c.args.parts.now i c.part-item.result c.loop-part-test.true (λ e. w.if-canonical_combining_class-eq0.false (class ∙ e)) w.if-run-lt-MOST_WAITING.true)
                ∙ c.loop-part.invariant.rest;
          }
    ]

pub returns : goal.returns
returns c =
    sym (short-nil c.loop-part.run)
    ∙ ap (has_short_runs c.loop-part.run) (sym (drop_of_length-le c.args.parts.now c.loop-part-test.false))
    ∙ c.loop-part.invariant.rest
