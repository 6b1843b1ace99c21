use Rattle.std.proofs.Common.{◌+◌, length, drop, get_or, ◌++◌, ◌∷◌, [], ◌≡◌, ℕ, Bool, sym, ap, ◌∙◌, arith}
use Rattle.std.proofs.Math.ListN.{drop_of_length-le}
use Rattle.unicode_normalization.specs.Lookups.{canonical_combining_class}
use Rattle.unicode_normalization.specs.StreamSafe.{has_short_runs}
use Rattle.nfd_points.specs.declared.points.Point.{Point}
use Rattle.nfd_points.specs.Points.{points_at, ordered}
use Rattle.nfd_points.specs.PointFaults.{run_after}
use Rattle.nfd_points.proofs.PointsLemmas.{points_at-nil}
use Rattle.nfd_points.proofs.RunLemmas.{run_after-nil}
use Rattle.nfd_points.proofs.PushLemmas.{short-here, run-here, moved-here}
use Rattle.nfd_points.proofs.reordering.Reorder.take_all.Goals as goal

-- the point of a code point of the decomposition
abbrev point_at : ℕ → Bool → ℕ → Point
point_at start is_first d = record { cp = d; ccc = canonical_combining_class d; offset = start; first = is_first }

pub take-requires-clause-short : goal.take-requires-clause-short
take-requires-clause-short c =
    ap (λ d. has_short_runs (length c.loop-part.self.held) (d ∷ [])) (ap (λ (p : Point). p.cp) c.new.ensures.value ∙ c.part-item.is)
    ∙ (short-here (length c.loop-part.self.held) c.args.parts.now c.loop-part.part-index _ c.loop-part-test.true c.loop-part.invariant.short).0

pub loop-part-preserved : goal.loop-part-preserved
loop-part-preserved c =
    let run = length c.loop-part.self.held in
    let i = c.loop-part.part-index in
    let parts = c.args.parts.now in
    let after = drop (i + 1) parts in
    let code : c.new.result.cp ≡ get_or parts i c.part-item.result = ap (λ (p : Point). p.cp) c.new.ensures.value ∙ c.part-item.is in
    let point : c.new.result ≡ point_at c.args.offset c.loop-part.is_first (get_or parts i c.part-item.result) = c.new.ensures.value ∙ ap (point_at c.args.offset c.loop-part.is_first) c.part-item.is in
    let here : length c.take.new.self.held ≡ run_after run (get_or parts i c.part-item.result ∷ []) = c.take.ensures.run ∙ ap (λ d. run_after run (d ∷ [])) code in
    record {
      moved =
          λ rest.
          c.loop-part.invariant.moved rest
          ∙ moved-here c.loop-part.self.held c.loop-part.out.items c.take.new.self.held c.take.new.out.items c.args.offset c.loop-part.is_first parts i c.part-item.result c.loop-part-test.true
          (λ later. ap (λ p. c.loop-part.out.items ++ ordered (c.loop-part.self.held ++ p ∷ later)) (sym point) ∙ c.take.ensures.moved later) rest;
      closed = λ h. c.take.ensures.closed (c.loop-part.invariant.closed h);
      sound = λ h. c.take.ensures.sound (c.loop-part.invariant.sound h);
      held = c.take.ensures.held;
      len = omega arith;
      short = ap (λ n. has_short_runs n after) here ∙ (short-here run parts i c.part-item.result c.loop-part-test.true c.loop-part.invariant.short).1;
      run = ap (λ n. run_after n after) here ∙ run-here run parts i c.part-item.result c.loop-part-test.true ∙ c.loop-part.invariant.run;
    }

pub returns-clause-moved : goal.returns-clause-moved
returns-clause-moved c rest =
    let none : points_at c.args.offset c.loop-part.is_first (drop c.loop-part.part-index c.args.parts.now) ≡ [] =
    ap (points_at c.args.offset c.loop-part.is_first) (drop_of_length-le c.args.parts.now c.loop-part-test.false) ∙ points_at-nil c.args.offset c.loop-part.is_first in
    c.loop-part.invariant.moved rest ∙ ap (λ l. c.loop-part.out.items ++ ordered (c.loop-part.self.held ++ (l ++ rest))) none

pub returns-clause-run : goal.returns-clause-run
returns-clause-run c =
    sym (run_after-nil (length c.loop-part.self.held))
    ∙ ap (run_after (length c.loop-part.self.held)) (sym (drop_of_length-le c.args.parts.now c.loop-part-test.false))
    ∙ c.loop-part.invariant.run
