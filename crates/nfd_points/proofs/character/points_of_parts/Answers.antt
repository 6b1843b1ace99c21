use Rattle.std.proofs.Common.{◌+◌, ◌≡◌, ℕ, Bool, false, [], ◌∷◌, ◌++◌, drop, get_or, length, append_assoc, append-nil, length-append, sym, ap, ◌∙◌, arith}
use Rattle.std.proofs.Math.ListN.{drop_of_length-le}
use Rattle.std.proofs.lemmas.List.Elements.{All-same, All-push}
use Rattle.unicode_normalization.specs.Lookups.{canonical_combining_class}
use Rattle.nfd_points.specs.declared.points.Point.{Point}
use Rattle.nfd_points.specs.Points.{points_at}
use Rattle.nfd_points.specs.Reordering.{IsSoundPoint}
use Rattle.nfd_points.proofs.PointsLemmas.{points_at-nil}
use Rattle.nfd_points.proofs.StepLemmas.{points_at-more}
use Rattle.nfd_points.proofs.character.points_of_parts.Goals as goal

-- the point of a code point of the decomposition
abbrev point_at : ℕ → Bool → ℕ → Point
point_at start is_first d = record { cp = d; ccc = canonical_combining_class d; offset = start; first = is_first }

pub loop-part-preserved : goal.loop-part-preserved
loop-part-preserved c =
    let i = c.loop-part.part-index in
    let parts = c.args.parts.now in
    let items = c.loop-part.points.items in
    let later = points_at c.args.offset false (drop (i + 1) parts) in
    let point : c.new.result ≡ point_at c.args.offset c.loop-part.is_first (get_or parts i c.part-item.result) = c.new.ensures.value ∙ ap (point_at c.args.offset c.loop-part.is_first) c.part-item.is in
    record {
      made =
          ap (λ ps. ps ++ later) c.push.ensures.items ∙ append_assoc items (c.new.result ∷ []) later ∙ ap (λ p. items ++ p ∷ later) point
          ∙ ap (λ ps. items ++ ps) (sym (points_at-more c.args.offset c.loop-part.is_first parts i c.part-item.result c.loop-part-test.true))
          ∙ c.loop-part.invariant.made;
      len = omega (arith, ap length c.push.ensures.items, length-append items (c.new.result ∷ []), c.loop-part.invariant.len);
      sound = All-same IsSoundPoint _ _ c.push.ensures.items (All-push IsSoundPoint items c.new.result c.loop-part.invariant.sound c.new.ensures.sound);
    }

pub returns-clause-value : goal.returns-clause-value
returns-clause-value c =
    let none : points_at c.args.offset c.loop-part.is_first (drop c.loop-part.part-index c.args.parts.now) ≡ [] =
    ap (points_at c.args.offset c.loop-part.is_first) (drop_of_length-le c.args.parts.now c.loop-part-test.false) ∙ points_at-nil c.args.offset c.loop-part.is_first in
    sym (append-nil c.loop-part.points.items) ∙ ap (λ ps. c.loop-part.points.items ++ ps) (sym none) ∙ c.loop-part.invariant.made
