-- A point more.
use Rattle.std.proofs.Common.{◌≡◌, ◌-◌, sym, ap, ◌∙◌, ◌++◌, [], ◌∷◌, length, take, drop, arith}
use Rattle.std.proofs.lemmas.List.{append_assoc, length-append, length-take, length-drop}
use Rattle.std.proofs.lemmas.List.Elements.{All-push, All-same}
use Rattle.nfd_points.specs.Reordering.{IsSoundPoint}
use Rattle.collation_states.specs.StateTests.{points_in}
use Rattle.collation_states.proofs.StatePointLemmas.{points-next, right-next}
use Rattle.collation_states.proofs.state_points.read_points.Goals as goal

pub loop-rest-preserved : goal.loop-rest-preserved
loop-rest-preserved c =
    let words = c.loop-rest.rest.now in
    let p = c.in-Some.point in
    let next = points-next words p c.in-len4-up.len_at_least c.in-Some.ensures.point in
    let rest = take (length words - 4) (drop 4 words) in
    let old = c.loop-rest.points.items in
    let new = c.push.new.self.items in
    let more : new ≡ old ++ p ∷ [] = c.push.ensures.items in
    record {
      points = ap (λ l. l ++ points_in rest) more ∙ append_assoc old (p ∷ []) (points_in rest) ∙ ap (λ l. old ++ l) (sym next) ∙ c.loop-rest.invariant.points;
      sound = All-same IsSoundPoint new (old ++ p ∷ []) more (All-push IsSoundPoint old p c.loop-rest.invariant.sound c.in-Some.ensures.sound);
      few =
          let so_far = c.loop-rest.invariant.few in
          let longer = ap length more ∙ length-append old (p ∷ []) in
          let shorter = length-take (length words - 4) (drop 4 words) in
          let dropped = length-drop 4 words in
          let record_there = c.in-len4-up.len_at_least in omega arith;
      right = c.loop-rest.invariant.right ∙ right-next c.args.end words c.in-len4-up.len_at_least (sym c.in-Some.ensures.right);
    }
