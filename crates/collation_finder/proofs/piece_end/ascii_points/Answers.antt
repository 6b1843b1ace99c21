use Rattle.std.proofs.Common.{◌≡◌, ◌∙◌, ◌+◌, ◌<◌, List, [], ◌∷◌, ◌++◌, length, take, get_or, sym, ap, arith, true}
use Rattle.std.proofs.lemmas.List.{get_or-take, length-take-le}
use Rattle.std.proofs.lemmas.List.Elements.{All-same, All-append}
use Rattle.unicode_normalization.specs.StreamSafe.{has_short_runs}
use Rattle.nfd_points.specs.declared.points.Point.{Point}
use Rattle.nfd_points.specs.Points.{ascii_point}
use Rattle.nfd_points.specs.Reordering.{IsSoundPoint, code_points, is_closed}
use Rattle.collation_finder.proofs.AsciiLemmas.{ascii-more, ascii-some, closed-none, closed-one, points-more, short-none, short-one, sound-one}
use Rattle.collation_finder.proofs.TakenAtOnceLemmas.{from_none}
use Rattle.collation_finder.proofs.piece_end.ascii_points.Goals as goal

pub loop-len-init : goal.loop-len-init
loop-len-init c =
    let none = c.clear.ensures in
    record {
      within = omega arith;
      count = ap length none;
      ascii = λ i. omega arith;
      points = none ∙ sym (from_none c.args.offset);
      closed = ap is_closed none ∙ closed-none;
      sound = All-same IsSoundPoint _ _ none (λ k d less. absurd (omega (arith, less)));
      short = ap (λ (ps : List Point). has_short_runs 0 (code_points ps)) none ∙ short-none;
    }

pub loop-len-preserved : goal.loop-len-preserved
loop-len-preserved c = let i = c.loop-len.invariant in
    let piece = c.args.piece.now in
    let n = c.loop-len.len in
    let b = get_or piece n 0 in
    let start = c.args.offset in
    let before = c.loop-len.points.items in
    let most = c.min-most.ensures in
    let test = c.loop-len-test.true in
    let counted = c.ascii_len-count.ensures in
    let room = length-take-le c.min-most.result piece (omega (arith, most)) in
    let near : n < c.min-most.result = omega (arith, test, room, counted.within) in
    let less : n < length piece = omega (arith, near, most) in
    let front = take c.min-most.result piece in
    let here = get_or-take c.ascii_len-count.result front n 0 test ∙ get_or-take c.min-most.result piece n 0 near in
    let last : b < 128 = let low = counted.ascii n in omega (arith, here, low) in
    let one : List Point = ascii_point (start + n) b ∷ [] in
    let pushed : c.push.new.self.items ≡ before ++ one = c.push.ensures.items ∙ ap (λ k. before ++ record { cp = k; ccc = 0; first = true; offset = start + n } ∷ []) c.from.ensures in
    record {
      within = omega (arith, test);
      count = let len = c.push.ensures.len in let was = i.count in omega (arith, len, was);
      ascii = ascii-more piece n less i.ascii last;
      points = pushed ∙ ap (λ (ps : List Point). ps ++ one) i.points ∙ sym (points-more c.laws_of_decompositions.ensures.ascii c.laws_of_points.ensures.parts start piece n less i.ascii last);
      closed = ap is_closed pushed ∙ c.closed_points_append.ensures before one i.closed (closed-one (start + n) b);
      sound = All-same IsSoundPoint _ _ pushed (All-append IsSoundPoint before one i.sound (sound-one c.laws_of_points.ensures.ascii (start + n) b last));
      short = ap (λ (ps : List Point). has_short_runs 0 (code_points ps)) pushed ∙ c.laws_of_runs.ensures.join before one i.sound i.closed i.short (short-one c.laws_of_points.ensures.ascii (start + n) b last);
    }

pub returns-clause-some : goal.returns-clause-some
returns-clause-some c = λ some low.
    let most = c.min-most.ensures in
    let here = ascii-some c.args.piece.now c.min-most.result (omega (arith, most, some)) some low in
    omega (arith, here, c.ascii_len-count.ensures.value, c.loop-len-test.false)
