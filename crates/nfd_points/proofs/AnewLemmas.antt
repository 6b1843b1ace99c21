-- A text that begins with a starter, after any other one: its runs of non-starters are its own.
use Rattle.std.proofs.Common.{◌≡◌, ℕ, ◌≤◌, ◌==◌, true, false, not, List, [], ◌∷◌, ◌++◌, length, flat_map, All, None, sym, ap, ◌∙◌, arith}
use Rattle.std.proofs.lemmas.Bool.{and_from}
use Rattle.std.proofs.lemmas.Grind.{flat_map-append}
use Rattle.std.proofs.lemmas.List.Elements.{All-head}
use Rattle.unicode_normalization.specs.Order.{is_nonstarter}
use Rattle.unicode_normalization.specs.StreamSafe.{has_short_runs}
use Rattle.nfd_points.specs.declared.limits.TheConstants.{MOST_WAITING}
use Rattle.nfd_points.specs.declared.points.Point.{Point}
use Rattle.nfd_points.specs.Points.{decomposition, points_from, begins_with_starter}
use Rattle.nfd_points.specs.PointFaults.{run_after, point_fault}
use Rattle.nfd_points.specs.Reordering.{code_points}
use Rattle.nfd_points.proofs.PointsLemmas.{HasClass, HasClass-points_from, code_points-points_parts}
use Rattle.nfd_points.proofs.RunLemmas.{short-append, short-starter, short-nil}
use Rattle.nfd_points.proofs.ShortRunLemmas.{short-good, good-short}
use Rattle.nfd_points.proofs.StepLemmas.{short-few}

pub few-good : (cs : List ℕ) → length (flat_map decomposition cs) ≤ MOST_WAITING → point_fault cs ≡ None
few-good cs few = good-short cs (short-few 0 (flat_map decomposition cs) (omega arith))

-- whatever run comes before points that begin with a starter
short-anew : (run : ℕ) (ps : List Point) → All HasClass ps → begins_with_starter ps ≡ true → has_short_runs run (code_points ps) ≡ has_short_runs 0 (code_points ps)
short-anew run [] classes h = short-nil run ∙ sym (short-nil 0)
short-anew run (p ∷ ps) classes h =
    let starter : is_nonstarter p.cp ≡ false = ap (λ (n : ℕ). not (n == 0)) (sym (All-head HasClass p ps classes)) ∙ ap not h in
    short-starter run p.cp (code_points ps) starter ∙ sym (short-starter 0 p.cp (code_points ps) starter)

pub starters-anew : (xs ys : List ℕ) → begins_with_starter (points_from 0 ys) ≡ true → point_fault xs ≡ None → point_fault ys ≡ None → point_fault (xs ++ ys) ≡ None
starters-anew xs ys h good_xs good_ys =
    let dx = flat_map decomposition xs in
    let dy = flat_map decomposition ys in
    let codes = code_points-points_parts 0 ys in
    let anew : has_short_runs (run_after 0 dx) dy ≡ has_short_runs 0 dy =
    ap (has_short_runs (run_after 0 dx)) (sym codes) ∙ short-anew (run_after 0 dx) (points_from 0 ys) (HasClass-points_from 0 ys) h ∙ ap (has_short_runs 0) codes in
    good-short (xs ++ ys)
    (ap (has_short_runs 0) (flat_map-append decomposition xs ys) ∙ short-append 0 dx dy
    ∙ and_from _ _ (short-good 0 0 xs good_xs) (anew ∙ short-good 0 0 ys good_ys))
