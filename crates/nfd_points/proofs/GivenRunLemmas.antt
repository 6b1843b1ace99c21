-- Runs of non-starters among the points that `push` gives, and among points that follow others.
use Rattle.std.proofs.Common.{◌≡◌, ℕ, ◌+◌, ◌==◌, true, not, List, [], ◌∷◌, ◌++◌, length, All, None, sym, ap, ◌∙◌, arith, inl, inr}
use Rattle.std.proofs.lemmas.Bool.{cases_Bool, and_from, and_parts}
use Rattle.std.proofs.lemmas.List.{map-append, length-map}
use Rattle.std.proofs.lemmas.List.Elements.{All-head, All-tail, All-append, All-weaker}
use Rattle.std.specs.List.{list_all}
use Rattle.unicode_normalization.specs.Order.{is_nonstarter}
use Rattle.unicode_normalization.specs.StreamSafe.{has_short_runs}
use Rattle.nfd_points.specs.declared.points.Point.{Point}
use Rattle.nfd_points.specs.Points.{decomposition, points_of}
use Rattle.nfd_points.specs.PointFaults.{run_after, fault_of_code_point}
use Rattle.nfd_points.specs.Reordering.{code_points, IsSoundPoint, IsHeld, is_non_starter, is_closed}
use Rattle.nfd_points.proofs.PointsLemmas.{HasClass, HasClass-points_at, code_points-points_at}
use Rattle.nfd_points.proofs.PushLemmas.{PushGives, IsPushed-all}
use Rattle.nfd_points.proofs.RunLemmas.{run_after-mark, run_after-starter, run_after-nil, short-append, fault_of_code_point-parts, part_fault-none}
use Rattle.nfd_points.proofs.ShortRunLemmas.{short-ordered}
use Rattle.nfd_points.proofs.StepLemmas.{short-few}

codes-append : (xs ys : List Point) → code_points (xs ++ ys) ≡ code_points xs ++ code_points ys
codes-append xs ys = map-append (λ (p : Point). p.cp) xs ys

-- ---- non-starters that waited, and then a decomposition

run-waiting : (run : ℕ) (ps : List Point) → All IsSoundPoint ps → list_all is_non_starter ps ≡ true → run_after run (code_points ps) ≡ run + length ps
run-waiting run [] sound h = run_after-nil run ∙ omega arith
run-waiting run (p ∷ ps) sound h =
    let parts = and_parts (is_non_starter p) (list_all is_non_starter ps) h in
    let class = (All-head IsSoundPoint p ps sound).class in
    let mark : is_nonstarter p.cp ≡ true = ap (λ (n : ℕ). not (n == 0)) (sym class) ∙ parts.0 in
    run_after-mark run p.cp (code_points ps) mark ∙ run-waiting (run + 1) ps (All-tail IsSoundPoint p ps sound) parts.1 ∙ omega arith

short-waiting : (old : List Point) (c : ℕ) → IsHeld old → fault_of_code_point (length old) c ≡ None → has_short_runs 0 (code_points old ++ decomposition c) ≡ true
short-waiting old c held none =
    let waits : run_after 0 (code_points old) ≡ length old = run-waiting 0 old held.sound held.non_starters ∙ omega arith in
    let few : has_short_runs 0 (code_points old) ≡ true = short-few 0 (code_points old) (omega (arith, held.few, length-map old (λ (p : Point). p.cp))) in
    let part : has_short_runs (length old) (decomposition c) ≡ true = (part_fault-none (length old) (decomposition c) (sym (fault_of_code_point-parts (length old) c) ∙ none)).1 in
    short-append 0 (code_points old) (decomposition c)
    ∙ and_from _ _ few (ap (λ n. has_short_runs n (decomposition c)) waits ∙ part)

-- what was given and what waits now is what waited before and the decomposition, in order
pub short-given : (old new out : List Point) (start c : ℕ) → IsHeld old → PushGives old start c new out → fault_of_code_point (length old) c ≡ None → has_short_runs 0 (code_points out) ≡ true
short-given old new out start c held pushed none =
    let classes : All HasClass (old ++ points_of start c) =
    All-append HasClass old (points_of start c) (All-weaker IsSoundPoint HasClass (λ p sound. sound.class) old held.sound)
    (HasClass-points_at start true (decomposition c)) in
    let all : has_short_runs 0 (code_points (out ++ new)) ≡ true =
    ap (λ l. has_short_runs 0 (code_points l)) (IsPushed-all old new out start c pushed)
    ∙ short-ordered 0 (old ++ points_of start c) classes
    ∙ ap (has_short_runs 0) (codes-append old (points_of start c) ∙ ap (λ l. code_points old ++ l) (code_points-points_at start true (decomposition c)))
    ∙ short-waiting old c held none in
    (and_parts _ _ (sym (short-append 0 (code_points out) (code_points new)) ∙ ap (has_short_runs 0) (sym (codes-append out new)) ∙ all)).0

-- ---- points that end in a starter, and then others

run-closed : (run : ℕ) (p : Point) (ps : List Point) → All IsSoundPoint (p ∷ ps) → is_closed (p ∷ ps) ≡ true → run_after run (code_points (p ∷ ps)) ≡ 0
unfolding is_closed
run-closed run p [] sound h =
    let class = (All-head IsSoundPoint p [] sound).class in
    run_after-starter run p.cp [] (ap (λ (n : ℕ). not (n == 0)) (sym class) ∙ ap not h) ∙ run_after-nil 0
run-closed run p (q ∷ qs) sound h =
    let rest = All-tail IsSoundPoint p (q ∷ qs) sound in
    elim (cases_Bool (is_nonstarter p.cp)) [
      | inl mark ↦ run_after-mark run p.cp (code_points (q ∷ qs)) mark ∙ run-closed (run + 1) q qs rest h
      | inr starter ↦ run_after-starter run p.cp (code_points (q ∷ qs)) starter ∙ run-closed 0 q qs rest h
    ]

pub short-join : (xs ys : List Point) → All IsSoundPoint xs → is_closed xs ≡ true → has_short_runs 0 (code_points xs) ≡ true → has_short_runs 0 (code_points ys) ≡ true → has_short_runs 0 (code_points (xs ++ ys)) ≡ true
short-join [] ys sound closed short_xs short_ys = short_ys
short-join (x ∷ xs) ys sound closed short_xs short_ys =
    ap (has_short_runs 0) (codes-append (x ∷ xs) ys)
    ∙ short-append 0 (code_points (x ∷ xs)) (code_points ys)
    ∙ and_from _ _ short_xs (ap (λ n. has_short_runs n (code_points ys)) (run-closed 0 x xs sound closed) ∙ short_ys)
