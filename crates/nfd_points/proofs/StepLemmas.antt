-- The steps of the loops over the decomposition of a code point: its points, and the run of non-starters.
use Rattle.std.proofs.Common.{◌≡◌, ◌≢◌, ℕ, ◌+◌, ◌<◌, ◌≤◌, Bool, true, false, not, List, [], ◌∷◌, length, drop, get_or, sym, ap, inl, inr, ◌∙◌, arith, eq-eqb, ne_eqb}
use Rattle.std.proofs.lemmas.Bool.{not_from_false, cases_Bool}
use Rattle.std.proofs.lemmas.List.{drop_more}
use Rattle.unicode_normalization.specs.Lookups.{canonical_combining_class}
use Rattle.unicode_normalization.specs.Order.{is_nonstarter}
use Rattle.unicode_normalization.specs.StreamSafe.{has_short_runs}
use Rattle.nfd_points.specs.declared.limits.TheConstants.{MOST_WAITING}
use Rattle.nfd_points.specs.declared.points.Point.{Point}
use Rattle.nfd_points.specs.Points.{points_at}
use Rattle.nfd_points.specs.PointFaults.{run_after}
use Rattle.nfd_points.specs.Reordering.{IsSoundPoint}
use Rattle.nfd_points.proofs.RunLemmas.{run_after-mark, run_after-starter, run_after-nil, short-longer, short-too_long, short-room, short-starter, short-nil}

-- ---- the code points of one decomposition

pub points_at-more : (start : ℕ) (is_first : Bool) (parts : List ℕ) (i d : ℕ) → i < length parts → points_at start is_first (drop i parts) ≡ record { cp = get_or parts i d; ccc = canonical_combining_class (get_or parts i d); offset = start; first = is_first } ∷ points_at start false (drop (i + 1) parts)
unfolding points_at
points_at-more start is_first parts i d lt = ap (points_at start is_first) (drop_more parts i d lt)

is_mark : (d : ℕ) → canonical_combining_class d ≢ 0 → is_nonstarter d ≡ true
is_mark d ne = not_from_false _ (ne_eqb (canonical_combining_class d) 0 ne)

is_no_mark : (d : ℕ) → canonical_combining_class d ≡ 0 → is_nonstarter d ≡ false
is_no_mark d e = ap not (eq-eqb (canonical_combining_class d) 0 e)

pub short-at_starter : (run : ℕ) (parts : List ℕ) (i d : ℕ) → i < length parts → canonical_combining_class (get_or parts i d) ≡ 0 → has_short_runs run (drop i parts) ≡ has_short_runs 0 (drop (i + 1) parts)
short-at_starter run parts i d lt e = ap (has_short_runs run) (drop_more parts i d lt) ∙ short-starter run _ _ (is_no_mark _ e)

pub short-at_mark : (run : ℕ) (parts : List ℕ) (i d : ℕ) → i < length parts → canonical_combining_class (get_or parts i d) ≢ 0 → run < MOST_WAITING → has_short_runs run (drop i parts) ≡ has_short_runs (run + 1) (drop (i + 1) parts)
short-at_mark run parts i d lt ne room =
    ap (has_short_runs run) (drop_more parts i d lt) ∙ short-longer run _ _ (is_mark _ ne) room

pub short-at_last : (run : ℕ) (parts : List ℕ) (i d : ℕ) → i < length parts → canonical_combining_class (get_or parts i d) ≢ 0 → MOST_WAITING ≤ run → has_short_runs run (drop i parts) ≡ false
short-at_last run parts i d lt ne full =
    ap (has_short_runs run) (drop_more parts i d lt) ∙ short-too_long run _ _ (is_mark _ ne) full

-- so few code points have room whatever they are
pub short-few : (run : ℕ) (ds : List ℕ) → run + length ds ≤ MOST_WAITING → has_short_runs run ds ≡ true
short-few run [] le = short-nil run
short-few run (d ∷ ds) le =
    elim (cases_Bool (is_nonstarter d)) [
      | inl mark ↦ short-longer run d ds mark (omega arith) ∙ short-few (run + 1) ds (omega arith)
      | inr starter ↦ short-starter run d ds starter ∙ short-few 0 ds (omega arith)
    ]

-- ---- one point

mark : (p : Point) → IsSoundPoint p → p.ccc ≢ 0 → is_nonstarter p.cp ≡ true
mark p sound ne = not_from_false _ (ne_eqb (canonical_combining_class p.cp) 0 (λ e. ne (sound.class ∙ e)))

starter : (p : Point) → IsSoundPoint p → p.ccc ≡ 0 → is_nonstarter p.cp ≡ false
starter p sound e = ap not (eq-eqb (canonical_combining_class p.cp) 0 (sym sound.class ∙ e))

pub run-one_starter : (run : ℕ) (p : Point) → IsSoundPoint p → p.ccc ≡ 0 → run_after run (p.cp ∷ []) ≡ 0
run-one_starter run p sound e = run_after-starter run p.cp [] (starter p sound e) ∙ run_after-nil 0

pub run-one_mark : (run : ℕ) (p : Point) → IsSoundPoint p → p.ccc ≢ 0 → run_after run (p.cp ∷ []) ≡ run + 1
run-one_mark run p sound ne = run_after-mark run p.cp [] (mark p sound ne) ∙ run_after-nil (run + 1)

pub room-one_mark : (run : ℕ) (p : Point) → IsSoundPoint p → p.ccc ≢ 0 → has_short_runs run (p.cp ∷ []) ≡ true → run < MOST_WAITING
room-one_mark run p sound ne h = (short-room run p.cp [] (mark p sound ne) h).0
