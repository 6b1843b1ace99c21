-- The points that a finder holds are as a state says.
use Rattle.std.proofs.Common.{◌≡◌, ℕ, ◌+◌, ◌<◌, ◌≤◌, true, List, ◌∷◌, [], ◌++◌, length, sym}
use Rattle.std.proofs.lemmas.Bool.{and_from}
use Rattle.std.proofs.lemmas.List.Elements.{All-same, All-weaker, All-contains_itself, Contains-append_left, Contains-append_right}
use Rattle.std.specs.List.{All, Contains, list_all}
use Rattle.unicode_normalization.specs.StreamSafe.{has_short_runs}
use Rattle.nfd_points.specs.declared.limits.TheConstants.{MOST_GIVEN, MOST_WAITING}
use Rattle.nfd_points.specs.declared.points.Point.{Point}
use Rattle.nfd_points.specs.Laws.{OffsetsAreWithin, WaitingAreOthers, PointsAreDecomposed}
use Rattle.nfd_points.specs.Points.{decomposition, byte_len, points, is_in_order}
use Rattle.nfd_points.specs.Reordering.{code_points, IsSoundPoint, is_closed, is_non_starter}
use Rattle.collation_table.specs.Table.{TableMap}
use Rattle.collation_pattern.specs.Compiled.{Compiled}
use Rattle.collation_states.specs.Laws.{IsPointBefore}
use Rattle.collation_states.specs.StateTests.{may_be_in_window, may_wait}
use Rattle.collation_finder.specs.declared.finder.Finder.{Finder}
use Rattle.collation_finder.specs.Finding.{FinderStandsFor}
use Rattle.collation_finder.proofs.MatchingLemmas.{all-among}

-- ---- where the points of a finder stand

given-points : (P : Point → Type 0) (given held all : List Point) → all ≡ given ++ held → All P all → (All P given) × (All P held)
given-points P given held all parts each =
    let whole : All P (given ++ held) = All-same P _ _ (sym parts) each in (
      all-among P (given ++ held) given whole
          (All-weaker (Contains given) (Contains (given ++ held)) (λ p there. Contains-append_left given held p there) given (All-contains_itself given)),
      all-among P (given ++ held) held whole
          (All-weaker (Contains held) (Contains (given ++ held)) (λ p there. Contains-append_right given held p there) held (All-contains_itself held)),
    )

-- what holds of each point of the text holds of those in the window and of those that wait
points-held : (P : Point → Type 0) → WaitingAreOthers → (table : TableMap) (pattern : Compiled) (finder : Finder) (taken : List ℕ) (ranges : List (ℕ × ℕ)) → FinderStandsFor table pattern finder taken ranges → All P (points taken) →
    (All P finder.window.points) × (All P finder.reorder.held)
points-held P others table pattern finder taken ranges h each =
    let both = given-points P h.points finder.reorder.held (points taken) (others finder.reorder taken h.points h.reordered) each in
    (all-among P h.points finder.window.points both.0 h.matched.kept, both.1)

-- ---- all of it, for a finder

-- the points that a finder holds, after code points of so many bytes
pub record PointsAreSaved (finder : Finder) (end : ℕ) : Type 0 where
  pub window : All (IsPointBefore end) finder.window.points
  pub waiting : All (IsPointBefore end) finder.reorder.held
  pub window_may_be : may_be_in_window finder.window.points ≡ true
  pub waiting_may_wait : may_wait finder.reorder.held ≡ true
  pub window_few : length finder.window.points + MOST_GIVEN ≤ finder.window.capacity
  pub waiting_few : length finder.reorder.held ≤ MOST_WAITING

each-before : (end : ℕ) (ps : List Point) → All IsSoundPoint ps → All (λ (p : Point). decomposition p.cp ≡ p.cp ∷ []) ps → All (λ (p : Point). p.offset < end) ps → All (IsPointBefore end) ps
each-before end ps sound itself below = λ i p here. record { sound = sound i p here; itself = itself i p here; before = below i p here }

pub points-saved : OffsetsAreWithin → WaitingAreOthers → PointsAreDecomposed → (table : TableMap) (pattern : Compiled) (finder : Finder) (taken : List ℕ) (ranges : List (ℕ × ℕ)) → FinderStandsFor table pattern finder taken ranges → PointsAreSaved finder (byte_len taken)
points-saved within others decomposed_law table pattern finder taken ranges h =
    let held = h.reordered.held in
    let below = points-held (λ (p : Point). p.offset < byte_len taken) others table pattern finder taken ranges h (within taken) in
    let itself = points-held (λ (p : Point). decomposition p.cp ≡ p.cp ∷ []) others table pattern finder taken ranges h (decomposed_law taken) in
    record {
      window = each-before (byte_len taken) finder.window.points finder.sound itself.0 below.0;
      waiting = each-before (byte_len taken) finder.reorder.held held.sound itself.1 below.1;
      window_may_be = and_from (is_closed finder.window.points) (has_short_runs 0 (code_points finder.window.points)) finder.closed finder.short_runs;
      waiting_may_wait = and_from (list_all is_non_starter finder.reorder.held) (is_in_order finder.reorder.held) held.non_starters held.in_order;
      window_few = finder.undecided;
      waiting_few = held.few;
    }
