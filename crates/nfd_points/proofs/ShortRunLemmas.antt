-- The points of a text without a fault have no more than `MOST_WAITING` non-starters in a row, and a text whose decompositions have no
-- longer run has no fault.
use Rattle.std.proofs.Common.{◌≡◌, ℕ, ◌+◌, ◌<◌, true, false, ◌&&◌, nat_lt, List, [], ◌∷◌, ◌++◌, flat_map, All, Some, None, sym, ap, ◌∙◌, arith, inl, inr, ne_eqb, zero-add}
use Rattle.std.proofs.lemmas.Bool.{cases_Bool, and_from, and_parts, not_from_false}
use Rattle.std.proofs.lemmas.Grind.{flat_map-append}
use Rattle.std.proofs.lemmas.List.{append-nil}
use Rattle.std.proofs.lemmas.List.Elements.{All-head, All-tail}
use Rattle.std.specs.Char.{len_utf8}
use Rattle.unicode_normalization.specs.Lookups.{canonical_combining_class}
use Rattle.unicode_normalization.specs.Order.{is_nonstarter}
use Rattle.unicode_normalization.specs.StreamSafe.{has_short_runs}
use Rattle.nfd_points.specs.declared.limits.TheConstants.{MOST_WAITING}
use Rattle.nfd_points.specs.declared.points.Point.{Point}
use Rattle.nfd_points.specs.Points.{decomposition, byte_len, points_from, points, is_reorderable, sink, ordered}
use Rattle.nfd_points.specs.PointFaults.{run_after, fault_from, point_fault}
use Rattle.nfd_points.specs.Reordering.{code_points}
use Rattle.nfd_points.proofs.OrderingLemmas.{is_reorderable-true, sink-past, sink-stays, sink-nil, ordered-nil, ordered-cons, All-ordered}
use Rattle.nfd_points.proofs.PointsLemmas.{HasClass, HasClass-points_from, code_points-points_parts}
use Rattle.nfd_points.proofs.RunLemmas.{short-mark, short-starter, short-nil, short-append, fault_of_code_point-none, fault_of_code_point-run, fault_from-nil, fault_from-here, fault_from-later, fault_from-good}

-- ---- ordering keeps the runs

same_after : (run c : ℕ) (xs ys : List ℕ) → ((n : ℕ) → has_short_runs n xs ≡ has_short_runs n ys) → has_short_runs run (c ∷ xs) ≡ has_short_runs run (c ∷ ys)
same_after run c xs ys same =
    elim (cases_Bool (is_nonstarter c)) [
      | inl mark ↦ short-mark run c xs mark ∙ ap (λ b. nat_lt run MOST_WAITING && b) (same (run + 1)) ∙ sym (short-mark run c ys mark)
      | inr starter ↦ short-starter run c xs starter ∙ same 0 ∙ sym (short-starter run c ys starter)
    ]

mark_of : (p : Point) → HasClass p → 0 < p.ccc → is_nonstarter p.cp ≡ true
mark_of p class above =
    not_from_false _ (ne_eqb (canonical_combining_class p.cp) 0 (λ e. let zero : p.ccc ≡ 0 = class ∙ e in omega arith))

short-sink : (run : ℕ) (p : Point) (qs : List Point) → HasClass p → All HasClass qs → has_short_runs run (code_points (sink p qs)) ≡ has_short_runs run (code_points (p ∷ qs))
short-sink run p [] of_p rest = ap (λ l. has_short_runs run (code_points l)) (sink-nil p)
short-sink run p (q ∷ qs) of_p rest =
    elim (cases_Bool (is_reorderable p q)) [
      | inr stays ↦ ap (λ l. has_short_runs run (code_points l)) (sink-stays p q qs stays)
      | inl past ↦
          let classes = is_reorderable-true p q past in
          let mark_q = mark_of q (All-head HasClass q qs rest) classes.0 in
          let mark_p = mark_of p of_p (omega arith) in
          ap (λ l. has_short_runs run (code_points l)) (sink-past p q qs past) ∙ short-mark run q.cp (code_points (sink p qs)) mark_q
          ∙ ap (λ b. nat_lt run MOST_WAITING && b)
          (short-sink (run + 1) p qs of_p (All-tail HasClass q qs rest) ∙ short-mark (run + 1) p.cp (code_points qs) mark_p
          ∙ sym (short-mark (run + 1) q.cp (code_points qs) mark_q))
          ∙ sym (short-mark run p.cp (code_points (q ∷ qs)) mark_p)
    ]

pub short-ordered : (run : ℕ) (ps : List Point) → All HasClass ps → has_short_runs run (code_points (ordered ps)) ≡ has_short_runs run (code_points ps)
short-ordered run [] h = ap (λ l. has_short_runs run (code_points l)) ordered-nil
short-ordered run (p ∷ ps) h =
    let rest = All-tail HasClass p ps h in
    ap (λ l. has_short_runs run (code_points l)) (ordered-cons p ps)
    ∙ short-sink run p (ordered ps) (All-head HasClass p ps h) (All-ordered HasClass ps rest)
    ∙ same_after run p.cp (code_points (ordered ps)) (code_points ps) (λ n. short-ordered n ps rest)

-- ---- a text without a fault

short-here : (start run c : ℕ) (cs : List ℕ) → fault_from start run (c ∷ cs) ≡ None → has_short_runs run (decomposition c) ≡ true
short-here start run c cs good =
    elim (cases_Bool (has_short_runs run (decomposition c))) [
      | inl short ↦ short
      | inr long ↦ let clash = sym good ∙ fault_from-here start run c 32 cs (fault_of_code_point-run run c long) in cc
    ]

pub short-good : (start run : ℕ) (cs : List ℕ) → fault_from start run cs ≡ None → has_short_runs run (flat_map decomposition cs) ≡ true
short-good start run [] good = short-nil run
short-good start run (c ∷ cs) good =
    let short = short-here start run c cs good in
    short-append run (decomposition c) (flat_map decomposition cs)
    ∙ and_from _ _ short
    (short-good (start + len_utf8 c) (run_after run (decomposition c)) cs (sym (fault_from-later start run c cs (fault_of_code_point-none run c short)) ∙ good))

pub short-points : (cs : List ℕ) → point_fault cs ≡ None → has_short_runs 0 (code_points (points cs)) ≡ true
short-points cs good =
    short-ordered 0 (points_from 0 cs) (HasClass-points_from 0 cs) ∙ ap (has_short_runs 0) (code_points-points_parts 0 cs) ∙ short-good 0 0 cs good

-- ---- a text with short runs

good-from : (start run : ℕ) (cs : List ℕ) → has_short_runs run (flat_map decomposition cs) ≡ true → fault_from start run cs ≡ None
good-from start run [] h = fault_from-nil start run
good-from start run (c ∷ cs) h =
    let parts = and_parts _ _ (sym (short-append run (decomposition c) (flat_map decomposition cs)) ∙ h) in
    fault_from-later start run c cs (fault_of_code_point-none run c parts.0) ∙ good-from (start + len_utf8 c) (run_after run (decomposition c)) cs parts.1

pub good-short : (cs : List ℕ) → has_short_runs 0 (flat_map decomposition cs) ≡ true → point_fault cs ≡ None
good-short cs h = good-from 0 0 cs h

-- the first code point that brings a longer run
pub fault-long : (before after : List ℕ) (c : ℕ) → has_short_runs 0 (flat_map decomposition before) ≡ true → has_short_runs 0 (flat_map decomposition (before ++ c ∷ [])) ≡ false → point_fault (before ++ c ∷ after) ≡ Some (byte_len before, 32)
fault-long before after c short long =
    let ds = flat_map decomposition before in
    let run = run_after 0 ds in
    let joined : flat_map decomposition (before ++ c ∷ []) ≡ ds ++ decomposition c =
    flat_map-append decomposition before (c ∷ []) ∙ ap (λ l. ds ++ l) (append-nil (decomposition c)) in
    let here : has_short_runs run (decomposition c) ≡ false =
    sym (short-append 0 ds (decomposition c) ∙ ap (λ b. b && has_short_runs run (decomposition c)) short) ∙ sym (ap (has_short_runs 0) joined) ∙ long in
    fault_from-good 0 0 before (c ∷ after) (good-short before short)
    ∙ fault_from-here (0 + byte_len before) run c 32 after (fault_of_code_point-run run c here)
    ∙ ap (λ n. Some (n, 32)) (zero-add (byte_len before))
