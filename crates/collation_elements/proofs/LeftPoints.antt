-- The points that a unit leaves: each was there before, and no run of non-starters among them is longer. A unit takes the first
-- points and, of those that follow, non-starters only.
use Rattle.std.proofs.Common.{◌≡◌, ℕ, zero, suc, ◌+◌, ◌≤◌, ◌==◌, not, Bool, true, false, cond, List, [], ◌∷◌, ◌++◌, take, drop, refl, sym, ◌∙◌, ap, inl, inr, arith, append_assoc}
use Rattle.std.proofs.lemmas.Bool.{cases_Bool}
use Rattle.std.proofs.lemmas.List.{append-nil, map-append}
use Rattle.std.proofs.lemmas.List.Elements.{All-nil, All-head, All-tail, All-append, All-push, All-drop}
use Rattle.std.specs.List.{All}
use Rattle.unicode_normalization.specs.Order.{is_nonstarter}
use Rattle.unicode_normalization.specs.StreamSafe.{has_short_runs}
use Rattle.nfd_points.specs.declared.points.Point.{Point}
use Rattle.nfd_points.specs.Points.{is_starter}
use Rattle.nfd_points.specs.Reordering.{IsSoundPoint}
use Rattle.nfd_points.proofs.RunLemmas.{short-longer, short-room, short-starter, short-nil}
use Rattle.collation_table.specs.Table.{TableMap}
use Rattle.collation_elements.specs.Units.{code_points, Cut, joins, extended, prefix_length}
use Rattle.collation_elements.specs.Windows.{next_cut}

-- what holds of the points left in each of the three cases of a look
pub rest-cond : (P : List Point → Type 0) (s j : Bool) (stop taken left : Cut) → P stop.rest → (s ≡ false → P taken.rest) → (s ≡ false → P left.rest) → P (cond s stop (cond j taken left)).rest
rest-cond P true j stop taken left a b c = a
rest-cond P false true stop taken left a b c = b refl
rest-cond P false false stop taken left a b c = c refl

-- ---- what holds of each point

pub all-extended : (P : Point → Type 0) (T : TableMap) (unit between following : List Point) → All P between → All P following → All P (extended T unit between following).rest
all-extended P T unit between [] looked_at rest = looked_at
all-extended P T unit between (c ∷ following) looked_at rest =
    let stop : Cut = record { unit = unit; rest = between ++ c ∷ following } in
    let later = All-tail P c following rest in
    rest-cond (All P) (is_starter c) (joins T unit between c) stop (extended T (unit ++ c ∷ []) between following) (extended T unit (between ++ c ∷ []) following)
    (All-append P between (c ∷ following) looked_at rest)
    (λ e. all-extended P T (unit ++ c ∷ []) between following looked_at later)
    (λ e. all-extended P T unit (between ++ c ∷ []) following (All-push P between c looked_at (All-head P c following rest)) later)

pub all-next_cut : (P : Point → Type 0) (T : TableMap) (ps : List Point) → All P ps → All P (next_cut T ps).rest
all-next_cut P T [] h = All-nil P
all-next_cut P T (p ∷ ps) h =
    let n : ℕ = prefix_length T (p ∷ ps) in
    all-extended P T (take n (p ∷ ps)) [] (drop n (p ∷ ps)) (All-nil P) (All-drop P n (p ∷ ps) h)

-- ---- runs of non-starters

-- fewer non-starters before
short-fewer : (few run : ℕ) (ds : List ℕ) → few ≤ run → has_short_runs run ds ≡ true → has_short_runs few ds ≡ true
short-fewer few run [] le h = short-nil few
short-fewer few run (d ∷ ds) le h =
    elim (cases_Bool (is_nonstarter d)) [
      | inl mark ↦
          let parts = short-room run d ds mark h in
          short-longer few d ds mark (omega (arith, le, parts.0)) ∙ short-fewer (few + 1) (run + 1) ds (omega arith) parts.1
      | inr starter ↦ short-starter few d ds starter ∙ sym (short-starter run d ds starter) ∙ h
    ]

-- one non-starter less
short-without : (run : ℕ) (xs : List ℕ) (d : ℕ) (ys : List ℕ) → is_nonstarter d ≡ true → has_short_runs run (xs ++ d ∷ ys) ≡ true → has_short_runs run (xs ++ ys) ≡ true
short-without run [] d ys mark h =
    short-fewer run (run + 1) ys (omega arith) (short-room run d ys mark h).1
short-without run (x ∷ xs) d ys mark h =
    elim (cases_Bool (is_nonstarter x)) [
      | inl mark_x ↦
          let parts = short-room run x (xs ++ d ∷ ys) mark_x h in
          short-longer run x (xs ++ ys) mark_x parts.0 ∙ short-without (run + 1) xs d ys mark parts.1
      | inr starter ↦
          short-starter run x (xs ++ ys) starter ∙ short-without 0 xs d ys mark (sym (short-starter run x (xs ++ d ∷ ys) starter) ∙ h)
    ]

-- without the first points
pub short-drop : (run n : ℕ) (ps : List Point) → has_short_runs run (code_points ps) ≡ true → has_short_runs 0 (code_points (drop n ps)) ≡ true
short-drop run zero ps h = short-fewer 0 run (code_points ps) (omega arith) h
short-drop run (suc n) [] h = short-nil 0
short-drop run (suc n) (p ∷ ps) h =
    elim (cases_Bool (is_nonstarter p.cp)) [
      | inl mark ↦ short-drop (run + 1) n ps (short-room run p.cp (code_points ps) mark h).1
      | inr starter ↦ short-drop 0 n ps (sym (short-starter run p.cp (code_points ps) starter) ∙ h)
    ]

abbrev IsShort : List Point → Type 0
IsShort ps = has_short_runs 0 (code_points ps) ≡ true

codes-append : (xs ys : List Point) → code_points (xs ++ ys) ≡ code_points xs ++ code_points ys
codes-append xs ys = map-append (λ (p : Point). p.cp) xs ys

short-extended : (T : TableMap) (unit between following : List Point) → All IsSoundPoint following → IsShort (between ++ following) → IsShort (extended T unit between following).rest
short-extended T unit between [] sound h = ap (λ l. has_short_runs 0 (code_points l)) (sym (append-nil between)) ∙ h
short-extended T unit between (c ∷ following) sound h =
    let stop : Cut = record { unit = unit; rest = between ++ c ∷ following } in
    let later = All-tail IsSoundPoint c following sound in
    let mark : is_starter c ≡ false → is_nonstarter c.cp ≡ true = λ e. ap (λ (n : ℕ). not (n == 0)) (sym (All-head IsSoundPoint c following sound).class) ∙ ap not e in
    rest-cond IsShort (is_starter c) (joins T unit between c) stop (extended T (unit ++ c ∷ []) between following) (extended T unit (between ++ c ∷ []) following)
    h
    (λ e. short-extended T (unit ++ c ∷ []) between following later
    (ap (has_short_runs 0) (codes-append between following)
    ∙ short-without 0 (code_points between) c.cp (code_points following) (mark e)
    (ap (has_short_runs 0) (sym (codes-append between (c ∷ following))) ∙ h)))
    (λ e. short-extended T unit (between ++ c ∷ []) following later
    (ap (λ l. has_short_runs 0 (code_points l)) (append_assoc between (c ∷ []) following) ∙ h))

pub short-next_cut : (T : TableMap) (ps : List Point) → All IsSoundPoint ps → has_short_runs 0 (code_points ps) ≡ true → has_short_runs 0 (code_points (next_cut T ps).rest) ≡ true
short-next_cut T [] sound h = h
short-next_cut T (p ∷ ps) sound h =
    let n : ℕ = prefix_length T (p ∷ ps) in
    short-extended T (take n (p ∷ ps)) [] (drop n (p ∷ ps)) (All-drop IsSoundPoint n (p ∷ ps) sound) (short-drop 0 n (p ∷ ps) h)
