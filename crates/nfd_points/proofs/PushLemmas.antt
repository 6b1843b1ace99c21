-- What a code point that is no fault does to what waits, and what the clauses of `push` say of it.
use Rattle.std.proofs.Common.{◌≡◌, ℕ, ◌+◌, ◌<◌, Bool, true, false, not, List, [], ◌∷◌, ◌++◌, length, drop, get_or, None, refl, sym, ap, ap₂, subst, ◌∙◌, eq-eqb}
use borrow.Table.Char.{scalar_below}
use Rattle.std.proofs.lemmas.Bool.{and_parts}
use Rattle.std.proofs.lemmas.List.{append-nil, drop_more, nil_from_length}
use Rattle.std.specs.Char.{IsScalar}
use Rattle.unicode_normalization.specs.Lookups.{canonical_combining_class}
use Rattle.unicode_normalization.specs.Order.{is_nonstarter}
use Rattle.unicode_normalization.specs.StreamSafe.{has_short_runs}
use Rattle.nfd_points.specs.declared.points.Point.{Point}
use Rattle.nfd_points.specs.Points.{IsPlain, ascii_point, decomposition, byte_len, points_at, points_of, ordered}
use Rattle.nfd_points.specs.PointFaults.{run_after, fault_of_code_point}
use Rattle.nfd_points.specs.Reordering.{Waiting, IsSoundPoint, IsHeld, is_closed, HasReordered}
use Rattle.nfd_points.proofs.DecompositionLemmas.{ascii-plain}
use Rattle.nfd_points.proofs.OrderingLemmas.{ordered-ordered, ordered-nil}
use Rattle.nfd_points.proofs.PointsLemmas.{points_of-plain}
use Rattle.nfd_points.proofs.RunLemmas.{run_after-append, run_after-starter, run_after-nil, short-append, short-starter, short-nil, fault_of_code_point-none}
use Rattle.nfd_points.proofs.ReorderingLemmas.{is_closed-nil, is_closed-end, carries, take-starter}
use Rattle.nfd_points.proofs.StepLemmas.{points_at-more}

-- ---- what `push` does

-- c at an offset went in over the points `old`: `out` came out, and `new` waits
pub record PushGives (old : List Point) (start c : ℕ) (new out : List Point) : Type 0 where
  pub moved : (rest : List Point) → ordered (old ++ (points_of start c ++ rest)) ≡ out ++ ordered (new ++ rest)
  pub closed : is_closed out ≡ true
  pub held : IsHeld new
  pub run : length new ≡ run_after (length old) (decomposition c)

pub IsPushed-parts : (old new cleared out : List Point) (parts : List ℕ) (start c : ℕ) → cleared ≡ [] → parts ≡ decomposition c → IsHeld new → ((rest : List Point) → cleared ++ ordered (old ++ (points_at start true parts ++ rest)) ≡ out ++ ordered (new ++ rest)) → (is_closed cleared ≡ true → is_closed out ≡ true) → length new ≡ run_after (length old) parts → PushGives old start c new out
IsPushed-parts old new cleared out parts start c empty same held moved closed run = record {
  moved = λ rest. ap₂ (λ l ds. l ++ ordered (old ++ (points_at start true ds ++ rest))) (sym empty) (sym same) ∙ moved rest;
  closed = closed (ap is_closed empty ∙ is_closed-nil);
  held = held;
  run = run ∙ ap (run_after (length old)) same;
}

pub IsPushed-all : (old new out : List Point) (start c : ℕ) → PushGives old start c new out → out ++ new ≡ ordered (old ++ points_of start c)
IsPushed-all old new out start c h =
    ap (λ l. out ++ l) (sym (ap ordered (append-nil new) ∙ ordered-ordered new h.held.in_order)) ∙ sym (h.moved [])
    ∙ ap (λ l. ordered (old ++ l)) (append-nil (points_of start c))

pub IsPushed-carries : (old new : Waiting) (out : List Point) (start c : ℕ) → PushGives old.held start c new.held out → fault_of_code_point (length old.held) c ≡ None → (taken : List ℕ) (given : List Point) → HasReordered old taken given → start ≡ byte_len taken → HasReordered new (taken ++ c ∷ []) (given ++ out)
IsPushed-carries old new out start c h none taken given before at =
    let here : PushGives old.held (byte_len taken) c new.held out = subst (λ n. PushGives old.held n c new.held out) at h in
    carries old new taken given c out before none here.held here.closed here.run here.moved

-- ---- starters that are their own decomposition

plain-starter : (c : ℕ) → IsPlain c → is_nonstarter c ≡ false
plain-starter c plain = ap not (eq-eqb _ 0 plain.starter)

pub plain-short : (run c : ℕ) → IsPlain c → has_short_runs run (c ∷ []) ≡ true
plain-short run c plain = short-starter run c [] (plain-starter c plain) ∙ short-nil 0

pub plain-fault : (run c : ℕ) → IsPlain c → fault_of_code_point run c ≡ None
plain-fault run c plain = fault_of_code_point-none run c (ap (has_short_runs run) plain.itself ∙ plain-short run c plain)

pub plain-sound : (c start : ℕ) → IsScalar c → IsPlain c → IsSoundPoint (ascii_point start c)
plain-sound c start scalar plain = record { scalar = scalar; in_range = scalar_below c scalar; class = sym plain.starter }

pub plain-pushed : (old new cleared out : List Point) (start c : ℕ) → IsPlain c → cleared ≡ [] → IsHeld new → ((rest : List Point) → cleared ++ ordered (old ++ ascii_point start c ∷ rest) ≡ out ++ ordered (new ++ rest)) → (is_closed cleared ≡ true → is_closed out ≡ true) → length new ≡ run_after (length old) (c ∷ []) → PushGives old start c new out
plain-pushed old new cleared out start c plain empty held moved closed run = record {
  moved = λ rest. ap₂ (λ l ps. l ++ ordered (old ++ (ps ++ rest))) (sym empty) (points_of-plain start c plain) ∙ moved rest;
  closed = closed (ap is_closed empty ∙ is_closed-nil);
  held = held;
  run = run ∙ ap (run_after (length old)) (sym plain.itself);
}

-- the points that waited, and then the character itself
pub plain-given : (old new out : List Point) (start c : ℕ) → IsPlain c → IsHeld old → PushGives old start c new out → out ≡ old ++ ascii_point start c ∷ []
plain-given old new out start c plain held p =
    let none : new ≡ [] = nil_from_length new (p.run ∙ ap (run_after (length old)) plain.itself ∙ run_after-starter (length old) c [] (plain-starter c plain) ∙ run_after-nil 0) in
    let point : Point = ascii_point start c in
    sym (append-nil out) ∙ ap (λ l. out ++ l) (sym none) ∙ IsPushed-all old new out start c p ∙ ap (λ ps. ordered (old ++ ps)) (points_of-plain start c plain)
    ∙ take-starter old point [] held.in_order refl ∙ ap (λ l. (old ++ point ∷ []) ++ l) ordered-nil ∙ append-nil (old ++ point ∷ [])

-- ---- ASCII

pub ascii-sound : (c start : ℕ) → IsScalar c → c < 128 → IsSoundPoint (ascii_point start c)
ascii-sound c start scalar h = plain-sound c start scalar (ascii-plain c h)

-- and where none waited, the character itself
pub ascii-given_alone : (w : Waiting) (taken : List ℕ) (given : List Point) (c : ℕ) → HasReordered w taken given → w.held ≡ [] → c < 128 → HasReordered w (taken ++ c ∷ []) (given ++ ascii_point (byte_len taken) c ∷ [])
ascii-given_alone w taken given c h none low =
    let p : Point = ascii_point (byte_len taken) c in
    let run : length w.held ≡ run_after (length w.held) (c ∷ []) = ap length none ∙ sym (run_after-starter (length w.held) c [] (plain-starter c (ascii-plain c low)) ∙ run_after-nil 0) in
    let moved : (rest : List Point) → ordered (w.held ++ p ∷ rest) ≡ (p ∷ []) ++ ordered (w.held ++ rest) =
    λ rest. take-starter w.held p rest h.held.in_order refl ∙ ap (λ (l : List Point). (l ++ p ∷ []) ++ ordered rest) none
    ∙ sym (ap (λ (l : List Point). (p ∷ []) ++ ordered (l ++ rest)) none) in
    IsPushed-carries w w (p ∷ []) (byte_len taken) c
    (plain-pushed w.held w.held [] (p ∷ []) (byte_len taken) c (ascii-plain c low) refl h.held moved (λ _. is_closed-end [] p refl) run)
    (plain-fault (length w.held) c (ascii-plain c low)) taken given h refl

-- ---- the steps of `take_all`

pub short-here : (run : ℕ) (parts : List ℕ) (i d : ℕ) → i < length parts → has_short_runs run (drop i parts) ≡ true → (has_short_runs run (get_or parts i d ∷ []) ≡ true) × (has_short_runs (run_after run (get_or parts i d ∷ [])) (drop (i + 1) parts) ≡ true)
short-here run parts i d lt h =
    and_parts _ _
    (sym (short-append run (get_or parts i d ∷ []) (drop (i + 1) parts)) ∙ sym (ap (has_short_runs run) (drop_more parts i d lt)) ∙ h)

pub run-here : (run : ℕ) (parts : List ℕ) (i d : ℕ) → i < length parts → run_after (run_after run (get_or parts i d ∷ [])) (drop (i + 1) parts) ≡ run_after run (drop i parts)
run-here run parts i d lt =
    sym (ap (run_after run) (drop_more parts i d lt) ∙ run_after-append run (get_or parts i d ∷ []) (drop (i + 1) parts))

pub moved-here : (held out held' out' : List Point) (start : ℕ) (is_first : Bool) (parts : List ℕ) (i d : ℕ) → i < length parts → ((rest : List Point) → out ++ ordered (held ++ record { cp = get_or parts i d; ccc = canonical_combining_class (get_or parts i d); offset = start; first = is_first } ∷ rest) ≡ out' ++ ordered (held' ++ rest)) → (rest : List Point) → out ++ ordered (held ++ (points_at start is_first (drop i parts) ++ rest)) ≡ out' ++ ordered (held' ++ (points_at start false (drop (i + 1) parts) ++ rest))
moved-here held out held' out' start is_first parts i d lt moved rest =
    ap (λ l. out ++ ordered (held ++ (l ++ rest))) (points_at-more start is_first parts i d lt) ∙ moved (points_at start false (drop (i + 1) parts) ++ rest)
