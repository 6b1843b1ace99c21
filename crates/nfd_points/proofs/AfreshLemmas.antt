-- A code point whose points begin with a starter, where none waits: what `push` does with it, whatever came before it.
use Rattle.std.proofs.Common.{◌≡◌, ℕ, ◌+◌, ◌≤◌, true, false, not, List, [], ◌∷◌, ◌++◌, length, flat_map, None, refl, sym, ap, subst, ◌∙◌, arith, zero-add}
use Rattle.std.proofs.lemmas.Bool.{and_parts, false≢true}
use Rattle.std.proofs.lemmas.List.{append_assoc, append-nil}
use Rattle.std.specs.Char.{len_utf8}
use Rattle.std.specs.List.{list_all}
use Rattle.unicode_normalization.specs.Order.{is_nonstarter}
use Rattle.nfd_points.specs.declared.points.Point.{Point}
use Rattle.nfd_points.specs.Points.{decomposition, byte_len, points_at, points_of, points_from, points, is_starter, begins_with_starter, ordered}
use Rattle.nfd_points.specs.PointFaults.{run_after, fault_of_code_point, point_fault}
use Rattle.nfd_points.specs.Reordering.{Waiting, is_non_starter, is_closed, HasReordered}
use Rattle.nfd_points.proofs.AnewLemmas.{few-good, starters-anew}
use Rattle.nfd_points.proofs.DecompositionLemmas.{length-decomposition, decomposition-some}
use Rattle.nfd_points.proofs.OrderingLemmas.{ordered-ordered, ordered-parts}
use Rattle.nfd_points.proofs.PointsLemmas.{points_from-cons, points_from-append, is_in_order-points_of}
use Rattle.nfd_points.proofs.PushLemmas.{PushGives, IsPushed-all}
use Rattle.nfd_points.proofs.ReorderingLemmas.{byte_len-more, run-more}
use Rattle.nfd_points.proofs.RunLemmas.{run_after-starter, fault_of_code_point-none}
use Rattle.nfd_points.proofs.StepLemmas.{short-few}

-- no decomposition is too long where no non-starter came before
pub first-good : (old : List Point) (c : ℕ) → old ≡ [] → fault_of_code_point (length old) c ≡ None
first-good old c none = fault_of_code_point-none (length old) c (short-few (length old) (decomposition c) (omega (arith, ap length none, length-decomposition c)))

-- ---- points that begin with a starter

some-points : (start : ℕ) (ds : List ℕ) → 1 ≤ length ds → 1 ≤ length (points_at start true ds)
unfolding points_at
some-points start [] some = absurd (omega arith)
some-points start (d ∷ ds) some = omega arith

begins-anywhere : (start other : ℕ) (ds : List ℕ) → begins_with_starter (points_at start true ds) ≡ true → begins_with_starter (points_at other true ds) ≡ true
unfolding points_at
begins-anywhere start other [] h = refl
begins-anywhere start other (d ∷ ds) h = h

begins-before : (xs ys : List Point) → 1 ≤ length xs → begins_with_starter xs ≡ true → begins_with_starter (xs ++ ys) ≡ true
begins-before [] ys some h = absurd (omega arith)
begins-before (x ∷ xs) ys some h = h

run-anew : (run start : ℕ) (ds : List ℕ) → 1 ≤ length ds → begins_with_starter (points_at start true ds) ≡ true → run_after run ds ≡ run_after 0 ds
unfolding points_at
run-anew run start [] some h = absurd (omega arith)
run-anew run start (d ∷ ds) some h = let starter : is_nonstarter d ≡ false = ap not h in run_after-starter run d ds starter ∙ sym (run_after-starter 0 d ds starter)

-- ---- what was given

closed-after : (xs ys : List Point) → 1 ≤ length ys → is_closed ys ≡ true → is_closed (xs ++ ys) ≡ true
unfolding is_closed
closed-after [] ys some h = h
closed-after (x ∷ []) [] some h = absurd (omega arith)
closed-after (x ∷ []) (y ∷ ys) some h = h
closed-after (x ∷ z ∷ xs) ys some h = closed-after (z ∷ xs) ys some h

-- not all of them wait, for the first one is a starter
not_all : (new ps : List Point) → new ≡ ps → 1 ≤ length ps → begins_with_starter ps ≡ true → list_all is_non_starter new ≡ true → ⊥
not_all [] ps same some h marks = omega (arith, ap length same)
not_all (q ∷ qs) ps same some h marks =
    let starter : is_starter q ≡ true = ap begins_with_starter same ∙ h in
    let parts = and_parts (is_non_starter q) (list_all is_non_starter qs) marks in
    false≢true (sym (ap not starter) ∙ parts.0)

given-some : (out new ps : List Point) → out ++ new ≡ ps → 1 ≤ length ps → begins_with_starter ps ≡ true → list_all is_non_starter new ≡ true → 1 ≤ length out
given-some [] new ps same some h marks = absurd (not_all new ps same some h marks)
given-some (o ∷ out) new ps same some h marks = omega arith

-- ---- the code point

module _ (new : Waiting) (out : List Point) (c : ℕ) (taken : List ℕ) (here : PushGives [] (byte_len taken) c new.held out) (h : begins_with_starter (points_of (byte_len taken) c) ≡ true) where
  abbrev bytes : ℕ
  bytes = byte_len taken

  some : 1 ≤ length (points_of bytes c)
  some = some-points bytes (decomposition c) (decomposition-some c)

  afresh-continues : (rest : List ℕ) → points ((taken ++ c ∷ []) ++ rest) ≡ (points taken ++ out) ++ ordered (new.held ++ points_from (byte_len (taken ++ c ∷ [])) rest)
  afresh-continues rest =
      let later = points_from (bytes + len_utf8 c) rest in
      ap points (append_assoc taken (c ∷ []) rest)
      ∙ ap ordered (points_from-append 0 taken (c ∷ rest) ∙ ap (λ n. points_from 0 taken ++ points_from n (c ∷ rest)) (zero-add bytes) ∙ ap (λ l. points_from 0 taken ++ l) (points_from-cons bytes c rest))
      ∙ ordered-parts (points_from 0 taken) (points_of bytes c ++ later) (begins-before (points_of bytes c) later some h)
      ∙ ap (λ l. points taken ++ l) (here.moved later)
      ∙ sym (append_assoc (points taken) out (ordered (new.held ++ later)))
      ∙ ap (λ n. (points taken ++ out) ++ ordered (new.held ++ points_from n rest)) (sym (byte_len-more taken c))

  afresh-good : point_fault taken ≡ None → point_fault (taken ++ c ∷ []) ≡ None
  afresh-good good =
      let first = begins-anywhere bytes 0 (decomposition c) h in
      let begins : begins_with_starter (points_from 0 (c ∷ [])) ≡ true =
      ap begins_with_starter (points_from-cons 0 c []) ∙ begins-before (points_of 0 c) (points_from (0 + len_utf8 c) []) (some-points 0 (decomposition c) (decomposition-some c)) first in
      starters-anew taken (c ∷ []) begins good (few-good (c ∷ []) (omega (arith, ap length (append-nil (decomposition c)), length-decomposition c)))

  afresh-reordered : point_fault taken ≡ None → HasReordered new (taken ++ c ∷ []) (points taken ++ out)
  afresh-reordered good =
      let all : out ++ new.held ≡ points_of bytes c = IsPushed-all [] new.held out bytes c here ∙ ordered-ordered (points_of bytes c) (is_in_order-points_of bytes c) in
      record {
        continues = afresh-continues;
        closed = closed-after (points taken) out (given-some out new.held (points_of bytes c) all some h here.held.non_starters) here.closed;
        held = here.held;
        good = afresh-good good;
        run = run-more taken c ∙ run-anew (run_after 0 (flat_map decomposition taken)) bytes (decomposition c) (decomposition-some c) h ∙ sym here.run;
      }

pub afresh : (old new : Waiting) (out : List Point) (start c : ℕ) → PushGives old.held start c new.held out → (taken : List ℕ) → old.held ≡ [] → start ≡ byte_len taken → begins_with_starter (points_of start c) ≡ true → point_fault taken ≡ None → HasReordered new (taken ++ c ∷ []) (points taken ++ out)
afresh old new out start c pushed taken none at h good =
    let here : PushGives [] (byte_len taken) c new.held out = subst (λ n. PushGives [] n c new.held out) at (subst (λ l. PushGives l start c new.held out) none pushed) in
    afresh-reordered new out c taken here (subst (λ n. begins_with_starter (points_of n c) ≡ true) at h) good
