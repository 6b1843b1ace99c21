-- What a reorderer holds and has given, one code point at a time.
use Rattle.std.proofs.Common.{◌≡◌, ◌≢◌, ℕ, ◌+◌, nat_le, eq-eqb, ne_eqb, length-append, true, List, [], ◌∷◌, ◌++◌, length, flat_map, All, Some, None, refl, sym, ap, ap₂, subst, ◌∙◌, arith, eqb-true}
use Rattle.std.proofs.lemmas.Bool.{and_from, and_parts, cond-false, cond-true, not-true, not_from_false}
use Rattle.std.proofs.lemmas.Grind.{flat_map-append}
use Rattle.std.proofs.lemmas.List.{append_assoc, append-nil}
use Rattle.std.proofs.lemmas.List.Folds.{list_all-append}
use Rattle.std.proofs.lemmas.List.Elements.{All-nil, All-same, All-push, All-append}
use Rattle.std.specs.Char.{len_utf8}
use Rattle.std.specs.List.{take_while, insert, list_all}
use Rattle.unicode_normalization.specs.StreamSafe.{has_short_runs}
use Rattle.nfd_points.specs.declared.points.Point.{Point}
use Rattle.nfd_points.specs.Points.{decomposition, byte_len, points_of, points_from, points, is_starter, is_in_order, ordered}
use Rattle.nfd_points.specs.PointFaults.{run_after, fault_of_code_point, fault_from, point_fault}
use Rattle.nfd_points.specs.Reordering.{Waiting, IsSoundPoint, IsHeld, is_non_starter, is_closed, HasReordered, keep_up_to, up_to_last_starter}
use Rattle.nfd_points.proofs.OrderingLemmas.{ordered-prefix, ordered-at_starter, ordered-ordered, is_in_order-nil, is_in_order-ordered, list_all-ordered, length-ordered, All-ordered}
use Rattle.nfd_points.proofs.InsertLemmas.{ordered-insert}
use Rattle.nfd_points.proofs.PointsLemmas.{byte_len-append, byte_len-cons, byte_len-nil, points_from-cons, points_from-nil}
use Rattle.nfd_points.proofs.RunLemmas.{run_after-append, run_after-nil, fault_from-good, fault_from-here, fault_from-later, fault_from-nil}
use Rattle.nfd_points.proofs.StepLemmas.{room-one_mark}

pub IsHeld-nil : IsHeld []
IsHeld-nil = record { non_starters = refl; in_order = is_in_order-nil; few = omega arith; sound = All-nil IsSoundPoint }

pub is_closed-nil : is_closed [] ≡ true
unfolding is_closed
is_closed-nil = refl

pub is_closed-append : (xs ys : List Point) → is_closed xs ≡ true → is_closed ys ≡ true → is_closed (xs ++ ys) ≡ true
unfolding is_closed
is_closed-append [] ys first rest = rest
is_closed-append (x ∷ []) [] first rest = first
is_closed-append (x ∷ []) (y ∷ ys) first rest = rest
is_closed-append (x ∷ z ∷ xs) ys first rest = is_closed-append (z ∷ xs) ys first rest

pub is_closed-end : (xs : List Point) (s : Point) → is_starter s ≡ true → is_closed (xs ++ s ∷ []) ≡ true
unfolding is_closed
is_closed-end [] s h = h
is_closed-end (x ∷ []) s h = h
is_closed-end (x ∷ y ∷ xs) s h = is_closed-end (y ∷ xs) s h

-- ---- one point

-- a starter sends out those that wait
pub take-starter : (held : List Point) (p : Point) (rest : List Point) → is_in_order held ≡ true → is_starter p ≡ true → ordered (held ++ p ∷ rest) ≡ (held ++ p ∷ []) ++ ordered rest
take-starter held p rest sorted starter =
    let zero = eqb-true p.ccc 0 starter in
    ordered-at_starter held p rest (omega arith) ∙ ap (λ l. l ++ p ∷ ordered rest) (ordered-ordered held sorted)
    ∙ sym (append_assoc held (p ∷ []) (ordered rest))

-- a non-starter is put among them
pub take-mark : (held : List Point) (p : Point) (rest : List Point) → ordered (held ++ p ∷ rest) ≡ ordered (ordered (held ++ p ∷ []) ++ rest)
take-mark held p rest = ap ordered (sym (append_assoc held (p ∷ []) rest)) ∙ sym (ordered-prefix (held ++ p ∷ []) rest)

-- ---- a text

pub HasReordered-nil : (w : Waiting) → w.held ≡ [] → HasReordered w [] []
HasReordered-nil w none = record {
  continues = λ rest. ap₂ (λ n l. ordered (l ++ points_from n rest)) (sym byte_len-nil) (sym none);
  closed = is_closed-nil;
  held = subst IsHeld (sym none) IsHeld-nil;
  good = fault_from-nil 0 0;
  run = run_after-nil 0 ∙ sym (ap length none);
}

pub byte_len-more : (taken : List ℕ) (c : ℕ) → byte_len (taken ++ c ∷ []) ≡ byte_len taken + len_utf8 c
byte_len-more taken c = omega (arith, byte_len-append taken (c ∷ []), byte_len-cons c [], byte_len-nil)

flat_map-more : (taken : List ℕ) (c : ℕ) → flat_map decomposition (taken ++ c ∷ []) ≡ flat_map decomposition taken ++ decomposition c
flat_map-more taken c =
    flat_map-append decomposition taken (c ∷ []) ∙ ap (λ l. flat_map decomposition taken ++ l) (append-nil (decomposition c))

pub run-more : (taken : List ℕ) (c : ℕ) → run_after 0 (flat_map decomposition (taken ++ c ∷ [])) ≡ run_after (run_after 0 (flat_map decomposition taken)) (decomposition c)
run-more taken c = ap (run_after 0) (flat_map-more taken c) ∙ run_after-append 0 (flat_map decomposition taken) (decomposition c)

-- the first fault after what was taken
pub fault-next : (w : Waiting) (taken : List ℕ) (given : List Point) (cs : List ℕ) → HasReordered w taken given → point_fault (taken ++ cs) ≡ fault_from (byte_len taken) (length w.held) cs
fault-next w taken given cs h =
    fault_from-good 0 0 taken cs h.good ∙ ap₂ (λ m n. fault_from m n cs) (omega arith) h.run

-- a code point that is at fault
pub stops : (w : Waiting) (taken : List ℕ) (given : List Point) (c kind : ℕ) (rest : List ℕ) → HasReordered w taken given → fault_of_code_point (length w.held) c ≡ Some kind → point_fault (taken ++ c ∷ rest) ≡ Some (byte_len taken, kind)
stops w taken given c kind rest h at = fault-next w taken given (c ∷ rest) h ∙ fault_from-here (byte_len taken) (length w.held) c kind rest at

-- a code point that went in, and the points that came out
pub carries : (old new : Waiting) (taken : List ℕ) (given : List Point) (c : ℕ) (out : List Point) → HasReordered old taken given → fault_of_code_point (length old.held) c ≡ None → IsHeld new.held → is_closed out ≡ true → length new.held ≡ run_after (length old.held) (decomposition c) → ((rest : List Point) → ordered (old.held ++ (points_of (byte_len taken) c ++ rest)) ≡ out ++ ordered (new.held ++ rest)) → HasReordered new (taken ++ c ∷ []) (given ++ out)
carries old new taken given c out h none held closed run moved = record {
  continues =
      λ rest.
      let later = points_from (byte_len taken + len_utf8 c) rest in
      ap points (append_assoc taken (c ∷ []) rest) ∙ h.continues (c ∷ rest)
      ∙ ap (λ l. given ++ ordered (old.held ++ l)) (points_from-cons (byte_len taken) c rest)
      ∙ ap (λ l. given ++ l) (moved later)
      ∙ sym (append_assoc given out (ordered (new.held ++ later)))
      ∙ ap (λ n. given ++ out ++ ordered (new.held ++ points_from n rest)) (sym (byte_len-more taken c));
  closed = is_closed-append given out h.closed closed;
  held = held;
  good =
      fault-next old taken given (c ∷ []) h ∙ fault_from-later (byte_len taken) (length old.held) c [] none
      ∙ fault_from-nil (byte_len taken + len_utf8 c) (run_after (length old.held) (decomposition c));
  run = run-more taken c ∙ ap (λ n. run_after n (decomposition c)) h.run ∙ sym run;
}

-- ---- the steps of `take`

pub starter-moved : (out held mid final none : List Point) (p : Point) → is_in_order held ≡ true → p.ccc ≡ 0 → mid ≡ out ++ held → final ≡ mid ++ p ∷ [] → none ≡ [] → (rest : List Point) → out ++ ordered (held ++ p ∷ rest) ≡ final ++ ordered (none ++ rest)
starter-moved out held mid final none p sorted zero given pushed empty rest =
    ap (λ l. out ++ l) (take-starter held p rest sorted (eq-eqb p.ccc 0 zero))
    ∙ sym (append_assoc out (held ++ p ∷ []) (ordered rest))
    ∙ ap (λ l. l ++ ordered rest) (sym (append_assoc out held (p ∷ [])) ∙ ap (λ l. l ++ p ∷ []) (sym given) ∙ sym pushed)
    ∙ ap (λ l. final ++ ordered (l ++ rest)) (sym empty)

pub starter-closed : (mid final : List Point) (p : Point) → p.ccc ≡ 0 → final ≡ mid ++ p ∷ [] → is_closed final ≡ true
starter-closed mid final p zero pushed = ap is_closed pushed ∙ is_closed-end mid p (eq-eqb p.ccc 0 zero)

pub starter-sound : (out held mid final : List Point) (p : Point) → IsHeld held → IsSoundPoint p → mid ≡ out ++ held → final ≡ mid ++ p ∷ [] → All IsSoundPoint out → All IsSoundPoint final
starter-sound out held mid final p h sound given pushed before =
    All-same IsSoundPoint _ _ pushed (All-push IsSoundPoint mid p (All-same IsSoundPoint _ _ given (All-append IsSoundPoint out held before h.sound)) sound)

pub mark-inserted : (held : List Point) (p : Point) (at : ℕ) → IsHeld held → at ≡ length (take_while (λ q. nat_le q.ccc p.ccc) held) → p.ccc ≢ 0 → insert held at p ≡ ordered (held ++ p ∷ [])
mark-inserted held p at h here ne = ordered-insert held p at here h.non_starters h.in_order (omega (arith, ne))

pub IsHeld-insert : (held : List Point) (p : Point) (at : ℕ) → IsHeld held → IsSoundPoint p → at ≡ length (take_while (λ q. nat_le q.ccc p.ccc) held) → p.ccc ≢ 0 → has_short_runs (length held) (p.cp ∷ []) ≡ true → IsHeld (insert held at p)
IsHeld-insert held p at h sound here ne short =
    subst IsHeld (sym (mark-inserted held p at h here ne))
    (record {
      non_starters =
          list_all-ordered is_non_starter _
          (list_all-append is_non_starter held (p ∷ []) ∙ and_from _ _ h.non_starters (and_from _ _ (not_from_false _ (ne_eqb p.ccc 0 ne)) refl));
      in_order = is_in_order-ordered (held ++ p ∷ []);
      few = omega (arith, length-ordered (held ++ p ∷ []), length-append held (p ∷ []), room-one_mark (length held) p sound ne short);
      sound = All-ordered IsSoundPoint _ (All-push IsSoundPoint held p h.sound sound);
    })

pub mark-moved : (out held held' : List Point) (p : Point) (at : ℕ) → IsHeld held → at ≡ length (take_while (λ q. nat_le q.ccc p.ccc) held) → p.ccc ≢ 0 → held' ≡ insert held at p → (rest : List Point) → out ++ ordered (held ++ p ∷ rest) ≡ out ++ ordered (held' ++ rest)
mark-moved out held held' p at h here ne inserted rest =
    ap (λ l. out ++ l)
    (take-mark held p rest ∙ ap (λ l. ordered (l ++ rest)) (sym (mark-inserted held p at h here ne) ∙ sym inserted))

-- ---- what was given

pub given-all : (w : Waiting) (taken : List ℕ) (given : List Point) → HasReordered w taken given → points taken ≡ given ++ w.held
given-all w taken given h =
    ap points (sym (append-nil taken)) ∙ h.continues []
    ∙ ap (λ l. given ++ ordered (w.held ++ l)) (points_from-nil (byte_len taken))
    ∙ ap (λ l. given ++ l) (ap ordered (append-nil w.held) ∙ ordered-ordered w.held h.held.in_order)

no_starter : (ps : List Point) → list_all is_non_starter ps ≡ true → up_to_last_starter ps ≡ []
unfolding up_to_last_starter
no_starter [] h = refl
no_starter (p ∷ ps) h =
    let parts = and_parts (is_non_starter p) (list_all is_non_starter ps) h in
    ap (keep_up_to p) (no_starter ps parts.1) ∙ cond-false _ _ _ (not-true _ parts.0)

up_to-given : (given held : List Point) → is_closed given ≡ true → list_all is_non_starter held ≡ true → up_to_last_starter (given ++ held) ≡ given
unfolding up_to_last_starter is_closed
up_to-given [] held closed h = no_starter held h
up_to-given (p ∷ []) held closed h = ap (keep_up_to p) (no_starter held h) ∙ cond-true _ _ _ closed
up_to-given (p ∷ q ∷ qs) held closed h = ap (keep_up_to p) (up_to-given (q ∷ qs) held closed h)

pub given-final : (w : Waiting) (taken : List ℕ) (given : List Point) → HasReordered w taken given → given ≡ up_to_last_starter (points taken)
given-final w taken given h = sym (ap up_to_last_starter (given-all w taken given h) ∙ up_to-given given w.held h.closed h.held.non_starters)
