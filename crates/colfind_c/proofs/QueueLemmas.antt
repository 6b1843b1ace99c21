-- Ranges that were taken from the front of a queue, and those that are left.
use Rattle.std.proofs.Common.{◌≡◌, ℕ, ◌+◌, ◌≤◌, List, [], ◌∷◌, ◌++◌, length, min, take, drop, refl, sym, ap, subst, ◌∙◌, arith, append_assoc, append-nil, length-append}
use Rattle.std.proofs.Math.Nat.{min-eq_right}
use Rattle.std.proofs.lemmas.List.{take-append-drop, drop-drop, length-map, length-take-le, map-append, take-append-le, take_all}
use Rattle.std.proofs.Math.ListN.{drop_of_length-le}
use Rattle.colfind_c.specs.declared.queue.Range.{Range}
use Rattle.colfind_c.specs.declared.queue.Queue.{Queue}
use Rattle.colfind_c.specs.Queues.{pairs, Waits, HasRoomFor, Gets}

pub taken_and_left : (items out written : List Range) (at n : ℕ) → length written ≡ n → written ≡ take n (drop at items)
    → pairs (drop at items) ≡ pairs (take n (written ++ drop n out)) ++ pairs (drop (at + n) items)
taken_and_left items out written at n len is =
    let whole : take n (written ++ drop n out) ≡ written = take-append-le n written (drop n out) (omega (arith, len)) ∙ take_all n written (omega (arith, len)) in
    ap pairs (sym (take-append-drop n (drop at items))) ∙ map-append (λ r. (r.start, r.end)) (take n (drop at items)) (drop n (drop at items))
    ∙ ap (λ xs. pairs xs ++ pairs (drop n (drop at items))) (sym is ∙ sym whole)
    ∙ ap (λ xs. pairs (take n (written ++ drop n out)) ++ pairs xs) (drop-drop n at items)

-- the same, where all were taken
pub taken_and_none : (items out written rest : List Range) (at n : ℕ) → length written ≡ n → written ≡ take n (drop at items) → at + n ≡ length items → rest ≡ []
    → pairs (drop at items) ≡ pairs (take n (written ++ drop n out)) ++ pairs rest
taken_and_none items out written rest at n len is all none = taken_and_left items out written at n len is
    ∙ ap (λ xs. pairs (take n (written ++ drop n out)) ++ pairs xs) (drop_of_length-le items (omega (arith, all)) ∙ sym none)

nil_of : {A : Type 0} (xs : List A) → length xs ≡ 0 → xs ≡ []
nil_of [] e = refl
nil_of (x ∷ xs) e = absurd (omega (arith, e))

-- where all have room, all were taken
pub all_taken : (xs ys : List (ℕ × ℕ)) (out : List Range) (n room k : ℕ) → n ≡ length xs → n ≤ room → k ≡ min room (length xs) → room ≤ length out
    → xs ≡ pairs (take k out) ++ ys → pairs (take n out) ≡ xs
all_taken xs ys out n room k size le most fits is =
    let same : k ≡ n = most ∙ min-eq_right (subst (λ z. z ≤ room) size le) ∙ sym size in
    let len : length (pairs (take k out)) ≡ k = length-map (take k out) (λ r. (r.start, r.end)) ∙ length-take-le k out (omega (arith, same, le, fits)) in
    let sum : length xs ≡ length (pairs (take k out)) + length ys = ap length is ∙ length-append (pairs (take k out)) ys in
    let none : ys ≡ [] = nil_of ys (omega (arith, sum, len, same, size)) in
    ap (λ j. pairs (take j out)) (sym same) ∙ sym (append-nil (pairs (take k out))) ∙ ap (λ zs. pairs (take k out) ++ zs) (sym none) ∙ sym is

-- ---- ranges that are put at the end

pub gets_none : (q : Queue) → Gets q [] q
gets_none q = record {
  waits = λ before w. subst (Waits q) (sym (append-nil before)) w;
  room = λ count r. let all : 0 + count ≡ count = omega arith in subst (HasRoomFor q) all r;
}

pub gets_more : (a b c : Queue) (xs ys : List (ℕ × ℕ)) → Gets a xs b → Gets b ys c → Gets a (xs ++ ys) c
gets_more a b c xs ys first more = record {
  waits = λ before w. subst (Waits c) (append_assoc before xs ys) (more.waits (before ++ xs) (first.waits before w));
  room = λ count r.
      let all : length (xs ++ ys) + count ≡ length xs + (length ys + count) = omega (arith, length-append xs ys) in
      more.room count (first.room (length ys + count) (subst (HasRoomFor a) all r));
}
