-- The points of a queue, as they come and go, and the code points of the first of them.
use Rattle.std.proofs.Common.{◌≡◌, ℕ, suc, ◌+◌, ◌-◌, ◌<◌, ◌≤◌, min, List, [], ◌∷◌, ◌++◌, Some, All, slice_get, length, take, drop, get_or, remove, sym, ◌∙◌, ap, arith, length-append, length-take}
use Rattle.std.specs.List.{refill}
use Rattle.std.proofs.lemmas.List.{drop-drop, length-map, take_more, take_min, take-take, drop_at, get_or-map}
use Rattle.std.proofs.lemmas.List.Elements.{All-same, All-push, All-append, All-take, All-drop}
use Rattle.std.proofs.lemmas.Option.{slice_get_within, get_or_from_slice_get}
use Rattle.circular_buffer.specs.Buffer.{Buffer, buffer, keep_last}
use Rattle.nfd_points.specs.declared.points.Point.{Point}
use Rattle.collation_elements.specs.Units.{code_points}

-- the next code point lengthens a prefix
pub prefix_more : (ps : List Point) (n : ℕ) (p : Point) (prefix longer : List ℕ) → prefix ≡ take n (code_points ps) → slice_get ps n ≡ Some p → longer ≡ prefix ++ p.cp ∷ [] → longer ≡ take (n + 1) (code_points ps)
prefix_more ps n p prefix longer is at more =
    let within : n < length ps = slice_get_within ps n p at in
    let point : get_or ps n p ≡ p = get_or_from_slice_get ps n p p at in
    let code : get_or (code_points ps) n 0 ≡ p.cp = get_or-map (λ (q : Point). q.cp) ps n p 0 within ∙ ap (λ (q : Point). q.cp) point in
    more
    ∙ ap (λ xs. xs ++ p.cp ∷ []) is
    ∙ ap (λ (c : ℕ). take n (code_points ps) ++ c ∷ []) (sym code)
    ∙ sym (take_more (code_points ps) n 0 (omega (arith, length-map ps (λ q. q.cp))))

pub prefix_all : (ps : List Point) (count end i : ℕ) (prefix : List ℕ) → prefix ≡ take i (code_points ps) → end ≡ min count (length ps) → end ≤ i → i ≤ end → prefix ≡ take count (code_points ps)
prefix_all ps count end i prefix is end_is past within =
    let last : i ≡ min count (length (code_points ps)) = omega (arith, length-map ps (λ p. p.cp)) in
    is ∙ ap (λ k. take k (code_points ps)) last ∙ take_min count (code_points ps)

pub prefix_len : (ps : List Point) (i : ℕ) (prefix : List ℕ) → prefix ≡ take i (code_points ps) → length prefix ≤ i
prefix_len ps i prefix is =
    let len : length prefix ≡ length (take i (code_points ps)) = ap length is in omega (arith, length-take i (code_points ps))

-- ---- the points have code points

abbrev pub IsQueue : Buffer Point → Type 0
IsQueue b = All (λ p. p.cp < 0x110000) b.items

kept : (b : Buffer Point) (p : Point) → length b.items < b.capacity → keep_last b.capacity (b.items ++ p ∷ []) ≡ b.items ++ p ∷ []
kept b p room = let none : length (b.items ++ p ∷ []) - b.capacity ≡ 0 = omega (arith, length-append b.items (p ∷ [])) in ap (λ n. drop n (b.items ++ p ∷ [])) none

pub IsQueue-push : (b new : Buffer Point) (p : Point) → IsQueue b → length b.items < b.capacity → p.cp < 0x110000 → new ≡ buffer (keep_last b.capacity (b.items ++ p ∷ [])) b.capacity → IsQueue new
IsQueue-push b new p is room code pushed =
    let there : new.items ≡ b.items ++ p ∷ [] = ap (λ (q : Buffer Point). q.items) pushed ∙ kept b p room in
    All-same (λ q. q.cp < 0x110000) new.items (b.items ++ p ∷ []) there (All-push (λ q. q.cp < 0x110000) b.items p is code)

pub IsQueue-removed : (b new : Buffer Point) (i : ℕ) → IsQueue b → new ≡ buffer (remove b.items i) b.capacity → IsQueue new
IsQueue-removed b new i codes_in after =
    let there : new.items ≡ remove b.items i = ap (λ (q : Buffer Point). q.items) after in
    All-same (λ p. p.cp < 0x110000) new.items (remove b.items i) there (All-append (λ p. p.cp < 0x110000) (take i b.items) (drop (suc i) b.items) (All-take (λ p. p.cp < 0x110000) i b.items codes_in) (All-drop (λ p. p.cp < 0x110000) (suc i) b.items codes_in))

-- ---- a point taken out

moved-at : (xs : List Point) (d : Point) (i : ℕ) (r : List Point) → i < length xs → r ≡ drop i (take (i + 1) xs) ++ take i (take (i + 1) xs) → drop 1 (r ++ drop (i + 1) xs) ≡ remove xs i
moved-at xs d i r h is =
    let len : length (take i xs) ≡ i = omega (arith, length-take i xs) in
    let more : take (i + 1) xs ≡ take i xs ++ get_or xs i d ∷ [] = take_more xs i d h in
    let last : drop i (take (i + 1) xs) ≡ get_or xs i d ∷ [] = ap (drop i) more ∙ drop_at (take i xs) (get_or xs i d ∷ []) i len in
    let others : take i (take (i + 1) xs) ≡ take i xs = take-take i (i + 1) xs (omega arith) in
    let after : i + 1 ≡ suc i = omega arith in
    ap (λ ys. drop 1 (ys ++ drop (i + 1) xs)) is
    ∙ ap (λ ys. drop 1 ((ys ++ take i (take (i + 1) xs)) ++ drop (i + 1) xs)) last
    ∙ ap (λ ys. ys ++ drop (i + 1) xs) others
    ∙ ap (λ k. take i xs ++ drop k xs) after

pub moved : (xs : List Point) (i : ℕ) (r : List Point) → i < length xs → r ≡ drop (length (take (i + 1) xs) - 1) (take (i + 1) xs) ++ take (length (take (i + 1) xs) - 1) (take (i + 1) xs) → drop 1 (r ++ drop (i + 1) xs) ≡ remove xs i
moved [] i r h is = absurd (omega arith)
moved (x ∷ xs) i r h is =
    let len : length (take (i + 1) (x ∷ xs)) - 1 ≡ i = omega (arith, length-take (i + 1) (x ∷ xs)) in
    moved-at (x ∷ xs) x i r h (is ∙ ap (λ k. drop k (take (i + 1) (x ∷ xs)) ++ take k (take (i + 1) (x ∷ xs))) len)

-- a buffer where the point at i was moved before the others and then taken; `now` are the points as one slice, and `ms` those moved
pub removed : (b new : Buffer Point) (i : ℕ) (now ms : List Point) → now ≡ b.items → drop 1 ms ≡ remove now i → length ms ≡ length now → ((ws : List Point) → length ws ≡ length b.items → refill (length b.items) b.items ws ≡ ws) → new ≡ buffer (drop 1 (refill (length b.items) b.items ms)) b.capacity → new ≡ buffer (remove b.items i) b.capacity
removed b new i now ms is moves len same after =
    after ∙ ap (λ ps. buffer ps b.capacity) (ap (drop 1) (same ms (len ∙ ap length is)) ∙ moves ∙ ap (λ ps. remove ps i) is)

-- a buffer after one more of its first points was taken
pub skipped : (b new : Buffer Point) (n : ℕ) (all : List Point) (capacity : ℕ) → b ≡ buffer (drop n all) capacity → new ≡ buffer (drop 1 b.items) b.capacity → new ≡ buffer (drop (n + 1) all) capacity
skipped b new n all capacity is after =
    after ∙ ap (λ (q : Buffer Point). buffer (drop 1 q.items) q.capacity) is ∙ ap (λ ps. buffer ps capacity) (drop-drop 1 n all)
