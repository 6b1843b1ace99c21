-- How far bytes are ASCII, from the mask of one block and from block to block.
use Rattle.std.proofs.Common.{◌≡◌, ℕ, ◌+◌, ◌%◌, ◌^◌, ◌<◌, ◌≤◌, Bool, not, cond, eqb, leb, List, [], ◌∷◌, map, length, take, drop, get_or, replicate, w8, refl, sym, ap, ◌∙◌, inl, inr, arith, ltb-true}
use Rattle.std.proofs.lemmas.Bool.{cases_lt, eq-eqb, ne_eqb}
use Rattle.std.proofs.lemmas.List.{length-map, length-take-le, get_or-take, get_or_past}
use Rattle.std.proofs.lemmas.List.Folds.{prefix_len-append}
use Rattle.std.proofs.lemmas.List.Sums.{prefix_len-le-length, prefix_len_passes}
use Rattle.std.proofs.lemmas.Simd.{tops_compared, mask_l-mod, leading_from_mask_l, trailing_mask_l, chunk-drop, length-chunk}
use Rattle.std.specs.List.{prefix_len}
use Rattle.std.specs.Char.{is_ascii}
use Rattle.std.specs.Str.{IsAscii}
use Rattle.utf8_cut.specs.Characters.{ascii_prefix_len}
use lib.Count.{count_trailing_zeros}
use lib.Lanes.{zip2, mask_l, top}

-- ---- one block

splat_left : (h : ℕ → ℕ → Bool) (y : ℕ) (xs : List ℕ) → zip2 h (replicate (length xs) y) xs ≡ map (h y) xs
splat_left h y [] = refl
splat_left h y (x ∷ xs) = ap (λ r. h y x ∷ r) (splat_left h y xs)

-- what the comparison of a block with 80 hex leaves
abbrev pub block_mask : List ℕ → ℕ
block_mask block = mask_l (map (top 7) (zip2 (λ a b. cond (leb a b) 255 0) (replicate 32 128) block)) % 2 ^ 64

mask_is : (block : List ℕ) → length block ≡ 32 → block_mask block ≡ mask_l (map (leb 128) block)
mask_is block long =
    ap (λ ms. mask_l ms % 2 ^ 64) (tops_compared w8 leb (replicate 32 128) block ∙ ap (λ n. zip2 leb (replicate n 128) block) (sym long) ∙ splat_left leb 128 block)
    ∙ mask_l-mod (map (leb 128) block) 64 (omega (arith, length-map block (leb 128)))

low : (x : ℕ) → not (leb 128 x) ≡ is_ascii x
low x = grind arith

low_run : (xs : List ℕ) → prefix_len (λ x. not (leb 128 x)) xs ≡ ascii_prefix_len xs
low_run xs = λ i. prefix_len (λ x. low x i) xs

pub block_whole : (block : List ℕ) → length block ≡ 32 → block_mask block ≡ 0 → 32 ≡ ascii_prefix_len block
block_whole block long none = sym (sym (low_run block) ∙ leading_from_mask_l (leb 128) block (sym (mask_is block long) ∙ none) ∙ long)

pub block_stops : (block : List ℕ) → length block ≡ 32 → 0 < block_mask block → count_trailing_zeros 64 (block_mask block) ≡ ascii_prefix_len block
block_stops block long some =
    ap (count_trailing_zeros 64) (mask_is block long)
    ∙ trailing_mask_l (leb 128) 64 block (omega arith) (omega (arith, mask_is block long)) ∙ low_run block

-- ---- from block to block

split : (bytes : List ℕ) (at n : ℕ) → ascii_prefix_len (drop at bytes) ≡ cond (eqb (ascii_prefix_len (take n (drop at bytes))) (length (take n (drop at bytes)))) (length (take n (drop at bytes)) + ascii_prefix_len (drop (at + n) bytes)) (ascii_prefix_len (take n (drop at bytes)))
split bytes at n = ap ascii_prefix_len (chunk-drop at n bytes) ∙ prefix_len-append is_ascii (take n (drop at bytes)) (drop (at + n) bytes)

pub goes_on : (bytes : List ℕ) (at n : ℕ) → at + n ≤ length bytes → n ≡ ascii_prefix_len (take n (drop at bytes)) → ascii_prefix_len (drop at bytes) ≡ n + ascii_prefix_len (drop (at + n) bytes)
goes_on bytes at n room all =
    let long = length-chunk at n bytes room in
    split bytes at n ∙ rw (eq-eqb (ascii_prefix_len (take n (drop at bytes))) (length (take n (drop at bytes))) (sym all ∙ sym long)) (ap (λ k. k + ascii_prefix_len (drop (at + n) bytes)) long)

pub stops : (bytes : List ℕ) (at n run : ℕ) → at + n ≤ length bytes → run < n → run ≡ ascii_prefix_len (take n (drop at bytes)) → ascii_prefix_len (drop at bytes) ≡ run
stops bytes at n run room short here =
    let long = length-chunk at n bytes room in
    split bytes at n ∙ rw (ne_eqb (ascii_prefix_len (take n (drop at bytes))) (length (take n (drop at bytes))) (λ e. omega (arith, e, here, long))) (sym here)

-- ---- the prefix

pub prefix_within : (bytes : List ℕ) → ascii_prefix_len bytes ≤ length bytes
prefix_within bytes = prefix_len-le-length is_ascii bytes

pub prefix_is_ascii : (bytes : List ℕ) → IsAscii (take (ascii_prefix_len bytes) bytes)
prefix_is_ascii bytes i = elim (cases_lt i (ascii_prefix_len bytes)) [
  | inl l ↦ omega (arith, ltb-true (get_or bytes i 0) 128 (prefix_len_passes is_ascii bytes i 0 l), get_or-take (ascii_prefix_len bytes) bytes i 0 l)
  | inr g ↦ omega (arith, get_or_past (take (ascii_prefix_len bytes) bytes) i 0 (omega (arith, length-take-le (ascii_prefix_len bytes) bytes (prefix_within bytes))))
]
