-- What a code point's decomposition says of its class in a mapped string.
use Rattle.std.proofs.Common.{◌≡◌, ℕ, ◌≤◌, Bool, true, false, ◌&&◌, List, [], ◌∷◌, ◌++◌, length, sym, ap, ◌∙◌, arith, nat_eq, bytes_eq, inl, inr, append-nil, cond}
use Rattle.std.proofs.lemmas.Bool.Decides.{nat_tests}
use Rattle.std.proofs.Math.Bool.{and-false}
use Rattle.std.specs.Char.{InScalarRange}
use Rattle.unicode_normalization.specs.Decompose.{decompose}
use Rattle.unicode_normalization.specs.Forms.{nfd, decomposed, Nfd}
use Rattle.unicode_normalization.specs.Lookups.{canonical_combining_class}
use Rattle.unicode_normalization.specs.Order.{canonical_order}
use Rattle.unicode_normalization.proofs.FormsLemmas.{normalize-Nfd}
use Rattle.unicode_normalization.proofs.OrderLemmas.{canonical_order-nil, canonical_order-ordered, is_ordered-one, length-canonical_order}
use Rattle.collation_table.specs.Table.{class_of, is_scalar_value}

longer : (xs : List ℕ) (c : ℕ) → 2 ≤ length xs → bytes_eq xs (c ∷ []) ≡ false
longer [] c le = absurd (omega arith)
longer (x ∷ []) c le = absurd (omega arith)
longer (x ∷ y ∷ ys) c le = and-false (nat_eq x c)

ordered_single : (xs : List ℕ) (c : ℕ) → bytes_eq (canonical_order xs) (c ∷ []) ≡ bytes_eq xs (c ∷ [])
ordered_single [] c = ap (λ l. bytes_eq l (c ∷ [])) canonical_order-nil
ordered_single (x ∷ []) c = ap (λ l. bytes_eq l (c ∷ [])) (canonical_order-ordered (x ∷ []) (is_ordered-one x))
ordered_single (x ∷ y ∷ ys) c =
    let same = length-canonical_order (x ∷ y ∷ ys) in
    longer (canonical_order (x ∷ y ∷ ys)) c (omega (arith, same)) ∙ sym (longer (x ∷ y ∷ ys) c (omega arith))

-- whether a code point is its own NFD is whether it is its own decomposition
nfd_single : (c : ℕ) → bytes_eq (nfd (c ∷ [])) (c ∷ []) ≡ bytes_eq (decompose Nfd c) (c ∷ [])
unfolding decomposed
nfd_single c =
    ap (λ l. bytes_eq l (c ∷ [])) (normalize-Nfd (c ∷ []))
    ∙ ordered_single (decompose Nfd c ++ []) c ∙ ap (λ l. bytes_eq l (c ∷ [])) (append-nil (decompose Nfd c))

scalar_value : (c : ℕ) → InScalarRange c → is_scalar_value c ≡ true
scalar_value c (inl low) = grind (arith, nat_tests)
scalar_value c (inr high) = grind (arith, nat_tests)

pub class_of-by_decomposition : (c : ℕ) → InScalarRange c → class_of c ≡ cond (bytes_eq (decompose Nfd c) (c ∷ [])) (canonical_combining_class c) 0
class_of-by_decomposition c scalar =
    ap (λ b. cond (b && bytes_eq (nfd (c ∷ [])) (c ∷ [])) (canonical_combining_class c) 0) (scalar_value c scalar)
    ∙ ap (λ b. cond b (canonical_combining_class c) 0) (nfd_single c)

-- what comparing the decomposition of a character with the character alone says of its code point
pub its_own : (r : Bool) (cs ds : List ℕ) (c cp : ℕ) → r ≡ bytes_eq cs ds → cs ≡ decompose Nfd c → ds ≡ c ∷ [] → c ≡ cp → r ≡ bytes_eq (decompose Nfd cp) (cp ∷ [])
its_own r cs ds c cp is left right same = is ∙ (λ i. bytes_eq (left i) (right i)) ∙ ap (λ x. bytes_eq (decompose Nfd x) (x ∷ [])) same
