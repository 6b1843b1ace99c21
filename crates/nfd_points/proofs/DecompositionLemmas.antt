-- Each canonical decomposition has at most four code points and stands in canonical order, by a computation over the tables.
use Rattle.std.proofs.Common.{◌≡◌, ℕ, ◌+◌, ◌-◌, ◌/◌, ◌%◌, ◌<◌, ◌≤◌, Bool, true, false, not, ◌&&◌, ◌==◌, nat_lt, nat_le, List, [], ◌∷◌, length, refl, sym, ap, subst, ◌∙◌, arith, inl, inr, leb-true, eqb-true, lt-ltb, cond, All}
use Rattle.std.proofs.lemmas.Bool.{cond-true, cases_Bool, cases_eq, and_parts, and_from, not_from_false, false_from_ne_true}
use Rattle.std.proofs.lemmas.List.{append-nil}
use Rattle.std.proofs.lemmas.List.Elements.{All-cons, All-nil}
use Rattle.ucd_table.proofs.Facts.{tree_value, tree_of, tree_value-tree_of}
use Rattle.ucd_table.proofs.Stepped.{Stepped}
use Rattle.ucd_table.proofs.RangedFacts.{points_ok, values_ok, Stepped-at_points}
use Rattle.ucd_table.proofs.Computing.{tables}
use Rattle.ucd_normal.specs.declared.forms.Form.TheVariants.{Nfd}
use Rattle.ucd_normal.specs.CanonicalCombiningClass.{canonical_combining_class as ccc}
use Rattle.ucd_normal.specs.Decomposition.{decomposition as entry_of, expand}
use Rattle.ucd_normal.proofs.CanonicalCombiningClassLemmas.{canonical_combining_class_stepped}
use Rattle.ucd_normal.proofs.CompositionLemmas.{is_empty}
use Rattle.ucd_normal.proofs.DecompositionLemmas.{decomposition_stepped}
use Rattle.unicode_normalization.specs.Decompose.{decompose}
use Rattle.unicode_normalization.specs.Forms.{decomposed, normalize}
use Rattle.unicode_normalization.specs.Hangul.{is_syllable, decompose_hangul}
use Rattle.unicode_normalization.specs.Order.{is_ordered, is_reorderable, canonical_order}
use Rattle.unicode_normalization.proofs.DecomposeLemmas.{decompose-syllable, decompose-final, decompose-mapped, IsFull-decompose}
use Rattle.unicode_normalization.proofs.FormsLemmas.{normalize-ascii, normalize-passes, class-latin}
use Rattle.unicode_normalization.proofs.HangulLemmas.{is_syllable-true, decompose_hangul-two, decompose_hangul-three}
use Rattle.unicode_normalization.proofs.OrderLemmas.{canonical_order-ordered, is_ordered-starter, is_ordered-one}
use Rattle.unicode_normalization.proofs.TableFacts.{Entry, Tables, by_rows, pick, full, class_of_jamo, is_yes}
use Rattle.std.specs.Char.{IsScalar}
use Rattle.std.specs.List.{list_all}
use Rattle.ucd_normal.specs.declared.forms.QuickCheck.TheVariants.{Yes}
use Rattle.ucd_normal.specs.QuickCheck.{quick_check}
use Rattle.nfd_points.specs.Points.{IsPlain, decomposition}

-- ---- the tables, read by trees

abbrev by_tree : {V : Type 0} (f : ℕ → V) → Stepped f → ℕ → V
by_tree f s = tree_value s.default (tree_of f s)

by_trees : Tables
unfolding tables points_ok values_ok expand canonical_combining_class_stepped decomposition_stepped
by_trees = record by_rows { class = by_tree ccc canonical_combining_class_stepped; entry = by_tree entry_of decomposition_stepped }

same_tables : by_rows ≡ by_trees
unfolding by_trees
same_tables =
    λ i. record by_rows {
      class = tree_value-tree_of ccc canonical_combining_class_stepped i;
      entry = tree_value-tree_of entry_of decomposition_stepped i;
    }

-- no two neighbors are out of order by their classes
rises_by : (ℕ → ℕ) → List ℕ → Bool
rises_by class [] = true
rises_by class (a ∷ []) = true
rises_by class (a ∷ b ∷ cs) = not (nat_lt 0 (class b) && nat_lt (class b) (class a)) && rises_by class (b ∷ cs)

rises_by-is_ordered : (cs : List ℕ) → rises_by ccc cs ≡ is_ordered cs
unfolding rises_by is_ordered is_reorderable
rises_by-is_ordered [] = refl
rises_by-is_ordered (a ∷ []) = refl
rises_by-is_ordered (a ∷ b ∷ cs) = ap (λ r. not (is_reorderable a b) && r) (rises_by-is_ordered (b ∷ cs))

-- the test of `IsScalar`
abbrev pub is_scalar : ℕ → Bool
is_scalar c = cond (nat_lt c 0xD800) true (nat_le 0xE000 c && nat_lt c 0x11_0000)

abbrev is_fit : Tables → ℕ → Entry → Bool
is_fit t c entry =
    let parts = full t Nfd c in nat_le (length parts) 4 && (rises_by t.class parts && (list_all is_scalar parts && is_scalar c))

all_fit : (c : ℕ) → is_empty (pick Nfd (entry_of c)) ≡ false → is_fit by_rows c (entry_of c) ≡ true
unfolding by_trees rises_by
all_fit c some =
    ap (λ t. is_fit t c (entry_of c)) same_tables
    ∙ Stepped-at_points entry_of decomposition_stepped (λ e. is_empty (pick Nfd e)) (is_fit by_trees) refl c some

-- ---- every code point

-- a class other than 0 is that of a scalar value
marks_scalar : (c : ℕ) → (ccc c == 0) ≡ false → is_scalar c ≡ true
unfolding canonical_combining_class_stepped tables points_ok
marks_scalar c some = Stepped-at_points ccc canonical_combining_class_stepped (λ n. n == 0) (λ x _. is_scalar x) refl c some

record IsFit (parts : List ℕ) : Type 0 where
  few : length parts ≤ 4
  in_order : is_ordered parts ≡ true

jamo : (x : ℕ) → 0x1100 ≤ x → x < 0x1200 → ccc x ≤ 0
jamo x low high = omega (arith, eqb-true _ 0 (class_of_jamo x low high))

low_scalar : (x : ℕ) → x < 0xD800 → is_scalar x ≡ true
low_scalar x h = cond-true _ _ _ (lt-ltb x 0xD800 h)

-- what holds of a decomposition: at most four code points, in order, and all of them scalar values if c is one
record IsDecomposition (c : ℕ) (parts : List ℕ) : Type 0 where
  fit : IsFit parts
  scalars : is_scalar c ≡ true → list_all is_scalar parts ≡ true
  other : is_scalar c ≡ false → parts ≡ c ∷ []

hangul_parts : (c : ℕ) → is_syllable c ≡ true → IsDecomposition c (decompose_hangul c)
hangul_parts c h =
    let range = is_syllable-true c h in
    let lx = 0x1100 + (c - 0xAC00) / 588 in
    let vx = 0x1161 + (c - 0xAC00) % 588 / 28 in
    let tx = 0x11A7 + (c - 0xAC00) % 28 in
    let l = jamo lx (omega arith) (omega arith) in
    let v = jamo vx (omega arith) (omega arith) in
    let ls = low_scalar lx (omega arith) in
    let vs = low_scalar vx (omega arith) in
    let ts = low_scalar tx (omega arith) in
    let cs = low_scalar c (omega arith) in
    elim (cases_eq ((c - 0xAC00) % 28) 0) [
      | inl two ↦
          subst (IsDecomposition c) (sym (decompose_hangul-two c two))
          (record {
            fit = record { few = omega arith; in_order = is_ordered-starter _ _ l (is_ordered-one _) };
            scalars = λ _. and_from _ _ ls (and_from _ _ vs refl);
            other = λ e. let clash = sym cs ∙ e in cc;
          })
      | inr three ↦
          subst (IsDecomposition c) (sym (decompose_hangul-three c three))
          (record {
            fit = record { few = omega arith; in_order = is_ordered-starter _ _ l (is_ordered-starter _ _ v (is_ordered-one _)) };
            scalars = λ _. and_from _ _ ls (and_from _ _ vs (and_from _ _ ts refl));
            other = λ e. let clash = sym cs ∙ e in cc;
          })
    ]

IsDecomposition-decompose : (c : ℕ) → IsDecomposition c (decompose Nfd c)
IsDecomposition-decompose c =
    elim (cases_Bool (is_syllable c)) [
      | inl syllable ↦ subst (IsDecomposition c) (sym (decompose-syllable Nfd c syllable)) (hangul_parts c syllable)
      | inr other ↦
          elim (cases_Bool (is_empty (pick Nfd (entry_of c)))) [
            | inl none ↦
                subst (IsDecomposition c) (sym (decompose-final Nfd c (and_from _ _ none (not_from_false _ other))))
                (record {
                  fit = record { few = omega arith; in_order = is_ordered-one c };
                  scalars = λ h. and_from _ _ h refl;
                  other = λ _. refl;
                })
            | inr some ↦
                let parts = full by_rows Nfd c in
                let of_few = and_parts (nat_le (length parts) 4) (rises_by ccc parts && (list_all is_scalar parts && is_scalar c)) (all_fit c some) in
                let of_order = and_parts (rises_by ccc parts) (list_all is_scalar parts && is_scalar c) of_few.1 in
                let of_scalars = and_parts (list_all is_scalar parts) (is_scalar c) of_order.1 in
                subst (IsDecomposition c) (sym (decompose-mapped Nfd c other some))
                (record {
                  fit = record { few = leb-true _ 4 of_few.0; in_order = sym (rises_by-is_ordered parts) ∙ of_order.0 };
                  scalars = λ _. of_scalars.0;
                  other = λ e. let clash = sym of_scalars.1 ∙ e in cc;
                })
          ]
    ]

-- what unicode_normalization decomposes a code point to is the NFD of it alone
pub decomposition-decompose : (c : ℕ) → decomposition c ≡ decompose Nfd c
unfolding normalize decomposed
decomposition-decompose c = ap canonical_order (append-nil (decompose Nfd c)) ∙ canonical_order-ordered _ (IsDecomposition-decompose c).fit.in_order

pub length-decomposition : (c : ℕ) → length (decomposition c) ≤ 4
length-decomposition c = subst (λ ds. length ds ≤ 4) (sym (decomposition-decompose c)) (IsDecomposition-decompose c).fit.few

pub is_ordered-decomposition : (c : ℕ) → is_ordered (decomposition c) ≡ true
is_ordered-decomposition c = ap is_ordered (decomposition-decompose c) ∙ (IsDecomposition-decompose c).fit.in_order

pub decomposition-ascii : (c : ℕ) → c < 128 → decomposition c ≡ c ∷ []
decomposition-ascii c h = normalize-ascii Nfd (c ∷ []) (All-cons (λ x. x < 128) c [] h (All-nil _))

pub class-ascii : (c : ℕ) → c < 128 → ccc c ≡ 0
class-ascii c h = class-latin c (omega arith)

pub ascii-plain : (c : ℕ) → c < 128 → IsPlain c
ascii-plain c h = record { itself = decomposition-ascii c h; starter = class-ascii c h }

-- what passes the quick check of NFD is its own decomposition
pub decomposition-passes : (c : ℕ) → quick_check Nfd c ≡ Yes → decomposition c ≡ c ∷ []
decomposition-passes c h = normalize-passes Nfd (c ∷ []) (and_from _ _ (ap is_yes h) refl) (is_ordered-one c)

scalars-all : (ds : List ℕ) → list_all is_scalar ds ≡ true → All IsScalar ds
scalars-all [] h = All-nil IsScalar
scalars-all (d ∷ ds) h =
    let parts = and_parts (is_scalar d) (list_all is_scalar ds) h in All-cons IsScalar d ds parts.0 (scalars-all ds parts.1)

pub decomposition-scalars : (c : ℕ) → IsScalar c → All IsScalar (decomposition c)
decomposition-scalars c h =
    subst (All IsScalar) (sym (decomposition-decompose c)) (scalars-all _ ((IsDecomposition-decompose c).scalars h))

pub decomposition-some : (c : ℕ) → 1 ≤ length (decomposition c)
decomposition-some c = subst (λ ds. 1 ≤ length ds) (sym (decomposition-decompose c)) (IsFull-decompose Nfd c).some

-- a number that is no scalar value is its own decomposition, and a starter
pub decomposition-other : (c : ℕ) → ¬ (IsScalar c) → decomposition c ≡ c ∷ []
decomposition-other c h = decomposition-decompose c ∙ (IsDecomposition-decompose c).other (false_from_ne_true (is_scalar c) h)

pub class-other : (c : ℕ) → ¬ (IsScalar c) → ccc c ≡ 0
class-other c h =
    elim (cases_Bool (ccc c == 0)) [
      | inl zero ↦ eqb-true (ccc c) 0 zero
      | inr mark ↦ absurd (h (marks_scalar c mark))
    ]
