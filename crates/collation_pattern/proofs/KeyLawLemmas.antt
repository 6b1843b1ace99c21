-- The key law.
use Rattle.std.specs.List.{AllByRecursion}
use Rattle.std.specs.Char.{IsScalar}
use Rattle.std.specs.Prelude.{All}
use Rattle.std.specs.Str.{IsUtf8, chars, all_scalars}
use Rattle.std.proofs.lemmas.Str.{scalars-chars}
use Rattle.std.proofs.lemmas.Bool.{and_parts}
use Rattle.std.proofs.Math.Utf8.{scalar, scalar_cases}
use Rattle.std.proofs.Common.{◌≡◌, ℕ, zero, suc, List, [], ◌∷◌, sym, ◌∙◌, ap, true, false, arith, inl, inr}
use Rattle.collation_table.specs.Table.{TableMap}
use Rattle.collation_table.specs.WellFormed.{IsWellFormed}
use Rattle.nfd_points.specs.Laws.{PointsAreSound}
use Rattle.nfd_points.specs.declared.points.Point.{Point}
use Rattle.nfd_points.specs.Points.{points}
use Rattle.nfd_points.specs.Reordering.{IsSoundPoint}
use Rattle.collation_elements.specs.Elements.{rows, weighted_rows}
use Rattle.collation_pattern.specs.Levels.{levels, text_keys}
use Rattle.collation_pattern.specs.KeyLaw.{KeyLaw, SortKeyIsLevels}
use Rattle.collation_pattern.proofs.KeyLevels.{levels_of_rows}
use Rattle.collation_pattern.proofs.KeyLists.{same_levels}
use Rattle.collation_pattern.proofs.ReadableRows.{scale_of}
use Rattle.collation_pattern.proofs.ReadableTexts.{keys_readable, IsCodePoint}

pub sort_key_is_levels : (T : TableMap) → SortKeyIsLevels T
sort_key_is_levels T s v text = levels_of_rows s (weighted_rows v false (rows T (points (chars text))))

-- the characters of a text are scalar values, and so are its points
each_scalar : (cs : List ℕ) → all_scalars cs ≡ true → All IsScalar cs
each_scalar [] h k d below = absurd (omega arith)
each_scalar (c ∷ cs) h zero d below = (and_parts (scalar c) (all_scalars cs) h).0
each_scalar (c ∷ cs) h (suc k) d below = each_scalar cs (and_parts (scalar c) (all_scalars cs) h).1 k d (omega arith)

code_points : (ps : List Point) → All IsSoundPoint ps → AllByRecursion IsCodePoint ps
code_points [] h = tt
code_points (p ∷ ps) h =
    let first = h 0 p (omega arith) in
    (elim (scalar_cases p.cp first.scalar) [ inl low ↦ omega arith | inr high ↦ high.1 ], code_points ps (λ k d below. h (suc k) d (omega arith)))

points_of_text : PointsAreSound → (text : List ℕ) → IsUtf8 text → AllByRecursion IsCodePoint (points (chars text))
points_of_text law text h = code_points (points (chars text)) (law (chars text) (each_scalar (chars text) (scalars-chars text h)))

pub key_law_lem : PointsAreSound → (T : TableMap) → IsWellFormed T → KeyLaw T
key_law_lem law T wf s v a b ha hb =
    let left = sort_key_is_levels T s v a in
    let right = sort_key_is_levels T s v b in (
      λ h. same_levels (scale_of T wf.wf2) s (text_keys T s v a) (text_keys T s v b) (keys_readable T wf s v (points (chars a)) (points_of_text law a ha)) (keys_readable T wf s v (points (chars b)) (points_of_text law b hb)) (sym left ∙ h ∙ right),
      λ h. left ∙ ap (levels s) h ∙ sym right,
    )
