-- Where a character begins a unit: where no unit reaches into it anywhere, and where none reaches out of what stands before it.
use Rattle.std.specs.List.{All}
use Rattle.std.proofs.Common.{◌≡◌, ◌∙◌, ℕ, true, false, List, [], ◌∷◌, ◌++◌, slice_get, sym, ap, append_assoc}
use Rattle.std.proofs.lemmas.List.Elements.{All-append}
use Rattle.nfd_points.specs.declared.points.Point.{Point}
use Rattle.nfd_points.specs.Points.{byte_len, points, points_from, begins_with_starter, is_starter}
use Rattle.nfd_points.specs.Laws.{WaitingAreOthers}
use Rattle.collation_table.specs.Table.{TableMap, BeginsNoLongerString, ContinuesNoString}
use Rattle.collation_elements.specs.Units.{units}
use Rattle.collation_pattern.specs.Compiled.{Compiled}
use Rattle.collation_letters.specs.Laws.{LetterLaws}
use Rattle.collation_letters.specs.Letters.{IsLetter}
use Rattle.collation_letters.specs.declared.letter.Letter.{Letter}
use Rattle.collation_finder.specs.Pausing.{BeginsUnit}
use Rattle.collation_finder.specs.declared.finder.Finder.{Finder}
use Rattle.collation_finder.proofs.TakenAtOnceLemmas.{begun, begins_anywhere, from_one}
use Rattle.collation_finder.proofs.CharacterLemmas.{apart-at}

-- no unit reaches to a starter whose code point stands in no mapped string after the first place
abbrev pub UnitsEndBefore : Type 0
UnitsEndBefore = (table : TableMap) (ps : List Point) (d : Point) (more : List Point) → is_starter d ≡ true → ContinuesNoString table d.cp → units table (ps ++ d ∷ more) ≡ units table ps ++ units table (d ∷ more)

-- a letter into which no unit reaches
pub begins-apart : LetterLaws → UnitsEndBefore → (table : TableMap) (pattern : Compiled) (finder : Finder) (offset c : ℕ) (l : Letter) → l.is_apart ≡ true → IsLetter table pattern (c ∷ []) l →
    BeginsUnit table pattern finder offset c
begins-apart laws before table pattern finder offset c l apart h =
    let b = begun laws.short offset c in
    record {
      starter = ap begins_with_starter b.is ∙ (apart-at laws.shifted table pattern c l offset apart h b.first (ap (λ t. slice_get t 0) b.is)).0;
      ends = λ taken handed stands at x is more.
          let begins = apart-at laws.shifted table pattern c l (byte_len taken) apart h x is in
          before table (points taken) x more begins.0 begins.1;
    }

-- no unit reaches out of points with which no longer string begins
abbrev pub UnitsEndBehind : Type 0
UnitsEndBehind = (table : TableMap) (ps more : List Point) → All (λ p. BeginsNoLongerString table p.cp) ps → units table (ps ++ more) ≡ units table ps ++ units table more

-- a starter behind points with which no longer string begins
pub begins-behind : UnitsEndBehind → WaitingAreOthers → (table : TableMap) (pattern : Compiled) (finder : Finder) (offset c : ℕ) → begins_with_starter (points_from 0 (c ∷ [])) ≡ true →
    finder.window.has_ended ≡ false → All (λ p. BeginsNoLongerString table p.cp) finder.window.points → All (λ p. BeginsNoLongerString table p.cp) finder.reorder.held → BeginsUnit table pattern finder offset c
begins-behind behind others table pattern finder offset c begins is_open left waiting = record {
  starter = begins_anywhere 0 offset c (ap begins_with_starter (sym (from_one 0 c)) ∙ begins);
  ends = λ taken handed h at x is more.
      let held = finder.reorder.held in
      let kept = finder.window.points in
      let us = h.matched.units in
      let rest = x ∷ more in
      let all : points taken ≡ h.points ++ held = others finder.reorder taken h.points h.reordered in
      let here : units table (points taken) ≡ us ++ units table (kept ++ held) = ap (units table) all ∙ h.matched.cut.continues held (λ e. cc) in
      let there : units table (points taken ++ rest) ≡ us ++ units table ((kept ++ held) ++ rest) =
      ap (λ (t : List Point). units table (t ++ rest)) all ∙ ap (units table) (append_assoc h.points held rest) ∙ h.matched.cut.continues (held ++ rest) (λ e. cc)
      ∙ ap (λ (t : List Point). us ++ units table t) (sym (append_assoc kept held rest)) in
      let cut = behind table (kept ++ held) rest (All-append (λ p. BeginsNoLongerString table p.cp) kept held left waiting) in
      there ∙ ap (λ t. us ++ t) cut ∙ sym (append_assoc us (units table (kept ++ held)) (units table rest)) ∙ ap (λ t. t ++ units table rest) (sym here);
}
