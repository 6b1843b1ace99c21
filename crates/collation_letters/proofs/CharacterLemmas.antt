-- Where the points of characters stand, and how many bytes characters have.
use Rattle.std.specs.Option.{ForSome}
use Rattle.std.specs.Str.{chars, IsUtf8}
use Rattle.std.proofs.Common.{◌≡◌, ◌∙◌, ℕ, ◌+◌, ◌≤◌, true, List, [], ◌∷◌, length, map, take, slice_get, refl, sym, ap, subst, arith}
use Rattle.std.proofs.lemmas.List.{length-take-le}
use Rattle.std.proofs.lemmas.Option.{none-some, same_Some}
use Rattle.std.proofs.lemmas.Str.{encodes-chars}
use Rattle.nfd_points.specs.declared.points.Point.{Point}
use Rattle.nfd_points.specs.Points.{byte_len, points_of, points_from, is_starter, ordered, shifted}
use Rattle.nfd_points.specs.Laws.{PointsAreShifted}
use Rattle.nfd_points.proofs.ByteLenLemmas.{byte_len_encoded}
use Rattle.nfd_points.proofs.PointsLemmas.{ordered-shift}
use Rattle.collation_table.specs.Table.{TableMap, ContinuesNoString}
use Rattle.collation_pattern.specs.Compiled.{Compiled}
use Rattle.collation_letters.specs.declared.letter.Letter.{Letter}
use Rattle.collation_letters.specs.Letters.{AreApart, IsLetter, ordered_from}
use Rattle.collation_letters.proofs.ApartLemmas.{from_one}

-- ---- how many bytes they have

pub chars-len : (piece : List ℕ) (at : ℕ) → at ≤ length piece → IsUtf8 (take at piece) → byte_len (chars (take at piece)) ≡ at
chars-len piece at within text = byte_len_encoded (chars (take at piece)) ∙ ap length (encodes-chars (take at piece) text) ∙ length-take-le at piece within

-- ---- points from an offset on

-- the points of characters from an offset on are those from 0 on, shifted
pub points_are_shifted : PointsAreShifted → (start : ℕ) (cs : List ℕ) → points_from start cs ≡ map (shifted start) (points_from 0 cs)
points_are_shifted law start cs =
    let same : start ≡ start + 0 = omega arith in ap (λ i. points_from i cs) same ∙ law start 0 cs

-- in order too
pub ordered_is_shifted : PointsAreShifted → (start : ℕ) (cs : List ℕ) → ordered_from start cs ≡ map (shifted start) (ordered_from 0 cs)
ordered_is_shifted law start cs = ap ordered (points_are_shifted law start cs) ∙ ordered-shift start (points_from 0 cs)

-- and those of one character
pub points-shifted : PointsAreShifted → (start c : ℕ) → points_of start c ≡ map (shifted start) (points_of 0 c)
points-shifted law start c = sym (from_one start c) ∙ points_are_shifted law start (c ∷ []) ∙ ap (λ (ps : List Point). map (shifted start) ps) (from_one 0 c)

-- into a character of this letter no unit reaches, wherever it stands
pub apart-at : PointsAreShifted → (table : TableMap) (pattern : Compiled) (c : ℕ) (l : Letter) (at : ℕ) → l.is_apart ≡ true → IsLetter table pattern (c ∷ []) l →
    ForSome (slice_get (points_of at c) 0) (λ p. (is_starter p ≡ true) × ContinuesNoString table p.cp)
apart-at law table pattern c l at apart h =
    subst (λ (ps : List Point). ForSome (slice_get ps 0) (λ p. (is_starter p ≡ true) × ContinuesNoString table p.cp)) (sym (points-shifted law at c ∙ ap (λ (ps : List Point). map (shifted at) ps) (sym (from_one 0 c))))
    (moved table (points_from 0 (c ∷ [])) at (h.apart apart))
  where
    moved : (table : TableMap) (ps : List Point) (at : ℕ) → AreApart table ps → ForSome (slice_get (map (shifted at) ps) 0) (λ p. (is_starter p ≡ true) × ContinuesNoString table p.cp)
    moved table [] at h = λ x is. absurd (none-some x is)
    moved table (p ∷ ps) at h = λ x is. subst (λ (q : Point). (is_starter q ≡ true) × ContinuesNoString table q.cp) (same_Some (shifted at p) x is) (h p refl)
