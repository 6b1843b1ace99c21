-- The points of a text: the canonical decompositions of its code points in turn, each point with the byte offset of its
-- code point, and then in canonical order. It is NFD with offsets (UAX #15; The Unicode Standard, D68 and D107 to D109).
use Rattle.std.specs.Prelude.{◌≡◌, ℕ, ◌+◌, Bool, true, false, not, ◌&&◌, ◌==◌, nat_lt, List, [], ◌∷◌, ◌++◌, if◌then◌else◌}
use Rattle.std.specs.Char.{len_utf8}
use Rattle.unicode_normalization.specs.Forms.{nfd}
use Rattle.unicode_normalization.specs.Lookups.{canonical_combining_class}
use Rattle.nfd_points.specs.declared.points.Point.{Point}

-- a code point's full canonical decomposition (the Unicode Standard, D68): the NFD of the text of it alone
abbrev pub decomposition : ℕ → List ℕ
decomposition c = nfd (c ∷ [])

-- a starter (the Unicode Standard, D107) that is its own decomposition
pub record IsPlain (c : ℕ) : Type 0 where
  pub itself : decomposition c ≡ c ∷ []
  pub starter : canonical_combining_class c ≡ 0

-- how many bytes of UTF-8 the code points have
unfoldable pub byte_len : List ℕ → ℕ
byte_len [] = 0
byte_len (c ∷ cs) = len_utf8 c + byte_len cs

-- the code points of a decomposition as points at one offset; `is_first` is for the first of them
unfoldable pub points_at : ℕ → Bool → List ℕ → List Point
points_at start is_first [] = []
points_at start is_first (d ∷ ds) =
    record { cp = d; ccc = canonical_combining_class d; offset = start; first = is_first } ∷ points_at start false ds

-- the points of one code point
abbrev pub points_of : ℕ → ℕ → List Point
points_of start c = points_at start true (decomposition c)

-- the one point of a code point below 80 hex
abbrev pub ascii_point : ℕ → ℕ → Point
ascii_point start c = record { cp = c; ccc = 0; offset = start; first = true }

-- the points of a list of code points that begins at an offset, before they are put in order
unfoldable pub points_from : ℕ → List ℕ → List Point
points_from start [] = []
points_from start (c ∷ cs) = points_of start c ++ points_from (start + len_utf8 c) cs

-- a starter (the Unicode Standard, D107)
abbrev pub is_starter : Point → Bool
is_starter p = p.ccc == 0

-- no point, or the first one is a starter
abbrev pub begins_with_starter : List Point → Bool
begins_with_starter [] = true
begins_with_starter (p ∷ _) = is_starter p

-- p before q is out of order (the Unicode Standard, D108)
unfoldable pub is_reorderable : Point → Point → Bool
is_reorderable p q = nat_lt 0 q.ccc && nat_lt q.ccc p.ccc

-- no two neighbors are out of order
unfoldable pub is_in_order : List Point → Bool
is_in_order [] = true
is_in_order (p ∷ []) = true
is_in_order (p ∷ q ∷ qs) = not (is_reorderable p q) && is_in_order (q ∷ qs)

-- p goes before the others, and changes places with its neighbor while the two are out of order
unfoldable pub sink : Point → List Point → List Point
sink p [] = p ∷ []
sink p (q ∷ qs) = let past = q ∷ sink p qs in if is_reorderable p q then past else p ∷ q ∷ qs

-- each run of non-starters in order of class, equal classes as they came (the Unicode Standard, D109)
unfoldable pub ordered : List Point → List Point
ordered [] = []
ordered (p ∷ ps) = sink p (ordered ps)

-- a point of a text after so many bytes
abbrev pub shifted : ℕ → Point → Point
shifted by p = record p { offset = by + p.offset }

-- the points of a text of these code points
abbrev pub points : List ℕ → List Point
points cs = ordered (points_from 0 cs)
