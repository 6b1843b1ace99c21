-- The laws of points that the context law rests on, as functions of `nfd_points::laws` promise them, and the steps of the
-- definitions of points.
use Rattle.std.proofs.Common.{◌≡◌, ℕ, ◌+◌, List, [], ◌∷◌, ◌++◌, refl, arith}
use Rattle.std.specs.Char.{len_utf8}
use Rattle.nfd_points.specs.Laws.{DecompositionsAreShort, BytesAreCounted, TextsAreCut, OrderingCounts}
use Rattle.nfd_points.specs.Points.{byte_len, points_of, points_from, ordered}

pub record PointLaws : Type 0 where
  pub short : DecompositionsAreShort
  pub bytes : BytesAreCounted
  pub cuts : TextsAreCut
  pub ordering_counts : OrderingCounts

-- ---- bytes

pub byte_len-nil : byte_len [] ≡ 0
unfolding byte_len
byte_len-nil = refl

pub byte_len-cons : (c : ℕ) (cs : List ℕ) → byte_len (c ∷ cs) ≡ len_utf8 c + byte_len cs
unfolding byte_len
byte_len-cons c cs = refl

pub byte_len-append : (xs ys : List ℕ) → byte_len (xs ++ ys) ≡ byte_len xs + byte_len ys
unfolding byte_len
byte_len-append [] ys = omega arith
byte_len-append (x ∷ xs) ys = let rest = byte_len-append xs ys in omega arith

-- ---- points

pub points_from-nil : (start : ℕ) → points_from start [] ≡ []
unfolding points_from
points_from-nil start = refl

pub points_from-cons : (start c : ℕ) (cs : List ℕ) → points_from start (c ∷ cs) ≡ points_of start c ++ points_from (start + len_utf8 c) cs
unfolding points_from
points_from-cons start c cs = refl

-- ---- canonical ordering

pub ordered-nil : ordered [] ≡ []
unfolding ordered
ordered-nil = refl
