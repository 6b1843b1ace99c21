-- Steps of a finder: the units that leave a window.
use Rattle.std.proofs.Common.{◌≡◌, ℕ, List, [], ◌++◌, sym, ◌∙◌, ap, subst}
use Rattle.std.specs.List.{All, Contains}
use Rattle.std.proofs.lemmas.List.{append-nil}
use Rattle.std.proofs.lemmas.List.Elements.{All-append, All-weaker, All-contains, All-contains_itself, Contains-append_left, Contains-append_right}
use Rattle.nfd_points.specs.declared.points.Point.{Point}
use Rattle.collation_table.specs.Table.{TableMap}
use Rattle.collation_elements.specs.Windows.{Held}
use Rattle.collation_pattern.specs.Compiled.{Compiled}
use Rattle.collation_walk.specs.declared.matching.Matcher.{Matcher}
use Rattle.collation_finder.specs.Matching.{HasMatched}

-- nothing was found yet in this call
pub matched-first : (table : TableMap) (pattern : Compiled) (window : Held) (matcher : Matcher) (ps : List Point) (ranges first : List (ℕ × ℕ)) →
    first ≡ [] → HasMatched table pattern window matcher ps ranges → HasMatched table pattern window matcher ps (ranges ++ first)
matched-first table pattern window matcher ps ranges first none h =
    subst (HasMatched table pattern window matcher ps) (sym (ap (λ t. ranges ++ t) none ∙ append-nil ranges)) h

-- ---- points among others

-- what holds of each of the points holds of those that are among them
pub all-among : (P : Point → Type 0) (xs ys : List Point) → All P xs → All (Contains xs) ys → All P ys
all-among P xs ys h among = All-weaker (Contains xs) P (λ p there. All-contains P xs p h there) ys among

pub among-through : (xs ys zs : List Point) → All (Contains xs) ys → All (Contains ys) zs → All (Contains xs) zs
among-through xs ys zs h among = all-among (Contains xs) ys zs h among

-- the same points after both
pub among-pushed : (xs ys more : List Point) → All (Contains xs) ys → All (Contains (xs ++ more)) (ys ++ more)
among-pushed xs ys more among =
    All-append (Contains (xs ++ more)) ys more
    (All-weaker (Contains xs) (Contains (xs ++ more)) (λ p there. Contains-append_left xs more p there) ys among)
    (All-weaker (Contains more) (Contains (xs ++ more)) (λ p there. Contains-append_right xs more p there) more (All-contains_itself more))
