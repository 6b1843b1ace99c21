-- Characters that are taken before one that follows: where their units end, and those of more characters.
use Rattle.std.specs.Char.{len_utf8}
use Rattle.std.proofs.Common.{◌≡◌, ◌∙◌, ℕ, ◌+◌, ◌≤◌, Bool, true, false, None, List, [], ◌∷◌, ◌++◌, length, flat_map, slice_get, inl, inr, refl, sym, ap, subst, arith, append_assoc}
use Rattle.std.proofs.lemmas.Bool.{cases_Bool, eqb-true, false≢true}
use Rattle.std.proofs.lemmas.List.{append-nil}
use Rattle.std.proofs.lemmas.Option.{same_Some}
use Rattle.nfd_points.specs.declared.points.Point.{Point}
use Rattle.nfd_points.specs.Points.{decomposition, byte_len, points_at, points_of, points_from, begins_with_starter, is_reorderable, is_starter, ordered, sink}
use Rattle.nfd_points.specs.PointFaults.{fault_from, point_fault}
use Rattle.nfd_points.specs.Laws.{DecompositionsAreShort}
use Rattle.nfd_points.proofs.OrderingLemmas.{not_reorderable_starter, ordered-cons, ordered-nil, ordered-ordered, sink-nil, sink-past, sink-starter, sink-stays}
use Rattle.nfd_points.proofs.PointsLemmas.{is_in_order-points_of}
use Rattle.collation_table.specs.Table.{TableMap}
use Rattle.collation_elements.specs.Units.{units}
use Rattle.collation_letters.specs.Apart.{EndsBefore, IsNext}
use Rattle.collation_letters.specs.Laws.{LetterLaws}
use Rattle.collation_letters.specs.Letters.{ordered_from}

-- ---- where units end

abbrev pub UnitsSplitAt : TableMap → List Point → Point → Type 0
UnitsSplitAt table ps x = (more : List Point) → units table (ps ++ x ∷ more) ≡ units table ps ++ units table (x ∷ more)

pub units-more : (table : TableMap) (ps qs tail : List Point) (x : Point) → qs ≡ x ∷ tail → UnitsSplitAt table ps x → units table (ps ++ qs) ≡ units table ps ++ units table qs
units-more table ps qs tail x begun ends =
    ap (λ (t : List Point). units table (ps ++ t)) begun ∙ ends tail ∙ ap (λ (t : List Point). units table ps ++ units table t) (sym begun)

pub splits-more : (table : TableMap) (ps qs tail : List Point) (x y : Point) → qs ≡ x ∷ tail → UnitsSplitAt table ps x → UnitsSplitAt table qs y → UnitsSplitAt table (ps ++ qs) y
splits-more table ps qs tail x y begun first second = λ more.
    let U = units table in
    let later = ap (λ (t : List Point). t ++ y ∷ more) begun in
    ap U (append_assoc ps qs (y ∷ more)) ∙ ap (λ (t : List Point). U (ps ++ t)) later ∙ first (tail ++ y ∷ more)
    ∙ ap (λ (t : List Point). U ps ++ U t) (sym later) ∙ ap (λ (us : List (List Point)). U ps ++ us) (second more)
    ∙ sym (append_assoc (U ps) (U qs) (U (y ∷ more))) ∙ ap (λ (us : List (List Point)). us ++ U (y ∷ more)) (sym (units-more table ps qs tail x begun first))

-- ---- the points of one character

pub record IsBegun (ps : List Point) : Type 0 where
  pub first : Point
  pub others : List Point
  pub is : ps ≡ first ∷ others

begun_some : (ps : List Point) → 1 ≤ length ps → IsBegun ps
begun_some [] some = absurd (omega (arith, some))
begun_some (p ∷ ps) some = record { first = p; others = ps; is = refl }

pub many_at : (start : ℕ) (first : Bool) (ds : List ℕ) → length (points_at start first ds) ≡ length ds
unfolding points_at
many_at start first [] = refl
many_at start first (d ∷ ds) = omega (arith, many_at start false ds)

pub begun : DecompositionsAreShort → (at c : ℕ) → IsBegun (points_of at c)
begun law at c =
    let many = many_at at true (decomposition c) in
    begun_some (points_of at c) (omega (arith, many, (law c).0))

first_at : (at : ℕ) (ds : List ℕ) (other : ℕ) → begins_with_starter (points_at at true ds) ≡ true → begins_with_starter (points_at other true ds) ≡ true
unfolding points_at
first_at at [] other h = refl
first_at at (d ∷ ds) other h = h

pub begins_anywhere : (at other c : ℕ) → begins_with_starter (points_of at c) ≡ true → begins_with_starter (points_of other c) ≡ true
begins_anywhere at other c h = first_at at (decomposition c) other h

pub begins-append : (ps qs : List Point) → IsBegun ps → begins_with_starter ps ≡ true → begins_with_starter (ps ++ qs) ≡ true
begins-append ps qs b h =
    ap (λ (t : List Point). begins_with_starter (t ++ qs)) b.is ∙ ap begins_with_starter (sym b.is) ∙ h

pub from_one : (start c : ℕ) → points_from start (c ∷ []) ≡ points_of start c
unfolding points_from
from_one start c = append-nil (points_of start c)

pub from_first : (start c : ℕ) (cs : List ℕ) → points_from start (c ∷ cs) ≡ points_of start c ++ points_from (start + len_utf8 c) cs
unfolding points_from
from_first start c cs = refl

pub from_none : (start : ℕ) → points_from start [] ≡ []
unfolding points_from
from_none start = refl

pub len_one : (c : ℕ) → byte_len (c ∷ []) ≡ len_utf8 c
unfolding byte_len
len_one c = omega arith

pub len_none : byte_len [] ≡ 0
unfolding byte_len
len_none = refl

-- ---- one character more

pub ends_here : (table : TableMap) (ps : List Point) (at c : ℕ) (b : IsBegun (points_of at c)) → EndsBefore table ps at c → UnitsSplitAt table ps b.first
ends_here table ps at c b ends = ends b.first (ap (λ t. slice_get t 0) b.is)

pub ends_there : (table : TableMap) (ps : List Point) (at c : ℕ) (b : IsBegun (points_of at c)) → UnitsSplitAt table ps b.first → EndsBefore table ps at c
ends_there table ps at c b splits = λ x is. subst (UnitsSplitAt table ps) (same_Some b.first x (sym (ap (λ t. slice_get t 0) b.is) ∙ is)) splits

one_good : LetterLaws → (c : ℕ) → point_fault (c ∷ []) ≡ None
one_good laws c =
    let few = (laws.short c).1 in
    let one : flat_map decomposition (c ∷ []) ≡ decomposition c = append-nil (decomposition c) in
    let long = ap length one in laws.few (c ∷ []) (omega (arith, few, long))

pub ordered_none : (start : ℕ) → ordered_from start [] ≡ []
ordered_none start = ap ordered (from_none start) ∙ ordered-nil

-- one character is in order
pub ordered_one : (at c : ℕ) → ordered_from at (c ∷ []) ≡ points_of at c
ordered_one at c = ap ordered (from_one at c) ∙ ordered-ordered (points_of at c) (is_in_order-points_of at c)

-- ordering does not cross the beginning of characters that begin with a starter
pub ordered_parts : LetterLaws → (start : ℕ) (xs ys : List ℕ) → begins_with_starter (points_from (start + byte_len xs) ys) ≡ true →
    ordered_from start (xs ++ ys) ≡ ordered_from start xs ++ ordered_from (start + byte_len xs) ys
ordered_parts laws start xs ys h = ap ordered (laws.parts start xs ys) ∙ laws.at_starters (points_from start xs) (points_from (start + byte_len xs) ys) h

starter_class : (p : Point) → is_starter p ≡ true → p.ccc ≤ 0
starter_class p h = let none = eqb-true p.ccc 0 h in omega (arith, none)

-- points in order begin with a starter where they did before
pub begins_before : (ps : List Point) → begins_with_starter (ordered ps) ≡ true → begins_with_starter ps ≡ true
begins_before [] h = refl
begins_before (p ∷ ps) h = sunk (ordered ps) (ap begins_with_starter (sym (ordered-cons p ps)) ∙ h)
  where
    sunk : (qs : List Point) → begins_with_starter (sink p qs) ≡ true → is_starter p ≡ true
    sunk [] h = ap begins_with_starter (sym (sink-nil p)) ∙ h
    sunk (q ∷ qs) h = elim (cases_Bool (is_reorderable p q)) [
      | inl past ↦ absurd (false≢true (sym (not_reorderable_starter p q (starter_class q (ap begins_with_starter (sym (sink-past p q qs past)) ∙ h))) ∙ past))
      | inr stays ↦ ap begins_with_starter (sym (sink-stays p q qs stays)) ∙ h
    ]

pub good_none : point_fault [] ≡ None
unfolding fault_from
good_none = refl

pub begun_append : (xs ys : List Point) → IsBegun ys → (zs : List Point) → zs ≡ xs ++ ys → IsBegun zs
begun_append [] ys b zs same = record { first = b.first; others = b.others; is = same ∙ b.is }
begun_append (x ∷ xs) ys b zs same = record { first = x; others = xs ++ ys; is = same }

-- the points of characters in a row begin with those of the first
pub begun_from : LetterLaws → (at c : ℕ) (cs all : List ℕ) → all ≡ c ∷ cs → IsBegun (points_from at all)
begun_from laws at c cs all same =
    let b = begun laws.short at c in
    record {
      first = b.first;
      others = b.others ++ points_from (at + len_utf8 c) cs;
      is = ap (points_from at) same ∙ from_first at c cs ∙ ap (λ (t : List Point). t ++ points_from (at + len_utf8 c) cs) b.is;
    }

-- and so do their points in order, where the first begins with a starter
pub begun_ordered : LetterLaws → (at c : ℕ) (cs all : List ℕ) → all ≡ c ∷ cs → begins_with_starter (points_of at c) ≡ true → IsBegun (ordered_from at all)
begun_ordered laws at c cs all same starts =
    let b = begun laws.short at c in
    let later = points_from (at + len_utf8 c) cs in
    let more = b.others ++ later in
    record {
      first = b.first;
      others = ordered more;
      is = ap ordered (ap (points_from at) same ∙ from_first at c cs ∙ ap (λ (t : List Point). t ++ later) b.is)
          ∙ ordered-cons b.first more ∙ sink-starter b.first (ordered more) (starter_class b.first (ap begins_with_starter (sym b.is) ∙ starts));
    }

pub ends_first : (laws : LetterLaws) (table : TableMap) (ps : List Point) (at c : ℕ) (cs all : List ℕ) (same : all ≡ c ∷ cs) (starts : begins_with_starter (points_of at c) ≡ true) → EndsBefore table ps at c →
    UnitsSplitAt table ps (begun_ordered laws at c cs all same starts).first
unfolding begun_ordered begun
ends_first laws table ps at c cs all same starts ends = ends_here table ps at c (begun laws.short at c) ends

pub begins_all : LetterLaws → (at other c : ℕ) (cs all : List ℕ) → all ≡ c ∷ cs → begins_with_starter (points_of at c) ≡ true → begins_with_starter (points_from other all) ≡ true
begins_all laws at other c cs all same h =
    ap begins_with_starter (ap (points_from other) same ∙ from_first other c cs)
    ∙ begins-append (points_of other c) (points_from (other + len_utf8 c) cs) (begun laws.short other c) (begins_anywhere at other c h)

-- no characters, before one that begins with a starter
pub next-none : (table : TableMap) (start next : ℕ) → begins_with_starter (points_from 0 (next ∷ [])) ≡ true → IsNext table start [] next
next-none table start next begins =
    let nothing = ordered_none start in
    record {
      good = good_none;
      begins = begins_anywhere 0 (start + byte_len []) next (ap begins_with_starter (sym (from_one 0 next)) ∙ begins);
      ends = λ x is more. ap (λ (t : List Point). units table (t ++ x ∷ more)) nothing ∙ ap (λ (t : List Point). units table t ++ units table (x ∷ more)) (sym nothing);
    }

-- more characters after some
pub next-more : LetterLaws → (table : TableMap) (start c next : ℕ) (cs others more : List ℕ) → more ≡ c ∷ others → IsNext table start cs c → IsNext table (start + byte_len cs) more next → IsNext table start (cs ++ more) next
next-more laws table start c next cs others more same h n =
    let at = start + byte_len cs in
    let A = ordered_from start cs in
    let S = ordered_from at more in
    let b = begun_ordered laws at c others more same h.begins in
    let all : ordered_from start (cs ++ more) ≡ A ++ S = ordered_parts laws start cs more (begins_all laws at at c others more same h.begins) in
    let end : start + byte_len (cs ++ more) ≡ at + byte_len more = omega (arith, laws.bytes cs more) in
    let after = begun laws.short (at + byte_len more) next in
    record {
      good = laws.anew cs more (begins_all laws at 0 c others more same h.begins) h.good n.good;
      begins = subst (λ i. begins_with_starter (points_of i next) ≡ true) (sym end) n.begins;
      ends = subst (λ i. EndsBefore table (ordered_from start (cs ++ more)) i next) (sym end)
          (subst (λ (ps : List Point). EndsBefore table ps (at + byte_len more) next) (sym all)
          (ends_there table (A ++ S) (at + byte_len more) next after
          (splits-more table A S b.others b.first after.first b.is (ends_first laws table A at c others more same h.begins h.ends) (ends_here table S (at + byte_len more) next after n.ends))));
    }

-- their units are their own
pub units-next : LetterLaws → (table : TableMap) (start c : ℕ) (cs others more : List ℕ) → more ≡ c ∷ others → begins_with_starter (points_of (start + byte_len cs) c) ≡ true → EndsBefore table (ordered_from start cs) (start + byte_len cs) c →
    units table (ordered_from start (cs ++ more)) ≡ units table (ordered_from start cs) ++ units table (ordered_from (start + byte_len cs) more)
units-next laws table start c cs others more same starts ends =
    let at = start + byte_len cs in
    let A = ordered_from start cs in
    let b = begun_ordered laws at c others more same starts in
    ap (units table) (ordered_parts laws start cs more (begins_all laws at at c others more same starts))
    ∙ units-more table A (ordered_from at more) b.others b.first b.is (ends_first laws table A at c others more same starts ends)

-- a character by itself
pub next_of_one : LetterLaws → (table : TableMap) (at c next : ℕ) → begins_with_starter (points_of (at + len_utf8 c) next) ≡ true → EndsBefore table (points_of at c) (at + len_utf8 c) next →
    IsNext table at (c ∷ []) next
next_of_one laws table at c next begins ends =
    let one = len_one c in
    let same : at + len_utf8 c ≡ at + byte_len (c ∷ []) = omega (arith, one) in
    record {
      good = one_good laws c;
      begins = subst (λ i. begins_with_starter (points_of i next) ≡ true) same begins;
      ends = subst (λ i. EndsBefore table (ordered_from at (c ∷ [])) i next) same
          (subst (λ (ps : List Point). EndsBefore table ps (at + len_utf8 c) next) (sym (ordered_one at c)) ends);
    }
