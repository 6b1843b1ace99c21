-- Characters that are taken at once: where their units end, and the text with them.
use Rattle.std.specs.Char.{len_utf8}
use Rattle.std.proofs.Common.{◌≡◌, ◌∙◌, ℕ, ◌+◌, true, List, [], ◌∷◌, ◌++◌, refl, sym, ap, subst, arith, append_assoc}
use Rattle.nfd_points.specs.declared.points.Point.{Point}
use Rattle.nfd_points.specs.Points.{byte_len, points_of, points_from, begins_with_starter}
use Rattle.collation_table.specs.Table.{TableMap}
use Rattle.collation_elements.specs.Units.{units}
use Rattle.collation_finder.specs.TakenAtOnce.{CanBeTakenAtOnce, IsNext}
use Rattle.collation_letters.specs.Laws.{LetterLaws}
use Rattle.collation_letters.specs.Letters.{ordered_from}
use Rattle.collation_letters.proofs.ApartLemmas.{begins-append, begun_append, begun_from, good_none, next-more, units-next}
pub use Rattle.collation_letters.proofs.ApartLemmas.{UnitsSplitAt, begun, begun_ordered, begins_anywhere, from_first, from_none, from_one, len_none, ordered_none, units-more, splits-more, ends_first, ends_here, ends_there}

pub apart-none : LetterLaws → (table : TableMap) (start next : ℕ) → begins_with_starter (points_of start next) ≡ true → CanBeTakenAtOnce table start [] next
apart-none laws table start next begins =
    let here : start ≡ start + byte_len [] = let none = len_none in omega (arith, none) in
    let nothing = ordered_none start in
    record {
      begins = ap begins_with_starter (from_one start next) ∙ begins;
      next_begins = subst (λ i. begins_with_starter (points_of i next) ≡ true) here begins;
      good = good_none;
      ends = λ x is more. ap (λ (t : List Point). units table (t ++ x ∷ more)) nothing ∙ ap (λ (t : List Point). units table t ++ units table (x ∷ more)) (sym nothing);
    }

pub apart-more : LetterLaws → (table : TableMap) (start c next : ℕ) (cs others more : List ℕ) → more ≡ c ∷ others → CanBeTakenAtOnce table start cs c → IsNext table (start + byte_len cs) more next → CanBeTakenAtOnce table start (cs ++ more) next
apart-more laws table start c next cs others more same h n =
    let at = start + byte_len cs in
    let A = points_from start cs in
    let S = points_from at more in
    let b = begun_from laws at c others more same in
    let all : points_from start (cs ++ more) ≡ A ++ S = laws.parts start cs more in
    let so_far : IsNext table start cs c = record { good = h.good; begins = h.next_begins; ends = h.ends } in
    let further = next-more laws table start c next cs others more same so_far n in
    record {
      begins =
          let joined : points_from start ((cs ++ more) ++ next ∷ []) ≡ points_from start (cs ++ more) ++ points_from (start + byte_len (cs ++ more)) (next ∷ []) = laws.parts start (cs ++ more) (next ∷ []) in
          let one : points_from start (cs ++ c ∷ []) ≡ A ++ points_of at c = laws.parts start cs (c ∷ []) ∙ ap (λ (t : List Point). A ++ t) (from_one at c) in
          let first : begins_with_starter (A ++ S) ≡ true =
          ap (λ (t : List Point). begins_with_starter (A ++ t)) (ap (points_from at) same ∙ from_first at c others)
          ∙ ap begins_with_starter (sym (append_assoc A (points_of at c) (points_from (at + len_utf8 c) others)))
          ∙ begins-append (A ++ points_of at c) (points_from (at + len_utf8 c) others) (begun_append A (points_of at c) (begun laws.short at c) (A ++ points_of at c) refl) (ap begins_with_starter (sym one) ∙ h.begins) in
          ap begins_with_starter joined ∙ begins-append (points_from start (cs ++ more)) (points_from (start + byte_len (cs ++ more)) (next ∷ []))
          (begun_append A S b (points_from start (cs ++ more)) all) (ap begins_with_starter all ∙ first);
      next_begins = further.begins;
      good = further.good;
      ends = further.ends;
    }

-- their units are their own
pub units-apart : LetterLaws → (table : TableMap) (start c : ℕ) (cs others more : List ℕ) → more ≡ c ∷ others → CanBeTakenAtOnce table start cs c →
    units table (ordered_from start (cs ++ more)) ≡ units table (ordered_from start cs) ++ units table (ordered_from (start + byte_len cs) more)
units-apart laws table start c cs others more same h = units-next laws table start c cs others more same h.next_begins h.ends
