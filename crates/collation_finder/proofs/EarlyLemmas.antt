-- Which points are left where units may have been cut early: while characters come, and at a pause.
use Rattle.std.proofs.Common.{◌≡◌, ◌∙◌, ℕ, ◌≤◌, true, List, ◌∷◌, ◌++◌, sym, ap, inl, inr, arith, append_assoc}
use Rattle.nfd_points.specs.declared.points.Point.{Point}
use Rattle.nfd_points.specs.Points.{byte_len, points, is_starter}
use Rattle.nfd_points.specs.Reordering.{Waiting, HasReordered}
use Rattle.nfd_points.specs.Laws.{GivenAreFinal}
use Rattle.collation_table.specs.Table.{TableMap}
use Rattle.collation_elements.specs.Decided.{left_points, DecidedUnitsStay}
use Rattle.collation_finder.specs.Early.{IsCutUpTo, final_points}
use Rattle.collation_finder.proofs.TakenAtOnceLemmas.{UnitsSplitAt}

-- what a reorderer gives comes after the points that were final
pub final-more : GivenAreFinal → (old new : Waiting) (taken more : List ℕ) (given out : List Point) → HasReordered old taken given → HasReordered new (taken ++ more) (given ++ out) →
    final_points (taken ++ more) ≡ final_points taken ++ out
final-more law old new taken more given out before after =
    sym (law new (taken ++ more) (given ++ out) after) ∙ ap (λ ps. ps ++ out) (law old taken given before)

-- points come, and all units are cut that are decided then
pub cut-pushed : DecidedUnitsStay → (table : TableMap) (place : ℕ) (taken more : List ℕ) (out left now : List Point) →
    final_points (taken ++ more) ≡ final_points taken ++ out → now ≡ left_points table (left ++ out) → IsCutUpTo table place taken left → IsCutUpTo table place (taken ++ more) now
cut-pushed stay table place taken more out left now final is (inl same) =
    inl (is ∙ ap (λ ps. left_points table (ps ++ out)) same ∙ sym (stay table (final_points taken) out).1 ∙ ap (left_points table) (sym final))
cut-pushed stay table place taken more out left now final is (inr e) = inr (record {
  before = e.before;
  first = e.first;
  later = e.later ++ out;
  early = e.early;
  final = final ∙ ap (λ ps. ps ++ out) e.final ∙ append_assoc (points e.before) (e.first ∷ e.later) out;
  starter = e.starter;
  ends = e.ends;
  rest = is ∙ ap (λ ps. left_points table (ps ++ out)) e.rest ∙ sym (stay table (e.first ∷ e.later) out).1;
})

-- after a pause
pub cut-afresh : GivenAreFinal → (table : TableMap) (new : Waiting) (before more : List ℕ) (out later now : List Point) (first : Point) →
    HasReordered new (before ++ more) (points before ++ out) → out ≡ first ∷ later → is_starter first ≡ true → UnitsSplitAt table (points before) first → now ≡ left_points table out →
    IsCutUpTo table (byte_len before) (before ++ more) now
cut-afresh law table new before more out later now first after begun starter ends is = inr (record {
  before = before;
  first = first;
  later = later;
  early = omega arith;
  final = sym (law new (before ++ more) (points before ++ out) after) ∙ ap (λ ps. points before ++ ps) begun;
  starter = starter;
  ends = ends;
  rest = is ∙ ap (left_points table) begun;
})

-- further than where units were cut early
pub cut-wider : (table : TableMap) (near far : ℕ) (taken : List ℕ) (left : List Point) → near ≤ far → IsCutUpTo table near taken left → IsCutUpTo table far taken left
cut-wider table near far taken left forth (inl same) = inl same
cut-wider table near far taken left forth (inr e) = inr (record {
  before = e.before;
  first = e.first;
  later = e.later;
  early = let early = e.early in omega (arith, early, forth);
  final = e.final;
  starter = e.starter;
  ends = e.ends;
  rest = e.rest;
})
