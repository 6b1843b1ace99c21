-- The answer to some bytes names no offset behind their end.
use Rattle.std.proofs.Common.{◌≡◌, ℕ, ◌≤◌, List, [], ◌∷◌, length, slice_get, nat_lt, Option, Some, None, refl, ap, arith}
use Rattle.std.proofs.lemmas.Bool.{le-leb}
use Rattle.std.proofs.lemmas.List.{length-take}
use Rattle.collation_table.specs.Table.{TableMap}
use Rattle.collation_elements.specs.declared.settings.Strength.{Strength}
use Rattle.collation_elements.specs.declared.settings.Variable.{Variable}
use Rattle.collation_elements.specs.Boundaries.{boundaries}
use Rattle.collation_pattern.specs.SortKey.{text_sort_key}
use Rattle.collation_matches.specs.declared.faults.TextFault.{TextFault}
use Rattle.collation_matches.specs.declared.select.Select.{Select}
use Rattle.collation_matches.specs.declared.select.Select.TheVariants.{All, Chain}
use Rattle.collation_matches.specs.Answer.{answer, answer_at}
use Rattle.collation_matches.specs.GoodPrefix.{fault, good_prefix, prefix_at}
use Rattle.collation_matches.specs.Matches.{ranges_among, ranges_with_sort_key, matches}
use Rattle.collation_matches.specs.Selecting.{selected}
use Rattle.collation_matches.proofs.BridgeLists.{In, in_filter}
use Rattle.collation_matches.proofs.BridgeRanges.{in_ranges, in_minimal}
use Rattle.collation_matches.proofs.OffsetBoundaries.{boundary-within}
use Rattle.collation_matches.proofs.SearchLemmas.{TextLaw, WithinLaw, good_prefix_found}
use Rattle.collation_matches.proofs.SelectingLemmas.{chain-taken}

-- a range stands within a text of this length
abbrev pub EndsWithin : ℕ → ℕ × ℕ → Type 0
EndsWithin len r = (r.0 ≤ r.1) × (r.1 ≤ len)

module _ (table : TableMap) (strength : Strength) (variable : Variable) (pattern : List ℕ) where
  pub matches-within : (text : List ℕ) (r : ℕ × ℕ) → In (matches table strength variable pattern text) r → EndsWithin (length text) r
  matches-within text r h =
      let key = text_sort_key table strength variable pattern in
      let m = in_minimal (ranges_with_sort_key table strength variable key text) r h in
      let k = in_filter _ (ranges_among (boundaries table text)) r m.0 in
      let b = in_ranges (boundaries table text) r k.0 in (b.2, boundary-within table text r.1 b.1)

  at-within : (bytes : List ℕ) (at : Option TextFault) → fault bytes ≡ at → (r : ℕ × ℕ) → In (answer_at table strength variable pattern bytes at).ranges r → EndsWithin (length bytes) r
  at-within bytes None is r h = matches-within bytes r h
  at-within bytes (Some at) is r h =
      let text = good_prefix bytes in
      let m = in_filter (λ range. nat_lt range.1 (length text)) (matches table strength variable pattern text) r h in
      let within = matches-within text r m.0 in
      let short : length text ≡ length (prefix_at bytes (Some at)) = ap (λ (o : Option TextFault). length (prefix_at bytes o)) is in
      (within.0, omega (arith, within.1, short, length-take at.offset bytes))

  pub answered-within : (bytes : List ℕ) (r : ℕ × ℕ) → In (answer table strength variable pattern bytes).ranges r → EndsWithin (length bytes) r
  answered-within bytes r h = at-within bytes (fault bytes) refl r h

  answer-fault : (bytes : List ℕ) (at : Option TextFault) → (answer_at table strength variable pattern bytes at).fault ≡ at
  answer-fault bytes None = refl
  answer-fault bytes (Some at) = refl

  pub answer-fault-is : (bytes : List ℕ) → (answer table strength variable pattern bytes).fault ≡ fault bytes
  answer-fault-is bytes = answer-fault bytes (fault bytes)

pub fault-within : TextLaw → WithinLaw → (bytes : List ℕ) (at : TextFault) → fault bytes ≡ Some at → at.offset ≤ length bytes
fault-within text_law within_law bytes at h = (good_prefix_found text_law within_law bytes at h).1.within

-- the first one of a selection is the first one of all
pub first-selected : (select : Select) (ranges : List (ℕ × ℕ)) → slice_get (selected select ranges) 0 ≡ slice_get ranges 0
first-selected All ranges = refl
first-selected Chain [] = refl
first-selected Chain (r ∷ rs) = ap (λ (l : List (ℕ × ℕ)). slice_get l 0) (chain-taken 0 r rs (le-leb 0 r.0 (omega arith)))
