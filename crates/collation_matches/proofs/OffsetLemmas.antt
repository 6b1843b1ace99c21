-- The laws of the rest of a text, from those of the lower crates.
use Rattle.std.proofs.Common.{◌≡◌, ℕ, suc, ◌<◌, ◌≤◌, nat_lt, List, [], ◌∷◌, ◌++◌, length, drop, Option, Some, None, refl, sym, ap, subst, arith}
use Rattle.std.specs.Str.{IsUtf8}
use Rattle.collation_table.specs.Table.{TableMap}
use Rattle.collation_elements.specs.declared.settings.Strength.{Strength}
use Rattle.collation_elements.specs.declared.settings.Variable.{Variable}
use Rattle.collation_elements.specs.declared.keys.Key.{Key}
use Rattle.collation_elements.specs.Boundaries.{boundaries}
use Rattle.collation_elements.specs.Clusters.{clusters, starts}
use Rattle.collation_elements.specs.Context.{BoundariesAreStarts, UnitsPartWhereClustersBegin}
use Rattle.collation_pattern.specs.Levels.{text_keys}
use Rattle.collation_matches.specs.declared.faults.TextFault.{TextFault}
use Rattle.collation_matches.specs.declared.select.Select.{Select}
use Rattle.collation_matches.specs.Answer.{Answer, answer, answer_at}
use Rattle.collation_matches.specs.ByClustersLaws.{matches_are_found}
use Rattle.collation_matches.specs.GoodPrefix.{most_bytes, fault, good_prefix, prefix_at}
use Rattle.collation_matches.specs.Matches.{matches}
use Rattle.collation_matches.specs.OffsetLaws.{ranges_from, MatchesFromBoundaries, AnswersFromBoundaries, RangesMayBeGoneOnFrom, CallsGiveTheChain}
use Rattle.collation_matches.specs.Offsets.{answer_moved}
use Rattle.collation_matches.specs.Selecting.{selected_answer}
use Rattle.collation_matches.specs.Sought.{answer_to}
use Rattle.collation_matches.proofs.BridgeClusters.{bound_rises}
use Rattle.collation_matches.proofs.BridgeFound.{in_found}
use Rattle.collation_matches.proofs.BridgeLists.{In, Rising, in_filter}
use Rattle.collation_matches.proofs.BridgeMatches.{rising_boundaries}
use Rattle.collation_matches.proofs.BridgeRanges.{Below}
use Rattle.collation_matches.proofs.LagLaw.{contains-in}
use Rattle.collation_matches.proofs.OffsetAnswers.{answer-from, ends-cleanly, good-text}
use Rattle.collation_matches.proofs.OffsetBoundaries.{boundaries-from}
use Rattle.collation_matches.proofs.OffsetChains.{AreLong, calls-chain}
use Rattle.collation_matches.proofs.OffsetFaults.{RestLaws}
use Rattle.collation_matches.proofs.OffsetMatches.{matches-from}
use Rattle.collation_matches.proofs.SelectedInTime.{selected-among}

pub matches-from-boundaries : UnitsPartWhereClustersBegin → MatchesFromBoundaries
matches-from-boundaries parts table strength variable pattern text from utf8 h =
    matches-from table strength variable pattern text from (boundaries-from parts table text from utf8 (contains-in (boundaries table text) from h))

pub answers-from-boundaries : RestLaws → AnswersFromBoundaries
answers-from-boundaries laws s text bytes from all m =
    let of : List ℕ → Answer = λ t. answer s.table s.pattern.strength s.pattern.variable text t in
    let P : Select → Type 0 = λ select. answer_moved from (selected_answer select (of (drop from bytes)))
    ≡ record { ranges = ranges_from from (selected_answer select (of bytes)).ranges; fault = (selected_answer select (of bytes)).fault } in
    subst P (sym all) (answer-from laws s.table s.pattern.strength s.pattern.variable text bytes from m)

pub ranges-may-be-gone-on-from : RangesMayBeGoneOnFrom
ranges-may-be-gone-on-from s text bytes range few h =
    let a = answer s.table s.pattern.strength s.pattern.variable text bytes in
    let among = selected-among s.select a.ranges range (contains-in (answer_to s text bytes).ranges range h) in
    ends-cleanly s.table s.pattern.strength s.pattern.variable text bytes few range among

-- ---- ranges have bytes

module _ (laws : RestLaws) (bounded : BoundariesAreStarts) (table : TableMap) (all_found : matches_are_found table) (strength : Strength) (variable : Variable)
    (pattern : List ℕ) (pattern_is_text : IsUtf8 pattern) (some : 0 < length (text_keys table strength variable pattern))
  where
    match-long : (text : List ℕ) → IsUtf8 text → AreLong (matches table strength variable pattern text)
    match-long text utf8 r h =
        let keys = text_keys table strength variable pattern in
        let cs = clusters table strength variable text in
        let end = length text in
        let up : Rising Below (starts cs ++ end ∷ []) = subst (Rising Below) (bounded table strength variable text utf8) (rising_boundaries table text) in
        let there = subst (λ (rs : List (ℕ × ℕ)). In rs r) (all_found strength variable pattern text pattern_is_text utf8 some) h in
        let s = in_found keys end cs (length cs) r (omega arith) there in
        let rises = bound_rises end cs s.0.from (suc s.0.upto) up (omega (arith, s.0.in_order)) (omega (arith, s.1)) in
        let one = ap (λ (q : ℕ × ℕ). q.0) s.0.is in
        let two = ap (λ (q : ℕ × ℕ). q.1) s.0.is in
        omega (arith, rises, one, two)

    long-at : (bytes : List ℕ) → length bytes ≤ most_bytes → (at : Option TextFault) → fault bytes ≡ at → AreLong (answer_at table strength variable pattern bytes at).ranges
    long-at bytes few None none r h =
        let same : good_prefix bytes ≡ bytes = ap (prefix_at bytes) none in
        match-long bytes (subst IsUtf8 same (good-text laws bytes few).good.text) r h
    long-at bytes few (Some at) is r h =
        let text = good_prefix bytes in
        match-long text (good-text laws bytes few).good.text r (in_filter (λ range. nat_lt range.1 (length text)) (matches table strength variable pattern text) r h).0

    pub answered-long : (bytes : List ℕ) → length bytes ≤ most_bytes → AreLong (answer table strength variable pattern bytes).ranges
    answered-long bytes few = long-at bytes few (fault bytes) refl

pub calls-give-the-chain : RestLaws → BoundariesAreStarts → (table : TableMap) → matches_are_found table → CallsGiveTheChain table
calls-give-the-chain laws bounded table all_found s text bytes n same compiled some few =
    let found_here = subst matches_are_found (sym same) all_found in
    let has_key = subst (λ (ks : List Key). 0 < length ks) compiled.keys some in
    calls-chain laws s text bytes few (answered-long laws bounded s.table found_here s.pattern.strength s.pattern.variable text compiled.text has_key bytes few) n
