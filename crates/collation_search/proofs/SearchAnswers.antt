-- The answer to a text, from what a search has found in it.
use Rattle.std.specs.Str.{chars, IsUtf8}
use Rattle.std.proofs.Common.{◌≡◌, ◌∙◌, ◌<◌, ◌≤◌, ℕ, List, ◌++◌, false, length, take, Some, None, refl, sym, ap, subst, arith}
use Rattle.std.proofs.lemmas.List.{take-append-le}
use Rattle.utf8_cut.specs.Characters.{characters_end}
use Rattle.nfd_points.specs.Points.{points}
use Rattle.collation_elements.specs.declared.keys.Key.{Key}
use Rattle.collation_elements.specs.declared.keys.Item.{Item}
use Rattle.collation_elements.specs.Clusters.{Cluster, clusters, clusters_from}
use Rattle.collation_elements.specs.Items.{items}
use Rattle.collation_elements.specs.Units.{units}
use Rattle.collation_pattern.specs.Levels.{text_keys}
use Rattle.collation_matches.specs.declared.faults.TextFault.{TextFault}
use Rattle.collation_walk.specs.declared.walk.Walk.{Walk}
use Rattle.collation_matches.specs.Answer.{Answer}
use Rattle.collation_matches.specs.ByClusters.{text_begin, found, found_before_last}
use Rattle.collation_matches.specs.ByClustersLaws.{matches_are_found, settled_are_found, items_give_ranges}
use Rattle.collation_matches.specs.GoodPrefix.{fault, whole}
use Rattle.collation_matches.specs.Matches.{matches, settled}
use Rattle.collation_matches.specs.Sought.{Sought, IsCompiledFrom, answer_to, settled_in}
use Rattle.collation_matches.specs.Selecting.{selected, selected_answer}
use Rattle.collation_walk.specs.Walks.{WalksOver}
use Rattle.collation_matches.proofs.SearchLemmas.{answer_good, answer_bad}
use Rattle.collation_walk.proofs.WalkSteps.{walks-settled}

-- the clusters of a text under what is sought
abbrev clusters_in : Sought → List ℕ → List Cluster
clusters_in s text = clusters s.table s.pattern.strength s.pattern.variable text

-- the items of a text under what is sought
abbrev pub items_in : Sought → List ℕ → List Item
items_in s text = items s.table s.pattern.strength s.pattern.variable false (units s.table (points (chars text)))

pub has_key : (s : Sought) (p : List ℕ) → IsCompiledFrom s p → 1 ≤ length s.pattern.keys → 0 < length (text_keys s.table s.pattern.strength s.pattern.variable p)
has_key s p h some = let same = ap length h.keys in omega (arith, same, some)

-- a walk over all items of a text has found the settled matches
pub walked-settled : (s : Sought) → settled_are_found s.table → items_give_ranges s.table → (p text : List ℕ) (ranges : List (ℕ × ℕ)) (w : Walk) →
    w.select ≡ s.select → IsCompiledFrom s p → 1 ≤ length s.pattern.keys → IsUtf8 text → WalksOver s.pattern.keys (items_in s text) ranges w →
    ranges ≡ settled_in s p text
walked-settled s settled_law items_law p text ranges w same h some utf8 walked =
    let keys = text_keys s.table s.pattern.strength s.pattern.variable p in
    let law = settled_law s.pattern.strength s.pattern.variable p text h.text utf8 (has_key s p h some) in
    let reported = (items_law s.pattern.strength s.pattern.variable s.pattern.keys text (length text)).1 in
    walks-settled s.pattern.keys (items_in s text) ranges w (length text) walked
    ∙ ap (λ select. selected select (found_before_last s.pattern.keys (clusters_from text_begin (items_in s text)) (length text))) same
    ∙ ap (selected s.select) (sym (law ∙ ap (λ (ks : List Key). found_before_last ks (clusters_in s text) (length text)) (sym h.keys) ∙ reported))

-- and with the range that ends with its last cluster all matches
pub walked-all : (s : Sought) → matches_are_found s.table → items_give_ranges s.table → (p text : List ℕ) (ranges : List (ℕ × ℕ)) →
    IsCompiledFrom s p → 1 ≤ length s.pattern.keys → IsUtf8 text →
    ranges ≡ selected s.select (found s.pattern.keys (clusters_from text_begin (items_in s text)) (length text)) →
    ranges ≡ selected s.select (matches s.table s.pattern.strength s.pattern.variable p text)
walked-all s law items_law p text ranges h some utf8 walked =
    let all = law s.pattern.strength s.pattern.variable p text h.text utf8 (has_key s p h some) in
    let reported = (items_law s.pattern.strength s.pattern.variable s.pattern.keys text (length text)).0 in
    walked ∙ ap (selected s.select) (sym (all ∙ ap (λ (ks : List Key). found ks (clusters_in s text) (length text)) (sym h.keys) ∙ reported))

-- the answer to bytes with a fault where the whole characters of the first ones end
pub answer-at_fault : (s : Sought) → settled_are_found s.table → items_give_ranges s.table → (p u rest : List ℕ) (ranges : List (ℕ × ℕ)) (w : Walk) (f : TextFault) →
    w.select ≡ s.select → IsCompiledFrom s p → 1 ≤ length s.pattern.keys → IsUtf8 (whole u) → characters_end u ≤ length u →
    WalksOver s.pattern.keys (items_in s (whole u)) ranges w → fault (u ++ rest) ≡ Some f → f.offset ≡ characters_end u →
    answer_to s p (u ++ rest) ≡ record { ranges = ranges; fault = Some f }
answer-at_fault s settled_law items_law p u rest ranges w f same h some utf8 within walked bad at =
    let prefix : take f.offset (u ++ rest) ≡ whole u = ap (λ n. take n (u ++ rest)) at ∙ take-append-le (characters_end u) u rest within in
    let all = settled s.table s.pattern.strength s.pattern.variable p (take f.offset (u ++ rest)) in
    ap (selected_answer s.select) (answer_bad s.table s.pattern.strength s.pattern.variable p (u ++ rest) all f (sym bad) refl)
    ∙ ap (λ (rs : List (ℕ × ℕ)). let a : Answer = record { ranges = rs; fault = Some f } in a)
    (sym (walked-settled s settled_law items_law p (whole u) ranges w same h some utf8 walked ∙ ap (settled_in s p) (sym prefix)))

-- the answer to bytes without a fault
pub answer-good : (s : Sought) → matches_are_found s.table → items_give_ranges s.table → (p u : List ℕ) (ranges : List (ℕ × ℕ)) (end : ℕ) →
    IsCompiledFrom s p → 1 ≤ length s.pattern.keys → IsUtf8 (whole u) → whole u ≡ u → end ≡ length u → None ≡ fault u →
    ranges ≡ selected s.select (found s.pattern.keys (clusters_from text_begin (items_in s (whole u))) end) →
    answer_to s p u ≡ record { ranges = ranges; fault = None }
answer-good s law items_law p u ranges end h some utf8 same end_is good walked =
    let all = matches s.table s.pattern.strength s.pattern.variable p u in
    ap (selected_answer s.select) (answer_good s.table s.pattern.strength s.pattern.variable p u all good refl)
    ∙ ap (λ (rs : List (ℕ × ℕ)). let a : Answer = record { ranges = rs; fault = None } in a)
    (sym (walked-all s law items_law p u ranges h some (subst IsUtf8 same utf8)
    (walked ∙ ap (selected s.select) (ap (λ n. found s.pattern.keys (clusters_from text_begin (items_in s (whole u))) n) end_is
    ∙ ap (λ t. found s.pattern.keys (clusters_from text_begin (items_in s t)) (length u)) same))))
