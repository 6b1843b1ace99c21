-- What a part has, by the calls of a search.
use Rattle.std.specs.Prelude.{OnOk, IfErr, Contains}
use Rattle.std.specs.List.{FoldsTo}
use Rattle.std.proofs.Common.{◌≡◌, ◌∙◌, ℕ, ◌+◌, ◌^◌, ◌<◌, ◌≤◌, true, false, List, [], ◌∷◌, ◌++◌, length, drop, Some, None, Result, Ok, Err, is_err, refl, sym, ap, subst}
use Rattle.collation_table.specs.declared.lookup.Weights.{Ghosts}
use Rattle.collation_matches.specs.declared.faults.TextFault.{TextFault}
use Rattle.collation_matches.specs.Answer.{Answer, answer}
use Rattle.collation_matches.specs.GoodPrefix.{fault}
use Rattle.collation_matches.specs.Offsets.{fault_moved}
use Rattle.collation_matches.specs.Sought.{Sought, IsCompiledFrom, answer_to}
use Rattle.collation_matches.proofs.BridgeLists.{In}
use Rattle.collation_matches.proofs.LagLaw.{in-contains}
use Rattle.collation_matches.proofs.OffsetBounds.{answered-within, answer-fault-is}
use Rattle.collation_matches.proofs.SelectedInTime.{selected-among}
use Rattle.collation_search.specs.declared.search.Search.{Search}
use Rattle.collation_search.specs.Feeding.{Feeds, fault_of}
use Rattle.collation_search.specs.Search.{HasSearched, sought}
use Rattle.collation_parts.specs.Handing.{handed_on}
use Rattle.collation_parts.specs.Parts.{fault_by, part_answer}
use Rattle.collation_parts.proofs.PartAnswers.{handed_on-append, handed_on-late, handed_on-moved, none-moved, fault_by-moved, no-fault-moved, no-fault-by, folds-on}

-- ---- ranges handed on one after the other

pub folded : {P : Type 0} (R : P → ℕ × ℕ → P → Type 0) (p q r : P) (by len : ℕ) (xs ys all : List (ℕ × ℕ)) → FoldsTo R p (handed_on by len xs) q → FoldsTo R q (handed_on by len ys) r →
    all ≡ xs ++ ys → FoldsTo R p (handed_on by len all) r
folded R p q r by len xs ys all first then parts =
    subst (λ (rs : List (ℕ × ℕ)). FoldsTo R p rs r) (sym (ap (handed_on by len) parts ∙ handed_on-append by len xs ys))
    (folds-on R p (handed_on by len xs) q (handed_on by len ys) r first then)

-- ---- a piece with a fault

pub at-fault : {W : Type 0} {G : Ghosts W} (old new : Search W G) (p u piece later : List ℕ) (handed found : List (ℕ × ℕ)) (result : Result (Unit {0}) TextFault) →
    Feeds old piece result found new → HasSearched old u handed → IsCompiledFrom (sought old) p → is_err result ≡ true →
    answer_to (sought old) p ((u ++ piece) ++ later) ≡ record { ranges = handed ++ found; fault = fault_of result }
at-fault old new p u piece later handed found (Ok done) fed h compiled is = absurd cc
at-fault old new p u piece later handed found (Err f) fed h compiled is = fed.answer p u later handed compiled h

-- and one without
pub goes-on : {W : Type 0} {G : Ghosts W} (old new : Search W G) (u piece : List ℕ) (handed found : List (ℕ × ℕ)) (result : Result (Unit {0}) TextFault) →
    Feeds old piece result found new → HasSearched old u handed → is_err result ≡ false → HasSearched new (u ++ piece) (handed ++ found)
goes-on old new u piece handed found (Ok done) fed h is = fed.stands u handed h
goes-on old new u piece handed found (Err f) fed h is = absurd cc

-- ---- no range that begins in the part is to come

drop-length : {A : Type 0} (xs ys : List A) → drop (length xs) (xs ++ ys) ≡ ys
drop-length [] ys = refl
drop-length (x ∷ xs) ys = drop-length xs ys

pub none-to-come : (by len : ℕ) (all handed rest : List (ℕ × ℕ)) → all ≡ handed ++ rest →
    ((range : ℕ × ℕ) → Contains (drop (length handed) all) range → len ≤ range.0) → handed_on by len all ≡ handed_on by len handed
none-to-come by len all handed rest parts late =
    ap (handed_on by len) parts
    ∙ handed_on-late by len handed rest (λ r h.
    let there : In (drop (length handed) all) r = subst (λ (rs : List (ℕ × ℕ)). In rs r) (sym (ap (drop (length handed)) parts ∙ drop-length handed rest)) h in
    late r (in-contains (drop (length handed) all) r there))

pub no-fault-there : (s : Sought) (p bytes : List ℕ) (by len : ℕ) → ((f : TextFault) → fault bytes ≡ Some f → len < f.offset) →
    None ≡ fault_moved by (fault_by len (answer_to s p bytes).fault)
no-fault-there s p bytes by len behind =
    sym (ap (λ o. fault_moved by (fault_by len o)) (answer-fault-is s.table s.pattern.strength s.pattern.variable p bytes)
    ∙ ap (fault_moved by) (no-fault-by len (fault bytes) behind))

-- ---- counted from the beginning of the text

pub part-ranges : (s : Sought) (p text : List ℕ) (from len to : ℕ) → from + len ≡ to → from + length (drop from text) < 2 ^ 64 →
    handed_on from len (answer_to s p (drop from text)).ranges ≡ (part_answer s p text from to).ranges
part-ranges s p text from len to sum few =
    let rest = drop from text in
    let all = (answer s.table s.pattern.strength s.pattern.variable p rest).ranges in
    handed_on-moved from len to (length rest) (answer_to s p rest).ranges sum few
    (λ r h. answered-within s.table s.pattern.strength s.pattern.variable p rest r (selected-among s.select all r h))

pub part-fault : (s : Sought) (p text : List ℕ) (from len to : ℕ) → from + len ≡ to →
    fault_moved from (fault_by len (answer_to s p (drop from text)).fault) ≡ (part_answer s p text from to).fault
part-fault s p text from len to sum = fault_by-moved from len to (answer_to s p (drop from text)).fault sum

-- a part that ends before it begins
pub no-ranges : (s : Sought) (p text : List ℕ) (from to : ℕ) → to < from → (part_answer s p text from to).ranges ≡ []
no-ranges s p text from to less = none-moved from to (answer_to s p (drop from text)).ranges less

pub no-fault : (s : Sought) (p text : List ℕ) (from to : ℕ) → to < from → (part_answer s p text from to).fault ≡ None
no-fault s p text from to less = no-fault-moved from to (answer_to s p (drop from text)).fault less

-- ---- the end of the text

pub finished : (a : Answer) (result : Result (Unit {0}) TextFault) (handed ranges items : List (ℕ × ℕ)) → ranges ≡ items →
    OnOk result (a ≡ record { ranges = handed ++ items; fault = None }) → IfErr result (λ f. a ≡ record { ranges = handed ++ items; fault = Some f }) →
    a ≡ record { ranges = handed ++ ranges; fault = fault_of result }
finished a (Ok done) handed ranges items same good bad =
    good ∙ ap (λ (rs : List (ℕ × ℕ)). let x : Answer = record { ranges = handed ++ rs; fault = None } in x) (sym same)
finished a (Err f) handed ranges items same good bad =
    bad ∙ ap (λ (rs : List (ℕ × ℕ)). let x : Answer = record { ranges = handed ++ rs; fault = Some f } in x) (sym same)
