-- A search that takes a text in pieces, and is saved and resumed after each.
use Rattle.std.specs.Prelude.{◌≡◌, ◌⊎◌, ℕ, ◌+◌, max, List, [], ◌∷◌, ◌++◌, length, Result, Some, flat_map}
use Rattle.std.specs.Borrow.{Bor}
use Rattle.collation_table.specs.declared.lookup.Weights.{Ghosts}
use Rattle.collation_matches.specs.declared.faults.TextFault.{TextFault}
use Rattle.collation_search.specs.declared.search.Search.{Search}
use Rattle.collation_search.specs.Feeding.{Feeds}
use Rattle.collation_search.specs.Resuming.{IsResumedFrom}
use Rattle.collation_search.specs.Saving.{records_before}
use Rattle.collation_search.specs.State.{words_of}
use Rattle.collation_search.specs.StateAfter.{IsReported, state_after}
use Rattle.collation_search.specs.Search.{sought, HasSearched, HasReported}
use Rattle.collation_matches.specs.Sought.{Sought, IsCompiledFrom, answer_to}

-- the bytes of the pieces, one piece after another
abbrev pub joined : List (Bor (List ℕ)) → List ℕ
joined pieces = flat_map (λ piece. piece.now) pieces

-- The search has reported the fault: whatever follows the bytes, the ranges and this fault are the answer, and what is reported after
-- these bytes.
pub record HasEndedAtFault {W : Type 0} {G : Ghosts W} (search : Search W G) (s : Sought) (taken : List ℕ) (handed : List (ℕ × ℕ)) (fault : TextFault) : Type 0 where
  pub reported : HasReported search fault
  pub answer : (text more : List ℕ) → IsCompiledFrom s text → answer_to s text (taken ++ more) ≡ record { ranges = handed; fault = Some fault }
  pub known : (more : List ℕ) → IsReported s (taken ++ more) handed (Some fault)

-- The bytes went in and the ranges were handed out: they are open, or they have ended at a fault.
abbrev pub IsUnderWay : {W : Type 0} {G : Ghosts W} → Search W G → Sought → List ℕ → List (ℕ × ℕ) → Type 0
IsUnderWay {W} {G} search s taken handed =
    (sought search ≡ s) × (HasSearched search taken handed ⊎ ((fault : TextFault) × HasEndedAtFault search s taken handed fault))

-- The words are those of a search that is under way.
pub record AreUnderWay {W : Type 0} (G : Ghosts W) (s : Sought) (words taken : List ℕ) (handed : List (ℕ × ℕ)) : Type 0 where
  pub saved : Search W G
  pub words_same : words ≡ words_of saved
  pub under_way : IsUnderWay saved s taken handed

-- From one state to the next: a search that was resumed from the words took the piece, handed out the ranges, and was saved as the
-- next words.
pub record IsTransition {W : Type 0} (G : Ghosts W) (s : Sought) (words piece : List ℕ) (found : List (ℕ × ℕ)) (next : List ℕ) : Type 0 where
  pub resumed : Search W G
  pub fed : Search W G
  pub result : Result (Unit {0}) TextFault
  pub goes_on : IsResumedFrom resumed s words
  pub feeds : Feeds resumed piece result found fed
  pub saved : next ≡ words_of fed

-- from the first words on, a state after each piece, up to the last one
unfoldable pub AreStates : {W : Type 0} → Ghosts W → Sought → List ℕ → List (Bor (List ℕ)) → List (List ℕ) → List ℕ → Type 0
AreStates G s first [] [] last = first ≡ last
AreStates G s first (piece ∷ pieces) (next ∷ states) last =
    ((found : List (ℕ × ℕ)) × IsTransition G s first piece.now found next) × AreStates G s next pieces states last
AreStates G s first _ _ last = ⊥

-- The states after the pieces, the first of which a search took that was resumed from the words of a new one.
pub record HasStates {W : Type 0} (G : Ghosts W) (s : Sought) (pieces : List (Bor (List ℕ))) (states : List (List ℕ)) (last : List ℕ) : Type 0 where
  pub begun : Search W G
  pub same : sought begun ≡ s
  pub stands : HasSearched begun [] []
  pub reached : AreStates G s (words_of begun) pieces states last

-- how many words the longest of these states has
unfoldable pub most_words : List (List ℕ) → ℕ
most_words [] = 0
most_words (words ∷ rest) = max (length words) (most_words rest)

-- ---- the states at the cuts, by the bytes alone

-- how many records the state after these bytes has
abbrev pub records_after : Sought → List ℕ → ℕ
records_after s u = let state = state_after s u in records_before s.select + (length state.places + (length state.window + length state.waiting))

-- how many the greatest of the states after each of these pieces has, where some bytes stand before them
unfoldable pub most_records_after : Sought → List ℕ → List (Bor (List ℕ)) → ℕ
most_records_after s u [] = 0
most_records_after s u (piece ∷ pieces) = max (records_after s (u ++ piece.now)) (most_records_after s (u ++ piece.now) pieces)
