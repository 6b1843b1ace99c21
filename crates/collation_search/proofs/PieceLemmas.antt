-- A search that is under way takes a piece, goes on from its state, and ends.
use Rattle.std.specs.Prelude.{max, Result, OnOk, IfErr, Ok, Err, Option, None, Some}
use Rattle.std.specs.Borrow.{Bor}
use Rattle.std.specs.Result.{result_err}
use Rattle.std.proofs.Common.{◌≡◌, ◌∙◌, ◌<◌, ℕ, ◌+◌, List, [], ◌∷◌, ◌++◌, length, take, get_or, sym, ap, subst, refl, append_assoc, inl, inr, arith}
use Rattle.std.proofs.lemmas.List.{append-nil, take_more}
use Rattle.std.proofs.lemmas.Grind.{flat_map-append}
use Rattle.collation_table.specs.declared.lookup.Weights.{Ghosts}
use Rattle.collation_states.specs.declared.faults.StateFault.{StateFault}
use Rattle.collation_matches.specs.declared.faults.TextFault.{TextFault}
use Rattle.collation_search.specs.declared.search.Search.{Search}
use Rattle.collation_matches.specs.Answer.{Answer}
use Rattle.collation_search.specs.State.{words_of}
use Rattle.collation_search.specs.Search.{HasSearched, HasReported, sought}
use Rattle.collation_matches.specs.Sought.{IsCompiledFrom, Sought, answer_to}
use Rattle.collation_search.specs.Feeding.{Feeds}
use Rattle.collation_search.specs.Pieces.{joined, HasEndedAtFault, IsUnderWay, AreUnderWay, IsTransition, AreStates, HasStates, most_words}
use Rattle.collation_search.specs.Resuming.{IsResumedFrom, KeepsSaved}
use Rattle.collation_search.specs.StateAfter.{IsReported}

abbrev pub told : List (ℕ × ℕ) → Option TextFault → Answer
told ranges fault = record { ranges = ranges; fault = fault }

-- one piece more
pub joined-more : (pieces : List (Bor (List ℕ))) (i : ℕ) (piece : Bor (List ℕ)) → i < length pieces →
    joined (take (i + 1) pieces) ≡ joined (take i pieces) ++ (get_or pieces i piece).now
joined-more pieces i piece here =
    ap joined (take_more pieces i piece here)
    ∙ flat_map-append (λ (p : Bor (List ℕ)). p.now) (take i pieces) (get_or pieces i piece ∷ [])
    ∙ ap (λ (t : List ℕ). joined (take i pieces) ++ t) (append-nil (get_or pieces i piece).now)

-- the longest with one state more
pub most-more : (states : List (List ℕ)) (words : List ℕ) → most_words (states ++ words ∷ []) ≡ max (most_words states) (length words)
unfolding most_words
most-more [] words = omega arith
most-more (first ∷ rest) words = let e = most-more rest words in omega (arith, e)

module _ {W : Type 0} {G : Ghosts W} where
  -- a piece that a search without a fault has taken
  under_way-open : (old new : Search W G) (piece : List ℕ) (r : Result (Unit {0}) TextFault) (found : List (ℕ × ℕ)) → Feeds old piece r found new →
      (u : List ℕ) (handed : List (ℕ × ℕ)) → HasSearched old u handed → IsUnderWay new (sought old) (u ++ piece) (handed ++ found)
  under_way-open old new piece (Ok done) found fed u handed h = (fed.same_sought, inl (fed.stands u handed h))
  under_way-open old new piece (Err f) found fed u handed h =
      (fed.same_sought, inr (f, record { reported = fed.reported; answer = λ text more compiled. fed.answer text u more handed compiled h; known = λ more. fed.ended u more handed h }))

  -- a piece that a search after a fault is given
  under_way-ended : (old new : Search W G) (piece : List ℕ) (r : Result (Unit {0}) TextFault) (found : List (ℕ × ℕ)) → Feeds old piece r found new →
      (u : List ℕ) (handed : List (ℕ × ℕ)) (f : TextFault) → HasEndedAtFault old (sought old) u handed f → IsUnderWay new (sought old) (u ++ piece) (handed ++ found)
  under_way-ended old new piece r found fed u handed f h =
      let again = fed.again f h.reported in
      let told = subst (λ (t : Result (Unit {0}) TextFault). IfErr t (λ g. HasReported new g)) again.0 fed.reported in
      let same : handed ++ found ≡ handed = ap (λ (t : List (ℕ × ℕ)). handed ++ t) again.1 ∙ append-nil handed in (
        fed.same_sought,
        inr (
          f,
          record {
            reported = told;
            answer = λ text more compiled.
                ap (λ t. answer_to (sought old) text t) (append_assoc u piece more)
                ∙ h.answer text (piece ++ more) compiled
                ∙ ap (λ (t : List (ℕ × ℕ)). let z : Answer = record { ranges = t; fault = Some f } in z) (sym same);
            known = λ more.
                subst (λ t. IsReported (sought old) t (handed ++ found) (Some f)) (sym (append_assoc u piece more))
                (subst (λ (t : List (ℕ × ℕ)). IsReported (sought old) (u ++ (piece ++ more)) t (Some f)) (sym same) (h.known (piece ++ more)));
          },
        ),
      )

  under_way-at : (old new : Search W G) (piece : List ℕ) (r : Result (Unit {0}) TextFault) (found : List (ℕ × ℕ)) → Feeds old piece r found new →
      (u : List ℕ) (handed : List (ℕ × ℕ)) → IsUnderWay old (sought old) u handed → IsUnderWay new (sought old) (u ++ piece) (handed ++ found)
  under_way-at old new piece r found fed u handed (same, inl h) = under_way-open old new piece r found fed u handed h
  under_way-at old new piece r found fed u handed (same, inr h) = under_way-ended old new piece r found fed u handed h.0 h.1

  -- a search that is under way takes a piece
  pub under_way-fed : (old new : Search W G) (piece : List ℕ) (r : Result (Unit {0}) TextFault) (found : List (ℕ × ℕ)) → Feeds old piece r found new →
      (s : Sought) (u : List ℕ) (handed : List (ℕ × ℕ)) → IsUnderWay old s u handed → IsUnderWay new s (u ++ piece) (handed ++ found)
  under_way-fed old new piece r found fed s u handed h =
      let here = subst (λ (t : Sought). IsUnderWay old t u handed) (sym h.0) h in
      subst (λ (t : Sought). IsUnderWay new t (u ++ piece) (handed ++ found)) h.0 (under_way-at old new piece r found fed u handed here)

  -- what was resumed from the words of a search that is under way is under way
  pub under_way-resumed : (saved resumed : Search W G) (s : Sought) (words : List ℕ) → words ≡ words_of saved → IsResumedFrom resumed s words →
      (u : List ℕ) (handed : List (ℕ × ℕ)) → IsUnderWay saved s u handed → IsUnderWay resumed s u handed
  under_way-resumed saved resumed s words same on u handed (sought_same, inl h) = (on.same, inl (on.stands saved u handed (sought_same, same, h)))
  under_way-resumed saved resumed s words same on u handed (sought_same, inr h) =
      (on.same, inr (h.0, record { reported = on.reported saved h.0 (sought_same, same, h.1.reported); answer = h.1.answer; known = h.1.known }))

  ends-open : (last : Search W G) (text u : List ℕ) (handed found : List (ℕ × ℕ)) (r : Result (Unit {0}) TextFault) →
      OnOk r (answer_to (sought last) text u ≡ record { ranges = handed ++ found; fault = None }) →
      IfErr r (λ f. answer_to (sought last) text u ≡ record { ranges = handed ++ found; fault = Some f }) →
      answer_to (sought last) text u ≡ told (handed ++ found) (result_err r)
  ends-open last text u handed found (Ok done) good bad = good
  ends-open last text u handed found (Err f) good bad = bad

  ends-ended : (last : Search W G) (s : Sought) (text u : List ℕ) (handed found : List (ℕ × ℕ)) (r : Result (Unit {0}) TextFault) (f : TextFault) →
      r ≡ Err f → found ≡ [] → IsCompiledFrom s text → HasEndedAtFault last s u handed f →
      answer_to s text u ≡ told (handed ++ found) (result_err r)
  ends-ended last s text u handed found r f same none compiled h =
      ap (λ t. answer_to s text t) (sym (append-nil u))
      ∙ h.answer text [] compiled
      ∙ ap (λ (t : List (ℕ × ℕ)). told t (Some f)) (sym (ap (λ (t : List (ℕ × ℕ)). handed ++ t) none ∙ append-nil handed))
      ∙ ap (λ (t : Result (Unit {0}) TextFault). told (handed ++ found) (result_err t)) (sym same)

  ends-at : (last : Search W G) (text u : List ℕ) (handed found : List (ℕ × ℕ)) (r : Result (Unit {0}) TextFault) →
      ((text u : List ℕ) (handed : List (ℕ × ℕ)) → IsCompiledFrom (sought last) text → HasSearched last u handed
      → OnOk r (answer_to (sought last) text u ≡ record { ranges = handed ++ found; fault = None })) →
      ((text u : List ℕ) (handed : List (ℕ × ℕ)) → IsCompiledFrom (sought last) text → HasSearched last u handed
      → IfErr r (λ f. answer_to (sought last) text u ≡ record { ranges = handed ++ found; fault = Some f })) →
      ((f : TextFault) → HasReported last f → (r ≡ Err f) × (found ≡ [])) →
      IsCompiledFrom (sought last) text → IsUnderWay last (sought last) u handed →
      answer_to (sought last) text u ≡ told (handed ++ found) (result_err r)
  ends-at last text u handed found r good bad again compiled (same, inl h) =
      ends-open last text u handed found r (good text u handed compiled h) (bad text u handed compiled h)
  ends-at last text u handed found r good bad again compiled (same, inr h) =
      let e = again h.0 h.1.reported in ends-ended last (sought last) text u handed found r h.0 e.0 e.1 compiled h.1

  -- a search that is under way ends
  pub under_way-ends : (last : Search W G) (text u : List ℕ) (handed found : List (ℕ × ℕ)) (r : Result (Unit {0}) TextFault) →
      ((text u : List ℕ) (handed : List (ℕ × ℕ)) → IsCompiledFrom (sought last) text → HasSearched last u handed
      → OnOk r (answer_to (sought last) text u ≡ record { ranges = handed ++ found; fault = None })) →
      ((text u : List ℕ) (handed : List (ℕ × ℕ)) → IsCompiledFrom (sought last) text → HasSearched last u handed
      → IfErr r (λ f. answer_to (sought last) text u ≡ record { ranges = handed ++ found; fault = Some f })) →
      ((f : TextFault) → HasReported last f → (r ≡ Err f) × (found ≡ [])) →
      (s : Sought) → IsUnderWay last s u handed → IsCompiledFrom s text → answer_to s text u ≡ told (handed ++ found) (result_err r)
  under_way-ends last text u handed found r good bad again s h compiled =
      subst (λ (t : Sought). answer_to t text u ≡ told (handed ++ found) (result_err r)) h.0
      (ends-at last text u handed found r good bad again (subst (λ (t : Sought). IsCompiledFrom t text) (sym h.0) compiled)
      (subst (λ (t : Sought). IsUnderWay last t u handed) (sym h.0) h))

  -- what goes on from the words of a search that is under way is under way
  pub under_way-on : (s : Sought) (words u : List ℕ) (handed : List (ℕ × ℕ)) (resumed : Search W G) → IsResumedFrom resumed s words → AreUnderWay G s words u handed → IsUnderWay resumed s u handed
  under_way-on s words u handed resumed on h = under_way-resumed h.saved resumed s words h.words_same on u handed h.under_way

  -- the words of a new search
  pub under_way-begun : (s : Sought) (words : List ℕ) → HasStates G s [] [] words → AreUnderWay G s words [] []
  unfolding AreStates
  under_way-begun s words h = record { saved = h.begun; words_same = sym h.reached; under_way = (h.same, inl h.stands) }

  -- from one state to the next
  pub under_way-passed : (s : Sought) (words piece next u : List ℕ) (handed found : List (ℕ × ℕ)) → IsTransition G s words piece found next →
      AreUnderWay G s words u handed → AreUnderWay G s next (u ++ piece) (handed ++ found)
  under_way-passed s words piece next u handed found p h = record {
    saved = p.fed;
    words_same = p.saved;
    under_way = under_way-fed p.resumed p.fed piece p.result found p.feeds s u handed (under_way-on s words u handed p.resumed p.goes_on h);
  }

  -- one piece more of those before
  pub under_way-more : (s : Sought) (pieces : List (Bor (List ℕ))) (i : ℕ) (piece : Bor (List ℕ)) (words next : List ℕ) (handed found : List (ℕ × ℕ)) → i < length pieces →
      IsTransition G s words (get_or pieces i piece).now found next →
      AreUnderWay G s words (joined (take i pieces)) handed → AreUnderWay G s next (joined (take (i + 1) pieces)) (handed ++ found)
  under_way-more s pieces i piece words next handed found here passed h =
      subst (λ (t : List ℕ). AreUnderWay G s next t (handed ++ found)) (sym (joined-more pieces i piece here))
      (under_way-passed s words (get_or pieces i piece).now next (joined (take i pieces)) handed found passed h)

  -- one state more behind the others
  states-more : (s : Sought) (first : List ℕ) (pieces : List (Bor (List ℕ))) (states : List (List ℕ)) (last : List ℕ) (piece : Bor (List ℕ)) (found : List (ℕ × ℕ)) (next : List ℕ) →
      AreStates G s first pieces states last → IsTransition G s last piece.now found next → AreStates G s first (pieces ++ piece ∷ []) (states ++ next ∷ []) next
  unfolding AreStates
  states-more s first [] [] last piece found next h p = ((found, subst (λ (t : List ℕ). IsTransition G s t piece.now found next) (sym h) p), refl)
  states-more s first (q ∷ pieces) (words ∷ states) last piece found next h p = (h.0, states-more s words pieces states last piece found next h.1 p)
  states-more s first [] (words ∷ states) last piece found next h p = elim h [ ]
  states-more s first (q ∷ pieces) [] last piece found next h p = elim h [ ]

  pub has_states-more : (s : Sought) (pieces : List (Bor (List ℕ))) (i : ℕ) (piece : Bor (List ℕ)) (states : List (List ℕ)) (last : List ℕ) (found : List (ℕ × ℕ)) (next : List ℕ) → i < length pieces →
      HasStates G s (take i pieces) states last → IsTransition G s last (get_or pieces i piece).now found next →
      HasStates G s (take (i + 1) pieces) (states ++ next ∷ []) next
  has_states-more s pieces i piece states last found next here h p = record {
    begun = h.begun;
    same = h.same;
    stands = h.stands;
    reached = subst (λ (t : List (Bor (List ℕ))). AreStates G s (words_of h.begun) t (states ++ next ∷ []) next) (sym (take_more pieces i piece here))
        (states-more s (words_of h.begun) (take i pieces) states last (get_or pieces i piece) found next h.reached p);
  }

  saved-kept : (saved : Search W G) (result : Result (Search W G) StateFault) (s : Sought) (words : List ℕ) → words ≡ words_of saved → KeepsSaved result s words →
      (u : List ℕ) (handed : List (ℕ × ℕ)) → IsUnderWay saved s u handed → IfErr result (λ f. f.kind ≡ 53)
  saved-kept saved result s words same kept u handed (sought_same, inl h) = kept.searched saved u handed (sought_same, same, h)
  saved-kept saved result s words same kept u handed (sought_same, inr h) = kept.reported saved h.0 (sought_same, same, h.1.reported)

  -- the words of a search that is under way are refused for want of memory only
  pub under_way-kept : (s : Sought) (words u : List ℕ) (handed : List (ℕ × ℕ)) (result : Result (Search W G) StateFault) →
      KeepsSaved result s words → AreUnderWay G s words u handed → IfErr result (λ f. f.kind ≡ 53)
  under_way-kept s words u handed result kept h = saved-kept h.saved result s words h.words_same kept u handed h.under_way
