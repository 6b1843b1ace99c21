-- The state of a search that is under way is that after its bytes; so are its words, and the number of their records.
use Rattle.std.specs.Borrow.{Bor}
use Rattle.std.proofs.Common.{◌≡◌, ◌∙◌, ℕ, ◌+◌, ◌*◌, ◌<◌, max, List, [], ◌∷◌, ◌++◌, length, take, get_or, refl, sym, ap, subst, inl, inr, arith, append_assoc}
use Rattle.std.proofs.lemmas.List.{append-nil, take_more}
use Rattle.collation_table.specs.declared.lookup.Weights.{Ghosts}
use Rattle.collation_matches.specs.declared.faults.TextFault.{TextFault}
use Rattle.collation_matches.specs.declared.select.Select.{Select}
use Rattle.collation_matches.specs.declared.select.Select.TheVariants.{All, Chain}
use Rattle.collation_matches.specs.Sought.{Sought}
use Rattle.collation_states.specs.Laws.{StatesAreRecords}
use Rattle.collation_states.specs.State.{words}
use Rattle.collation_states.specs.StateTests.{head_len}
use Rattle.collation_search.specs.declared.search.Search.{Search}
use Rattle.collation_search.specs.Pieces.{joined, HasEndedAtFault, IsUnderWay, AreUnderWay, records_after, most_records_after}
use Rattle.collation_search.specs.Saving.{records_before}
use Rattle.collation_search.specs.Search.{sought, HasSearched}
use Rattle.collation_search.specs.State.{sizes_of, state_of, words_of}
use Rattle.collation_search.specs.StateAfter.{fault_so_far, reported_after, state_at, state_after}
use Rattle.collation_search.proofs.PieceLemmas.{joined-more}
use Rattle.collation_search.proofs.StateLemmas.{StateLaws, reported-known, fault-known, state-known}

module _ {W : Type 0} {G : Ghosts W} where
  -- what it has handed out, its state and its words
  pub record IsKnown (search : Search W G) (s : Sought) (u : List ℕ) (handed : List (ℕ × ℕ)) : Type 0 where
    pub handed_is : handed ≡ reported_after s u
    pub state_is : state_of search.query.pattern.now search.cut search.finder.value search.fault ≡ state_after s u
    pub words_are : words_of search ≡ words (sizes_of s) (state_after s u)

  known-open : StateLaws → (search : Search W G) (u : List ℕ) (handed : List (ℕ × ℕ)) → HasSearched search u handed → IsKnown search (sought search) u handed
  known-open laws search u handed h =
      let s = sought search in
      let none = fault-known laws s search.cut search.finder.value search.fault u handed h refl in
      let state : state_of s.pattern search.cut search.finder.value search.fault ≡ state_after s u =
      ap (state_of s.pattern search.cut search.finder.value) h.no_fault ∙ state-known laws s search.cut search.finder.value search.fault u handed h refl ∙ ap (state_at s u) none in
      record {
        handed_is = reported-known laws s search.cut search.finder.value search.fault u handed h refl;
        state_is = state;
        words_are = ap (words (sizes_of s)) state;
      }

  known-ended : (search : Search W G) (u : List ℕ) (handed : List (ℕ × ℕ)) (fault : TextFault) → HasEndedAtFault search (sought search) u handed fault → IsKnown search (sought search) u handed
  known-ended search u handed fault h =
      let s = sought search in
      let here = h.known [] in
      let state : state_of s.pattern search.cut search.finder.value search.fault ≡ state_after s u =
      ap (state_of s.pattern search.cut search.finder.value) h.reported ∙ ap (state_at s u) (here.1 ∙ ap fault_so_far (append-nil u)) in
      record {
        handed_is = here.0 ∙ ap (reported_after s) (append-nil u);
        state_is = state;
        words_are = ap (words (sizes_of s)) state;
      }

  known-at : StateLaws → (search : Search W G) (u : List ℕ) (handed : List (ℕ × ℕ)) → IsUnderWay search (sought search) u handed → IsKnown search (sought search) u handed
  known-at laws search u handed (same, inl h) = known-open laws search u handed h
  known-at laws search u handed (same, inr h) = known-ended search u handed h.0 h.1

  pub under_way-known : StateLaws → (search : Search W G) (s : Sought) (u : List ℕ) (handed : List (ℕ × ℕ)) → IsUnderWay search s u handed → IsKnown search s u handed
  under_way-known laws search s u handed h =
      subst (λ t. IsKnown search t u handed) h.0 (known-at laws search u handed (subst (λ t. IsUnderWay search t u handed) (sym h.0) h))

-- ---- how many records

head_len-records : (select : Select) → head_len select ≡ 4 * records_before select
head_len-records All = refl
head_len-records Chain = refl

pub under_way-records : {W : Type 0} {G : Ghosts W} → StateLaws → StatesAreRecords → (s : Sought) (all u : List ℕ) (handed : List (ℕ × ℕ)) → AreUnderWay G s all u handed → length all ≡ 4 * records_after s u
under_way-records laws records s all u handed h =
    let known = under_way-known laws h.saved s u handed h.under_way in
    let same = ap length (h.words_same ∙ known.words_are) in
    omega (arith, same, records (sizes_of s) (state_after s u), head_len-records s.select)

pub none-more : (s : Sought) → 0 ≡ most_records_after s [] []
unfolding most_records_after
none-more s = refl

-- with one piece more
most_records-append : (s : Sought) (u : List ℕ) (pieces : List (Bor (List ℕ))) (piece : Bor (List ℕ)) →
    most_records_after s u (pieces ++ piece ∷ []) ≡ max (most_records_after s u pieces) (records_after s ((u ++ joined pieces) ++ piece.now))
unfolding most_records_after
most_records-append s u [] piece = let same = ap (λ t. records_after s (t ++ piece.now)) (append-nil u) in omega (arith, same)
most_records-append s u (first ∷ pieces) piece =
    let rest = most_records-append s (u ++ first.now) pieces piece in
    let same = ap (λ t. records_after s (t ++ piece.now)) (append_assoc u first.now (joined pieces)) in
    omega (arith, rest, same)

pub most_records-more : (s : Sought) (pieces : List (Bor (List ℕ))) (i : ℕ) (piece : Bor (List ℕ)) → i < length pieces →
    most_records_after s [] (take (i + 1) pieces) ≡ max (most_records_after s [] (take i pieces)) (records_after s (joined (take (i + 1) pieces)))
most_records-more s pieces i piece here =
    let all = ap (most_records_after s []) (take_more pieces i piece here) ∙ most_records-append s [] (take i pieces) (get_or pieces i piece) in
    let same = ap (records_after s) (joined-more pieces i piece here) in
    omega (arith, all, same)
