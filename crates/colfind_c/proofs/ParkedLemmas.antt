-- What a search does that is taken up before a call and put away after it.
use Rattle.std.proofs.Common.{refl, append_assoc, ◌≡◌, ◌∙◌, ℕ, ◌+◌, ◌≤◌, List, [], ◌++◌, length, Contains, sym, ap, subst, append-nil, Some}
use Rattle.std.specs.Prelude.{Result, Ok, Err, OnOk, IfErr}
use Rattle.std.specs.Prelude.{take, drop}
use Rattle.std.proofs.lemmas.List.{take-append-drop}
use Rattle.std.specs.Str.{chars, IsUtf8}
use Rattle.utf8_cut.specs.Characters.{characters_end}
use Rattle.nfd_points.specs.declared.limits.TheConstants.{MOST_WAITING}
use Rattle.collation_table.specs.declared.lookup.Weights.{Ghosts}
use Rattle.collation_table.specs.Table.{longest_mapped}
use Rattle.collation_matches.specs.GoodPrefix.{whole}
use Rattle.collation_matches.specs.Lag.{code_points_from}
use Rattle.collation_matches.specs.declared.faults.TextFault.{TextFault}
use Rattle.collation_matches.specs.Sought.{Sought, IsCompiledFrom, answer_to}
use Rattle.collation_search.specs.declared.parking.Parked.{Parked}
use Rattle.collation_search.specs.declared.search.Search.{Search}
use Rattle.collation_search.specs.Feeding.{Feeds}
use Rattle.collation_search.specs.Search.{sought, HasSearched, HasReported}
use Rattle.collation_search.specs.Parking.{HasParked, parked_fault}
use Rattle.colfind_c.specs.Parkings.{FeedsInParts, FeedsParked, most_found_late}
use Rattle.colfind_c.proofs.FewFound.{few_found}

-- what follows from a good result
pub on_ok : {A E P Q : Type 0} (r : Result A E) → (P → Q) → OnOk r P → OnOk r Q
on_ok (Ok a) f p = f p
on_ok (Err e) f p = tt

-- what follows from a fault
pub on_err : {A E : Type 0} {P Q : E → Type 0} (r : Result A E) → ((e : E) → P e → Q e) → IfErr r P → IfErr r Q
on_err (Ok a) f p = tt
on_err (Err e) f p = f e p

module _ {W : Type 0} {G : Ghosts W} (s : Sought) (old : Parked) (before : Search W G) (same : sought before ≡ s)
    (into : (u : List ℕ) (handed : List (ℕ × ℕ)) → HasParked (sought before) old u handed → HasSearched before u handed) where
  pub taken_up : (u : List ℕ) (handed : List (ℕ × ℕ)) → HasParked s old u handed → HasSearched before u handed
  taken_up u handed h = into u handed (subst (λ t. HasParked t old u handed) (sym same) h)

  pub fed : (new : Parked) (after : Search W G) (piece : List ℕ) (result : Result (Unit {0}) TextFault) (found : List (ℕ × ℕ))
      → before.fault ≡ parked_fault old → parked_fault new ≡ after.fault → FeedsInParts before piece result found after
      → ((text u : List ℕ) (handed : List (ℕ × ℕ)) → IsCompiledFrom (sought before) text → HasSearched before u handed → length found ≤ length piece + most_found_late)
      → ((u : List ℕ) (handed : List (ℕ × ℕ)) → HasSearched after u handed → HasParked (sought after) new u handed)
      → FeedsParked s old piece result found new
  fed new after piece result found told kept feeds few out = record {
    stands = λ u handed h. on_ok result (λ k. subst (λ t. HasParked t new (u ++ piece) (handed ++ found)) (feeds.same_sought ∙ same) (out (u ++ piece) (handed ++ found) k)) (feeds.stands u handed (taken_up u handed h));
    answer = λ text u more handed compiled h. subst (λ t. IfErr result (λ f. answer_to t text ((u ++ piece) ++ more) ≡ record { ranges = handed ++ found; fault = Some f })) same
        (feeds.answer text u more handed (subst (λ t. IsCompiledFrom t text) (sym same) compiled) (taken_up u handed h));
    again = λ f is. feeds.again f (told ∙ is);
    reported = on_err result (λ f r. kept ∙ r) feeds.reported;
    few = λ text u handed compiled h. few text u handed (subst (λ t. IsCompiledFrom t text) (sym same) compiled) (taken_up u handed h);
  }

-- what a piece made known is not much more than it has bytes
module _ {W : Type 0} {G : Ghosts W} (before after : Search W G) (short : longest_mapped (sought before).table ≤ 64)
    (text : (bytes : List ℕ) → IsUtf8 (take (characters_end bytes) bytes))
    (in_time : (p u later : List ℕ) (handed : List (ℕ × ℕ)) (range : ℕ × ℕ) → IsCompiledFrom (sought before) p → HasSearched before u handed
    → longest_mapped (sought before).table + (MOST_WAITING + 1) ≤ code_points_from range.1 (chars (whole u))
    → Contains (answer_to (sought before) p (u ++ later)).ranges range → Contains handed range)
    (begins : (p u later : List ℕ) (handed : List (ℕ × ℕ)) → IsCompiledFrom (sought after) p → HasSearched after u handed
    → (rest : List (ℕ × ℕ)) × ((answer_to (sought after) p (u ++ later)).ranges ≡ handed ++ rest)) where
  pub few_known : (piece : List ℕ) (result : Result (Unit {0}) TextFault) (found : List (ℕ × ℕ)) → FeedsInParts before piece result found after
      → (p u : List ℕ) (handed : List (ℕ × ℕ)) → IsCompiledFrom (sought before) p → HasSearched before u handed → length found ≤ length piece + most_found_late
  few_known piece (Ok done) found feeds p u handed compiled h =
      let rest = begins p (u ++ piece) [] (handed ++ found) (subst (λ t. IsCompiledFrom t p) (sym feeds.same_sought) compiled) (feeds.stands u handed h) in
      let is = subst (λ t. (answer_to t p ((u ++ piece) ++ [])).ranges ≡ (handed ++ found) ++ rest.0) feeds.same_sought rest.1 in
      few_found (sought before) short p u piece handed found rest.0 (text u) h.open_bytes (λ range enough among. in_time p u piece handed range compiled h enough among)
      (subst (λ bytes. (answer_to (sought before) p bytes).ranges ≡ (handed ++ found) ++ rest.0) (append-nil (u ++ piece)) is)
  few_known piece (Err f) found feeds p u handed compiled h =
      let is = ap (λ a. a.ranges) (feeds.answer p u [] handed compiled h) in
      few_found (sought before) short p u piece handed found [] (text u) h.open_bytes (λ range enough among. in_time p u piece handed range compiled h enough among)
      (subst (λ bytes. (answer_to (sought before) p bytes).ranges ≡ (handed ++ found) ++ []) (append-nil (u ++ piece)) (is ∙ sym (append-nil (handed ++ found))))

-- ---- the parts of a piece

-- the search took these bytes without a fault
pub record HasGoneOn {W : Type 0} {G : Ghosts W} (old : Search W G) (done : List ℕ) (found : List (ℕ × ℕ)) (new : Search W G) : Type 0 where
  pub stands : (u : List ℕ) (handed : List (ℕ × ℕ)) → HasSearched old u handed → HasSearched new (u ++ done) (handed ++ found)
  pub again : (f : TextFault) → HasReported old f → HasReported new f × (found ≡ [])
  pub same_sought : sought new ≡ sought old

pub goes_nowhere : {W : Type 0} {G : Ghosts W} (s : Search W G) → HasGoneOn s [] [] s
goes_nowhere s = record {
  stands = λ u handed h. subst (λ xs. HasSearched s xs (handed ++ [])) (sym (append-nil u)) (subst (λ xs. HasSearched s u xs) (sym (append-nil handed)) h);
  again = λ f r. (r, refl);
  same_sought = refl;
}

abbrev is_ok : {A E : Type 0} → Result A E → Type 0
is_ok (Ok a) = Unit {0}
is_ok (Err e) = ⊥

module _ {W : Type 0} {G : Ghosts W} (old here new : Search W G) (done chunk : List ℕ) (found1 found2 : List (ℕ × ℕ)) (before : HasGoneOn old done found1 here) where
  pub goes_further : (a : Unit {0}) → Feeds here chunk (Ok a) found2 new → HasGoneOn old (done ++ chunk) (found1 ++ found2) new
  goes_further a fed = record {
    stands = λ u handed h. subst (λ xs. HasSearched new xs (handed ++ (found1 ++ found2))) (append_assoc u done chunk)
        (subst (λ xs. HasSearched new ((u ++ done) ++ chunk) xs) (append_assoc handed found1 found2) (fed.stands (u ++ done) (handed ++ found1) (before.stands u handed h)));
    again = λ f r. let no = fed.again f (before.again f r).0 in absurd (subst is_ok no.0 tt);
    same_sought = fed.same_sought ∙ before.same_sought;
  }

  again_so : (result : Result (Unit {0}) TextFault) → Feeds here chunk result found2 new → (f : TextFault) → HasReported old f → (result ≡ Err f) × (found1 ++ found2 ≡ [])
  again_so result fed f r = let b = before.again f r in let a = fed.again f b.0 in (a.0, ap (λ xs. xs ++ found2) b.1 ∙ a.1)

  answered_so : (f : TextFault) (later : List ℕ) → Feeds here chunk (Err f) found2 new
      → (text u more : List ℕ) (handed : List (ℕ × ℕ)) → IsCompiledFrom (sought old) text → HasSearched old u handed
      → answer_to (sought old) text ((u ++ (done ++ (chunk ++ later))) ++ more) ≡ record { ranges = handed ++ (found1 ++ found2); fault = Some f }
  answered_so f later fed text u more handed compiled h =
      let bytes : ((u ++ done) ++ chunk) ++ (later ++ more) ≡ (u ++ (done ++ (chunk ++ later))) ++ more
      = sym (append_assoc ((u ++ done) ++ chunk) later more)
      ∙ ap (λ xs. xs ++ more) (append_assoc (u ++ done) chunk later ∙ append_assoc u done (chunk ++ later)) in
      subst (λ xs. answer_to (sought old) text xs ≡ record { ranges = handed ++ (found1 ++ found2); fault = Some f }) bytes
      (subst (λ xs. answer_to (sought old) text (((u ++ done) ++ chunk) ++ (later ++ more)) ≡ record { ranges = xs; fault = Some f }) (append_assoc handed found1 found2)
      (subst (λ t. answer_to t text (((u ++ done) ++ chunk) ++ (later ++ more)) ≡ record { ranges = (handed ++ found1) ++ found2; fault = Some f }) before.same_sought
      (fed.answer text (u ++ done) (later ++ more) (handed ++ found1) (subst (λ t. IsCompiledFrom t text) (sym before.same_sought) compiled) (before.stands u handed h))))

  -- a fault ends the piece
  pub goes_wrong : (f : TextFault) (later piece : List ℕ) → piece ≡ done ++ (chunk ++ later) → Feeds here chunk (Err f) found2 new → FeedsInParts old piece (Err f) (found1 ++ found2) new
  goes_wrong f later piece is fed = record {
    stands = λ u handed h. tt;
    answer = λ text u more handed compiled h.
        subst (λ xs. answer_to (sought old) text ((u ++ xs) ++ more) ≡ record { ranges = handed ++ (found1 ++ found2); fault = Some f }) (sym is) (answered_so f later fed text u more handed compiled h);
    again = again_so (Err f) fed;
    reported = fed.reported;
    same_sought = fed.same_sought ∙ before.same_sought;
  }

  -- the last part ends it
  pub goes_to_the_end : (result : Result (Unit {0}) TextFault) (piece : List ℕ) → piece ≡ done ++ chunk → Feeds here chunk result found2 new → FeedsInParts old piece result (found1 ++ found2) new
  goes_to_the_end (Ok a) piece is fed = let gone = goes_further a fed in record {
    stands = λ u handed h. subst (λ xs. HasSearched new (u ++ xs) (handed ++ (found1 ++ found2))) (sym is) (gone.stands u handed h);
    answer = λ text u more handed compiled h. tt;
    again = again_so (Ok a) fed;
    reported = tt;
    same_sought = gone.same_sought;
  }
  goes_to_the_end (Err f) piece is fed = goes_wrong f [] piece (is ∙ ap (λ xs. done ++ xs) (sym (append-nil chunk))) fed

-- a part at the front of the rest of a piece
pub parts_of : (piece done rest chunk later : List ℕ) (n : ℕ) → piece ≡ done ++ rest → chunk ≡ take n rest → later ≡ drop n rest → piece ≡ done ++ (chunk ++ later)
parts_of piece done rest chunk later n is front back = is
    ∙ ap (λ xs. done ++ xs) (sym (take-append-drop n rest) ∙ ap (λ xs. xs ++ drop n rest) (sym front) ∙ ap (λ xs. chunk ++ xs) (sym back))
