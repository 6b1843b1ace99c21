-- A search that has taken one piece more.
use Rattle.std.specs.Prelude.{Result, Ok, Err, Some}
use Rattle.std.proofs.Common.{◌≡◌, ◌∙◌, ℕ, ◌≤◌, ◌^◌, true, List, [], ◌++◌, length, take, sym, ap, subst, append-nil, arith}
use Rattle.std.proofs.lemmas.List.{length-take}
use Rattle.std.proofs.lemmas.Bool.{leb-true, and_parts}
use Rattle.collation_table.specs.declared.lookup.Weights.{Ghosts}
use Rattle.collation_matches.specs.declared.faults.TextFault.{TextFault}
use Rattle.collation_search.specs.declared.search.Search.{Search}
use Rattle.collation_matches.specs.Answer.{Answer}
use Rattle.collation_search.specs.Feeding.{Feeds}
use Rattle.collation_matches.specs.GoodPrefix.{is_good_so_far}
use Rattle.collation_search.specs.Search.{HasSearched, sought}
use Rattle.collation_matches.specs.Sought.{IsCompiledFrom, Sought, answer_to}

-- the ranges are the first ones of the answer to the bytes
abbrev pub AreFirstOfTheAnswer : Sought → List ℕ → List ℕ → List (ℕ × ℕ) → Type 0
AreFirstOfTheAnswer s text bytes handed = (rest : List (ℕ × ℕ)) × ((answer_to s text bytes).ranges ≡ handed ++ rest)

pub open_short : (bytes : List ℕ) → is_good_so_far bytes ≡ true → length bytes ≤ 2 ^ 62
open_short bytes h = leb-true _ _ (and_parts _ _ (and_parts _ _ h).0).0

pub short_take : (n : ℕ) (xs : List ℕ) → length (take n xs) ≤ length xs
short_take n xs = omega (arith, length-take n xs)

module _ {W : Type 0} {G : Ghosts W} (old new : Search W G) (piece bytes : List ℕ) (handed found : List (ℕ × ℕ)) (stands : HasSearched old bytes handed) where
  pub answered : (f : TextFault) → Feeds old piece (Err f) found new → (text : List ℕ) → IsCompiledFrom (sought new) text →
      answer_to (sought new) text (bytes ++ piece) ≡ record { ranges = handed ++ found; fault = Some f }
  answered f fed text compiled =
      ap (λ (s : Sought). answer_to s text (bytes ++ piece)) fed.same_sought
      ∙ ap (answer_to (sought old) text) (sym (append-nil (bytes ++ piece)))
      ∙ fed.answer text bytes [] handed (subst (λ (s : Sought). IsCompiledFrom s text) fed.same_sought compiled) stands

  pub begun : (r : Result (Unit {0}) TextFault) → Feeds old piece r found new →
      ((text u later : List ℕ) (given : List (ℕ × ℕ)) → IsCompiledFrom (sought new) text → HasSearched new u given → AreFirstOfTheAnswer (sought new) text (u ++ later) given) →
      (text : List ℕ) → IsCompiledFrom (sought new) text → AreFirstOfTheAnswer (sought new) text (bytes ++ piece) (handed ++ found)
  begun (Ok a) fed law text compiled =
      let b = law text (bytes ++ piece) [] (handed ++ found) compiled (fed.stands bytes handed stands) in
      (b.0, ap (λ t. (answer_to (sought new) text t).ranges) (sym (append-nil (bytes ++ piece))) ∙ b.1)
  begun (Err f) fed law text compiled =
      ([], ap (λ (a : Answer). a.ranges) (answered f fed text compiled) ∙ sym (append-nil (handed ++ found)))
