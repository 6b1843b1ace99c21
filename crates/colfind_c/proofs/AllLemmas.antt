-- All ranges of a text, as a session finds them: begun again, fed, ended, handed over.
use Rattle.std.proofs.Common.{◌≡◌, ◌∙◌, ℕ, ◌≤◌, ◌<◌, List, [], ◌++◌, length, take, refl, sym, ap, subst, append-nil, ⊎_elim, Some, None}
use Rattle.std.proofs.lemmas.Bool.{cases_lt}
use Rattle.std.specs.Prelude.{Option, IsSome, is_some}
use Rattle.collation_matches.specs.declared.faults.TextFault.{TextFault}
use Rattle.collation_matches.specs.Sought.{IsCompiledFrom, answer_to}
use Rattle.colfind_c.specs.declared.owned.Session.{Session}
use Rattle.colfind_c.specs.declared.queue.Range.{Range}
use Rattle.colfind_c.specs.declared.outcome.Outcome.{Outcome}
use Rattle.colfind_c.specs.declared.outcome.Outcome.TheVariants.{Good, Table as TableFile, Pattern, Text, State, NoMemory, Partly, WrongHandle, Ended, Short, BadArgument}
use Rattle.colfind_c.specs.Queues.{pairs, waiting}
use Rattle.colfind_c.specs.Sessions.{sought_of, HasBegunAgain, FeedsSession, EndsSession, SearchesText, AreFound, IsListed, FillsWith, AreAllIn, AllInSession}
use Rattle.colfind_c.proofs.SessionLemmas.{is_some_parked, open_stays}

-- a text that is fed to a search at its beginning, and ended
module _ (s : Session) (text : List ℕ) (begun : HasBegunAgain s) where
  whole_text : (fault : Option TextFault) (s2 : Session) (p : List ℕ) → answer_to (sought_of s) p (text ++ []) ≡ record { ranges = waiting s2.queue; fault = fault }
      → answer_to (sought_of s) p text ≡ record { ranges = waiting s2.queue; fault = fault }
  whole_text fault s2 p is = subst (λ bytes. answer_to (sought_of s) p bytes ≡ record { ranges = waiting s2.queue; fault = fault }) (append-nil text) is

  pub still_going : (s1 : Session) → FeedsSession s text Good s1 → IsSome s1.parked
  still_going s1 fed = ap is_some (fed.fed [] [] begun.0).held

  pub text_ended : (outcome : Outcome) (s1 s2 : Session) → FeedsSession s text Good s1 → EndsSession s1 outcome s2 → SearchesText s text outcome s2
  text_ended Good s1 s2 fed done = record {
    searched = (
      done.going,
      λ p compiled. whole_text None s2 p (subst (λ z. answer_to z p (text ++ []) ≡ record { ranges = waiting s2.queue; fault = None }) fed.same
          (done.ended p text [] (subst (λ z. IsCompiledFrom z p) (sym fed.same) compiled) (fed.fed [] [] begun.0))),
    );
    same = done.same ∙ fed.same;
  }
  text_ended (Text f) s1 s2 fed done = record {
    searched = (
      done.going,
      λ p compiled. whole_text (Some f) s2 p (subst (λ z. answer_to z p (text ++ []) ≡ record { ranges = waiting s2.queue; fault = Some f }) fed.same
          (done.ended p text [] (subst (λ z. IsCompiledFrom z p) (sym fed.same) compiled) (fed.fed [] [] begun.0))),
    );
    same = done.same ∙ fed.same;
  }
  text_ended NoMemory s1 s2 fed done = record { searched = done.going; same = done.same ∙ fed.same }
  text_ended (TableFile f) s1 s2 fed done = absurd done.ended
  text_ended (Pattern f) s1 s2 fed done = absurd done.ended
  text_ended (State f) s1 s2 fed done = absurd done.ended
  text_ended (Partly n) s1 s2 fed done = absurd done.ended
  text_ended WrongHandle s1 s2 fed done = absurd done.ended
  text_ended Ended s1 s2 fed done = absurd done.ended
  text_ended (Short n) s1 s2 fed done = absurd done.ended
  text_ended BadArgument s1 s2 fed done = absurd done.ended

  pub text_refused : (n : ℕ) (s1 : Session) → FeedsSession s text (Partly n) s1 → SearchesText s text NoMemory s1
  text_refused n s1 fed = record { searched = ap is_some (fed.fed [] [] begun.0).held; same = fed.same }

  pub text_failed : (outcome : Outcome) (s1 : Session) → FeedsSession s text outcome s1 → (outcome ≡ Good → ⊥) → ((n : ℕ) → outcome ≡ Partly n → ⊥) → SearchesText s text outcome s1
  text_failed Good s1 fed good partly = absurd (good refl)
  text_failed (Partly n) s1 fed good partly = absurd (partly n refl)
  text_failed (Text f) s1 fed good partly = record {
    searched = (ap is_some fed.met.1, λ p compiled. whole_text (Some f) s1 p (fed.fed [] p [] [] compiled begun.0));
    same = fed.same;
  }
  text_failed (State f) s1 fed good partly = record {
    searched = (fed.fed.0, fed.fed.1, λ p compiled. fed.fed.2 p [] [] compiled begun.0);
    same = fed.same;
  }
  text_failed Ended s1 fed good partly = absurd (subst is_some_parked (sym begun.0.held ∙ fed.fed.0) tt)
  text_failed (TableFile f) s1 fed good partly = absurd fed.fed
  text_failed (Pattern f) s1 fed good partly = absurd fed.fed
  text_failed NoMemory s1 fed good partly = absurd fed.fed
  text_failed WrongHandle s1 fed good partly = absurd fed.fed
  text_failed (Short n) s1 fed good partly = absurd fed.fed
  text_failed BadArgument s1 fed good partly = absurd fed.fed

-- the ranges that were found are handed over
module _ (s s0 s1 s3 : Session) (text : List ℕ) (room count : ℕ) (out : List Range) (how : Outcome) (same0 : sought_of s0 ≡ sought_of s)
    (going : IsSome s.parked) (begun : HasBegunAgain s3) (same : sought_of s3 ≡ sought_of s1) (len : length out ≡ room) (size : count ≡ length (waiting s1.queue))
    (some : room < count → (how ≡ Short count) × (pairs out ≡ take room (waiting s1.queue))) where
  found_in : (fault : Option TextFault) → AreFound s0 text fault s1 → (p : List ℕ) → IsCompiledFrom (sought_of s) p
      → answer_to (sought_of s) p text ≡ record { ranges = waiting s1.queue; fault = fault }
  found_in fault found p compiled = subst (λ z. answer_to z p text ≡ record { ranges = waiting s1.queue; fault = fault }) same0
      (found.1 p (subst (λ z. IsCompiledFrom z p) (sym same0) compiled))

  too_many : (fault : Option TextFault) → AreFound s0 text fault s1 → room < count → AreAllIn s text out count (Short count) s3
  too_many fault found more = (
    begun,
    refl,
    subst (λ k. k < count) (sym len) more,
    λ p compiled. let is = found_in fault found p compiled in
        (ap (λ a. length a.ranges) is ∙ sym size, (some more).1 ∙ ap (λ k. take k (waiting s1.queue)) (sym len) ∙ ap (λ a. take (length out) a.ranges) (sym is)),
  )

  pub all_found : SearchesText s0 text Good s1 → (count ≤ room → (how ≡ Good) × (pairs (take count out) ≡ waiting s1.queue)) → AllInSession s text out count how s3
  all_found found all = record {
    all = ⊎_elim (λ more. subst (λ h. AreAllIn s text out count h s3) (sym (some more).0) (too_many None found.searched more))
        (λ few. subst (λ h. AreAllIn s text out count h s3) (sym (all few).0) (
          begun,
          subst (λ k. count ≤ k) (sym len) few,
          λ p compiled. found_in None found.searched p compiled ∙ ap (λ xs. record { ranges = xs; fault = None }) (sym (all few).1),
        )) (cases_lt room count);
    ended = open_stays s s3 going;
    same = same ∙ found.same ∙ same0;
  }

  pub all_found_at : (f : TextFault) → SearchesText s0 text (Text f) s1 → (count ≤ room → (how ≡ Text f) × (pairs (take count out) ≡ waiting s1.queue)) → AllInSession s text out count how s3
  all_found_at f found all = record {
    all = ⊎_elim (λ more. subst (λ h. AreAllIn s text out count h s3) (sym (some more).0) (too_many (Some f) found.searched more))
        (λ few. subst (λ h. AreAllIn s text out count h s3) (sym (all few).0) (
          begun,
          subst (λ k. count ≤ k) (sym len) few,
          λ p compiled. found_in (Some f) found.searched p compiled ∙ ap (λ xs. record { ranges = xs; fault = Some f }) (sym (all few).1),
        )) (cases_lt room count);
    ended = open_stays s s3 going;
    same = same ∙ found.same ∙ same0;
  }

-- a search that has no room for a range is of no text
pub none_found : (s s0 s1 : Session) (text : List ℕ) (out : List Range) (outcome : Outcome) → IsSome s.parked → sought_of s0 ≡ sought_of s → SearchesText s0 text outcome s1
    → (outcome ≡ Good → ⊥) → ((f : TextFault) → outcome ≡ Text f → ⊥) → (outcome ≡ NoMemory → ⊥) → AllInSession s text out 0 outcome s1
none_found s s0 s1 text out Good going same found good fault refused = absurd (good refl)
none_found s s0 s1 text out (Text f) going same found good fault refused = absurd (fault f refl)
none_found s s0 s1 text out NoMemory going same found good fault refused = absurd (refused refl)
none_found s s0 s1 text out (State f) going same found good fault refused = record {
  all = (refl, found.searched.0, found.searched.1, λ p compiled. found.searched.2 p (subst (λ z. IsCompiledFrom z p) (sym same) compiled));
  ended = open_stays s s1 going;
  same = found.same ∙ same;
}
none_found s s0 s1 text out (TableFile f) going same found good fault refused = absurd found.searched
none_found s s0 s1 text out (Pattern f) going same found good fault refused = absurd found.searched
none_found s s0 s1 text out (Partly n) going same found good fault refused = absurd found.searched
none_found s s0 s1 text out WrongHandle going same found good fault refused = absurd found.searched
none_found s s0 s1 text out Ended going same found good fault refused = absurd found.searched
none_found s s0 s1 text out (Short n) going same found good fault refused = absurd found.searched
none_found s s0 s1 text out BadArgument going same found good fault refused = absurd found.searched
