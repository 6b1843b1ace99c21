-- A session before and after a call of its search.
use Rattle.std.proofs.Common.{◌≡◌, ◌∙◌, ℕ, ◌+◌, ◌-◌, ◌≤◌, List, [], ◌++◌, length, min, take, drop, refl, sym, ap, subst, append_assoc, append-nil, take-add, arith, true, false, Some, None}
use Rattle.std.proofs.lemmas.List.{take-append-drop}
use Rattle.std.specs.Prelude.{Result, Ok, Err, Option, IsSome, OnOk, is_some, is_err, T, MatchResult}
use Rattle.std.specs.Arc.{arc_value}
use Rattle.collation_table.specs.declared.table.Table.{Table}
use Rattle.collation_table.specs.contracts.table.TableWeights.TheImpl.{ghosts as weights}
use Rattle.collation_matches.specs.declared.faults.TextFault.{TextFault}
use Rattle.collation_matches.specs.declared.select.Select.{Select}
use Rattle.collation_states.specs.declared.faults.StateFault.{StateFault}
use Rattle.collation_matches.specs.Sought.{Sought, IsCompiledFrom, answer_to, settled_in}
use Rattle.collation_matches.specs.GoodPrefix.{whole}
use Rattle.collation_search.specs.declared.parking.Parked.{Parked}
use Rattle.collation_search.specs.Parking.{IsFor, HasParked, parked_fault, parked_select, parked_words}
use Rattle.collation_search.specs.Saving.{HasRecords, most_records}
use Rattle.colfind_c.specs.declared.owned.Query.{Query}
use Rattle.colfind_c.specs.declared.owned.Session.{Session}
use Rattle.colfind_c.specs.declared.queue.Queue.{Queue}
use Rattle.colfind_c.specs.declared.queue.Range.{Range}
use Rattle.colfind_c.specs.declared.outcome.Outcome.{Outcome}
use Rattle.colfind_c.specs.declared.outcome.Outcome.TheVariants.{Good, Table as TableFile, Pattern, Text, State, NoMemory, Partly, WrongHandle, Ended, Short, BadArgument}
use Rattle.colfind_c.specs.Queries.{table_of, sought_with}
use Rattle.colfind_c.specs.Queues.{pairs, waiting, HasRoomFor, Gets}
use Rattle.colfind_c.specs.Parkings.{FeedsParked, FinishesParked, SearchesPart, most_found_late}
use Rattle.collation_matches.specs.Answer.{Answer}
use Rattle.collation_matches.specs.Offsets.{answer_from}
use Rattle.collation_parts.specs.Parts.{part_answer}
use Rattle.collation_search.specs.Feeding.{fault_of}
use Rattle.collation_search.specs.Indexing.{first_range}
use Rattle.colfind_c.specs.Sessions.{sought_of, HasFed, KeepsFed, HasBegunAgain, HasPart, HasMet, FeedsSession, FeedsPart, FinishesSession, StopsSession, EndsSession, FirstInSession, StaysEnded, SavesSession, TakesRanges}

abbrev value_or : Parked → Option Parked → Parked
value_or p None = p
value_or p (Some x) = x

abbrev pub is_some_parked : Option Parked → Type 0
is_some_parked None = ⊥
is_some_parked (Some x) = Unit {0}

-- a search that has ended has met no fault
pub met_none : (s : Session) (f : TextFault) → s.parked ≡ None → HasMet s f → ⊥
met_none s f none met = subst is_some_parked (sym met.1 ∙ none) tt

-- a search that has not ended has nothing to keep as one that had
pub never_ended : (s new : Session) (p : Parked) → s.parked ≡ Some p → StaysEnded s new
never_ended s new p is = λ none. absurd (subst is_some_parked (sym is ∙ none) tt)

pub open_stays : (s new : Session) → IsSome s.parked → StaysEnded s new
open_stays s new going = λ none. absurd (subst T (sym going ∙ ap is_some none) tt)

abbrev fault_or : TextFault → Result (Unit {0}) TextFault → TextFault
fault_or f (Ok a) = f
fault_or f (Err g) = g

pub same_fault : (f g : TextFault) → (let r : Result (Unit {0}) TextFault = Err f in r) ≡ Err g → f ≡ g
same_fault f g e = ap (fault_or f) e

abbrev is_fault : Result (Unit {0}) TextFault → Type 0
is_fault (Ok a) = ⊥
is_fault (Err g) = Unit {0}

pub no_fault : (a : Unit {0}) (g : TextFault) → (let r : Result (Unit {0}) TextFault = Ok a in r) ≡ Err g → ⊥
no_fault a g e = subst is_fault (sym e) tt

pub same_value : (p x : Parked) → Some p ≡ Some x → p ≡ x
same_value p x e = ap (value_or p) e

abbrev IsGood : Outcome → Type 0
IsGood Good = Unit {0}
IsGood _ = ⊥

-- what holds where a result is good
pub when_ok : {A E P : Type 0} (r : Result A E) → is_err r ≡ false → OnOk r P → P
when_ok (Ok a) good p = p
when_ok (Err e) good p = cc

-- what is looked for, seen through the references
pub seen_with : (q x : Query) (t : Table) (select : Select) → x ≡ q → t ≡ arc_value x.table
    → (let r : Sought = record { table = weights.table t; pattern = x.pattern; select = select } in r) ≡ sought_with q select
seen_with q x t select eq et = ap (λ (y : Table). let r : Sought = record { table = weights.table y; pattern = x.pattern; select = select } in r) et
    ∙ ap (λ (y : Query). let r : Sought = record { table = table_of y; pattern = y.pattern; select = select } in r) eq

-- an answer of these ranges and this fault
answer_is : (a : Answer) (ranges : List (ℕ × ℕ)) (fault : Option TextFault) → a.ranges ≡ ranges → a.fault ≡ fault → a ≡ record { ranges = ranges; fault = fault }
answer_is a ranges fault e1 e2 = ap (λ xs. let r : Answer = record { ranges = xs; fault = a.fault } in r) e1 ∙ ap (λ f. let r : Answer = record { ranges = ranges; fault = f } in r) e2

-- a session of which nothing has changed but the room of its queue
module _ (old new : Session) (eq : new.query ≡ old.query) (es : new.select ≡ old.select) where
  pub same_sought : sought_of new ≡ sought_of old
  same_sought = ap (λ x. sought_with (arc_value x) new.select) eq ∙ ap (λ x. sought_with (arc_value old.query) x) es

  still_fed : new.parked ≡ old.parked → (new.queue.lost ≡ old.queue.lost) × (waiting new.queue ≡ waiting old.queue)
      → (u : List ℕ) (given : List (ℕ × ℕ)) → HasFed old u given → HasFed new u given
  still_fed ep kept u given h = record {
    parked = h.parked;
    held = ep ∙ h.held;
    kept = kept.0 ∙ h.kept;
    stands = subst (λ z. HasParked z h.parked u (given ++ waiting new.queue)) (sym same_sought) (subst (λ xs. HasParked (sought_of old) h.parked u (given ++ xs)) (sym kept.1) h.stands);
  }

  pub still_kept : new.parked ≡ old.parked → (new.queue.lost ≡ old.queue.lost) × (waiting new.queue ≡ waiting old.queue) → KeepsFed old new
  still_kept ep kept = record { fed = still_fed ep kept; met = λ f m. (m.0, ep ∙ m.1, m.2) }

  pub finish_refused : new.parked ≡ old.parked → (new.queue.lost ≡ old.queue.lost) × (waiting new.queue ≡ waiting old.queue) → FinishesSession old NoMemory new
  finish_refused ep kept = record { finished = still_kept ep kept; again = λ f m. (tt, kept.1); same = same_sought }

  pub stop_refused : new.parked ≡ old.parked → (new.queue.lost ≡ old.queue.lost) × (waiting new.queue ≡ waiting old.queue) → StopsSession old NoMemory new
  stop_refused ep kept = record { stopped = still_kept ep kept; again = λ f m. kept.1; same = same_sought }

  pub part_refused : (part : List ℕ) (before : ℕ) → new.parked ≡ old.parked → (new.queue.lost ≡ old.queue.lost) × (waiting new.queue ≡ waiting old.queue) → FeedsPart old part before (Partly before) new
  part_refused part before ep kept = record { fed = (refl, still_kept ep kept); again = λ f m. (refl, (m.0, ep ∙ m.1, m.2), kept.1); met = tt; same = same_sought }

  -- ranges were taken from the front of its queue
  pub taken : (room count : ℕ) (out : List Range) → new.parked ≡ old.parked → new.queue.lost ≡ old.queue.lost → count ≡ min room (length (waiting old.queue))
      → waiting old.queue ≡ pairs (take count out) ++ waiting new.queue → TakesRanges old room count out new
  taken room count out ep lost most oldest = record {
    most = most;
    oldest = oldest;
    given = λ u given h. record {
      parked = h.parked;
      held = ep ∙ h.held;
      kept = lost ∙ h.kept;
      stands = subst (λ z. HasParked z h.parked u ((given ++ pairs (take count out)) ++ waiting new.queue)) (sym same_sought)
          (subst (λ xs. HasParked (sought_of old) h.parked u xs) (ap (λ xs. given ++ xs) oldest ∙ sym (append_assoc given (pairs (take count out)) (waiting new.queue))) h.stands);
    };
    met = λ f m. (m.0, ep ∙ m.1, m.2);
    begins = λ b. let stands = subst (λ z. HasParked z b.parked [] []) (sym same_sought) b.stands in (
      record { parked = b.parked; held = ep ∙ b.held; kept = lost ∙ b.kept; stands = stands },
      λ none. (record { parked = b.parked; held = ep ∙ b.held; kept = lost ∙ b.kept; stands = subst (λ xs. HasParked (sought_of new) b.parked [] xs) (sym none) stands }, none),
    );
    same = same_sought;
  }

-- what its search was made for, seen through the references
module _ (s : Session) (p : Parked) (q : Query) (t : Table) (is : s.parked ≡ Some p) (eq : q ≡ arc_value s.query) (et : t ≡ arc_value q.table) where
  pub fits_at : IsFor (weights.table t) q.pattern p
  fits_at = subst (λ x. IsFor (weights.table x) q.pattern p) (sym et) (subst (λ x. IsFor (table_of x) x.pattern p) (sym eq) (s.fits p is).0)

  pub fits_again : (p2 : Parked) → IsFor (weights.table t) q.pattern p2 → parked_select p2 ≡ parked_select p
      → (x : Parked) → Some p2 ≡ Some x → IsFor (table_of (arc_value s.query)) (arc_value s.query).pattern x × (parked_select x ≡ s.select)
  fits_again p2 fit sel x e = let same = same_value p2 x e in (
    subst (λ y. IsFor (table_of (arc_value s.query)) (arc_value s.query).pattern y) same (subst (λ y. IsFor (table_of y) y.pattern p2) eq (subst (λ y. IsFor (weights.table y) q.pattern p2) et fit)),
    ap parked_select (sym same) ∙ (sel ∙ (s.fits p is).1),
  )

  abbrev pub seen : Sought
  seen = record { table = weights.table t; pattern = q.pattern; select = parked_select p }

  seen_is : seen ≡ sought_of s
  seen_is = ap (λ (y : Table). let r : Sought = record { table = weights.table y; pattern = q.pattern; select = parked_select p } in r) et
      ∙ (ap (λ (y : Query). let r : Sought = record { table = table_of y; pattern = y.pattern; select = parked_select p } in r) eq
      ∙ ap (λ z. let r : Sought = record { table = table_of (arc_value s.query); pattern = (arc_value s.query).pattern; select = z } in r) (s.fits p is).1)

  -- what was fed is what its search has parked
  parked_has : (u : List ℕ) (given : List (ℕ × ℕ)) → HasFed s u given → HasParked seen p u (given ++ waiting s.queue)
  parked_has u given h = subst (λ z. HasParked z p u (given ++ waiting s.queue)) (sym seen_is)
      (subst (λ x. HasParked (sought_of s) x u (given ++ waiting s.queue)) (same_value h.parked p (sym h.held ∙ is)) h.stands)

  -- a fault that was met is the one of its search
  fault_at : (f : TextFault) → HasMet s f → parked_fault p ≡ Some f
  fault_at f met = ap parked_fault (same_value p met.0 (sym is ∙ met.1)) ∙ met.2

  module _ (queue1 queue2 : Queue) (found : List (ℕ × ℕ)) (kept : (queue1.lost ≡ s.queue.lost) × (waiting queue1 ≡ waiting s.queue))
      (gets : Gets queue1 found queue2) where
    -- all found room
    pub all_kept : (count : ℕ) → (s.queue.lost ≡ false → HasRoomFor queue1 count) → length found ≤ count → queue2.lost ≡ false
    all_kept count room few =
        let all : count ≡ length found + (count - length found) = omega (arith, few) in
        (gets.room (count - length found) (subst (HasRoomFor queue1) all (room (s.kept p is)))).kept

    -- a range that found none is one of no text
    pub session_lost : (part : List ℕ) (before : ℕ) (r : Result (Unit {0}) TextFault) (p2 : Parked) (f : StateFault) (new : Session) → FeedsParked seen p part r found p2
        → (s.queue.lost ≡ false → HasRoomFor queue1 (length part + most_found_late)) → queue2.lost ≡ true → f.kind ≡ 51
        → new.query ≡ s.query → new.select ≡ s.select → new.parked ≡ None → FeedsPart s part before (State f) new
    session_lost part before r p2 f new fed room lost kind eq es ep = record {
      fed = (
        kind,
        ep,
        λ text u given compiled h.
            let few = fed.few text u (given ++ waiting s.queue) (subst (λ z. IsCompiledFrom z text) (sym seen_is) compiled) (parked_has u given h) in
            let clash : true ≡ false = sym lost ∙ all_kept (length part + most_found_late) room few in cc,
      );
      again = λ g met.
          let none : found ≡ [] = (fed.again g (fault_at g met)).1 in
          let few : length found ≤ length part + most_found_late = subst (λ xs. length xs ≤ length part + most_found_late) (sym none) (omega arith) in
          let clash : true ≡ false = sym lost ∙ all_kept (length part + most_found_late) room few in cc;
      met = tt;
      same = same_sought s new eq es;
    }

    module _ (good : queue2.lost ≡ false) where
      waits_after : (given : List (ℕ × ℕ)) → (given ++ waiting s.queue) ++ found ≡ given ++ waiting queue2
      waits_after given = append_assoc given (waiting s.queue) found ∙ ap (λ xs. given ++ xs) (sym ((gets.waits (waiting s.queue) (record { kept = λ _. kept.1 })).kept good))

      waits_same : found ≡ [] → waiting queue2 ≡ waiting s.queue
      waits_same none = sym (waits_after []) ∙ ap (λ xs. waiting s.queue ++ xs) none ∙ append-nil (waiting s.queue)

      pub session_fed : (part : List ℕ) (before : ℕ) (r : Result (Unit {0}) TextFault) (p2 : Parked) (new : Session) → FeedsParked seen p part r found p2
          → new.query ≡ s.query → new.select ≡ s.select → new.parked ≡ Some p2 → new.queue ≡ queue2
          → MatchResult r (λ _. FeedsPart s part before Good new) (λ f. FeedsPart s part before (Text f) new)
      session_fed part before (Ok a) p2 new fed eq es ep e2 = let same : sought_of new ≡ sought_of s = same_sought s new eq es in record {
        fed = (
          ap is_some ep,
          λ u given h. record {
            parked = p2;
            held = ep;
            kept = ap (λ x. x.lost) e2 ∙ good;
            stands = subst (λ z. HasParked z p2 (u ++ part) (given ++ waiting new.queue)) (seen_is ∙ sym same)
                (subst (λ xs. HasParked seen p2 (u ++ part) xs) (waits_after given ∙ ap (λ x. given ++ waiting x) (sym e2)) (fed.stands u (given ++ waiting s.queue) (parked_has u given h)));
          },
        );
        again = λ g met. absurd (no_fault a g (fed.again g (fault_at g met)).0);
        met = tt;
        same = same;
      }
      session_fed part before (Err f) p2 new fed eq es ep e2 = record {
        fed = λ more text u given compiled h.
            subst (λ bytes. answer_to (sought_of s) text bytes ≡ record { ranges = given ++ waiting new.queue; fault = Some f }) (append_assoc u part more)
            (subst (λ z. answer_to z text ((u ++ part) ++ more) ≡ record { ranges = given ++ waiting new.queue; fault = Some f }) seen_is
            (subst (λ xs. answer_to seen text ((u ++ part) ++ more) ≡ record { ranges = xs; fault = Some f }) (waits_after given ∙ ap (λ x. given ++ waiting x) (sym e2))
            (fed.answer text u more (given ++ waiting s.queue) (subst (λ z. IsCompiledFrom z text) (sym seen_is) compiled) (parked_has u given h))));
        again = λ g met.
            let told = fed.again g (fault_at g met) in
            let one = same_fault f g told.0 in
            (one, (p2, ep, fed.reported ∙ ap Some one), ap waiting e2 ∙ waits_same told.1);
        met = (p2, ep, fed.reported);
        same = same_sought s new eq es;
      }

      answered : (fault : Option TextFault) (new : Session) (text u : List ℕ) (given : List (ℕ × ℕ)) → new.queue ≡ queue2
          → answer_to seen text u ≡ record { ranges = (given ++ waiting s.queue) ++ found; fault = fault }
          → answer_to (sought_of s) text (u ++ []) ≡ record { ranges = given ++ waiting new.queue; fault = fault }
      answered fault new text u given e2 is =
          subst (λ bytes. answer_to (sought_of s) text bytes ≡ record { ranges = given ++ waiting new.queue; fault = fault }) (sym (append-nil u))
          (subst (λ z. answer_to z text u ≡ record { ranges = given ++ waiting new.queue; fault = fault }) seen_is
          (subst (λ xs. answer_to seen text u ≡ record { ranges = xs; fault = fault }) (waits_after given ∙ ap (λ x. given ++ waiting x) (sym e2)) is))

      pub session_finished : (r : Result (Unit {0}) TextFault) (new : Session) → FinishesParked seen p r found
          → new.query ≡ s.query → new.select ≡ s.select → new.parked ≡ None → new.queue ≡ queue2
          → MatchResult r (λ _. FinishesSession s Good new) (λ f. FinishesSession s (Text f) new)
      session_finished (Ok a) new done eq es ep e2 = record {
        finished = (
          ep,
          λ text u given compiled h. answered None new text u given e2
              (done.good text u (given ++ waiting s.queue) (subst (λ z. IsCompiledFrom z text) (sym seen_is) compiled) (parked_has u given h)),
        );
        again = λ g met. absurd (no_fault a g (done.again g (fault_at g met)).0);
        same = same_sought s new eq es;
      }
      session_finished (Err f) new done eq es ep e2 = record {
        finished = (
          ep,
          λ text u given compiled h. answered (Some f) new text u given e2
              (done.bad text u (given ++ waiting s.queue) (subst (λ z. IsCompiledFrom z text) (sym seen_is) compiled) (parked_has u given h)),
        );
        again = λ g met. let told = done.again g (fault_at g met) in (same_fault f g told.0, ap waiting e2 ∙ waits_same told.1);
        same = same_sought s new eq es;
      }

      pub session_ended : (r : Result (Unit {0}) TextFault) (p2 : Parked) (new : Session) → FinishesParked seen p r found
          → new.query ≡ s.query → new.select ≡ s.select → new.parked ≡ Some p2 → new.queue ≡ queue2
          → MatchResult r (λ _. EndsSession s Good new) (λ f. EndsSession s (Text f) new)
      session_ended (Ok a) p2 new done eq es ep e2 = record {
        ended = λ text u given compiled h. answered None new text u given e2
            (done.good text u (given ++ waiting s.queue) (subst (λ z. IsCompiledFrom z text) (sym seen_is) compiled) (parked_has u given h));
        going = ap is_some ep;
        same = same_sought s new eq es;
      }
      session_ended (Err f) p2 new done eq es ep e2 = record {
        ended = λ text u given compiled h. answered (Some f) new text u given e2
            (done.bad text u (given ++ waiting s.queue) (subst (λ z. IsCompiledFrom z text) (sym seen_is) compiled) (parked_has u given h));
        going = ap is_some ep;
        same = same_sought s new eq es;
      }

      pub session_stopped : (new : Session)
          → ((text u : List ℕ) (handed : List (ℕ × ℕ)) → IsCompiledFrom seen text → HasParked seen p u handed → handed ++ found ≡ settled_in seen text (whole u))
          → ((f : TextFault) → parked_fault p ≡ Some f → found ≡ [])
          → new.query ≡ s.query → new.select ≡ s.select → new.parked ≡ None → new.queue ≡ queue2 → StopsSession s Good new
      session_stopped new done none eq es ep e2 = record {
        stopped = (
          ep,
          λ text u given compiled h.
              subst (λ z. given ++ waiting new.queue ≡ settled_in z text (whole u)) seen_is
              (subst (λ xs. xs ≡ settled_in seen text (whole u)) (waits_after given ∙ ap (λ x. given ++ waiting x) (sym e2))
              (done text u (given ++ waiting s.queue) (subst (λ z. IsCompiledFrom z text) (sym seen_is) compiled) (parked_has u given h))),
        );
        again = λ f met. ap waiting e2 ∙ waits_same (none f (fault_at f met));
        same = same_sought s new eq es;
      }

  -- a search that has begun again, and whose ranges were dropped
  pub begun_session : (p2 : Parked) (new : Session) → HasParked seen p2 [] [] → new.query ≡ s.query → new.select ≡ s.select → new.parked ≡ Some p2
      → new.queue.lost ≡ false → waiting new.queue ≡ [] → HasBegunAgain new
  begun_session p2 new stands eq2 es2 ep lost none = (
    record {
      parked = p2;
      held = ep;
      kept = lost;
      stands = subst (λ xs. HasParked (sought_of new) p2 [] xs) (sym none) (subst (λ z. HasParked z p2 [] []) (seen_is ∙ sym (same_sought s new eq2 es2)) stands);
    },
    none,
  )

  -- a search that looked for the first range is at the beginning of a text
  module _ (text : List ℕ) (from : ℕ) (result : Result (Option (ℕ × ℕ)) TextFault) (p2 : Parked) (new : Session)
      (first : (t : List ℕ) → IsCompiledFrom seen t → result ≡ first_range (answer_from seen t text from).ranges (answer_from seen t text from).fault)
      (stands : HasParked seen p2 [] []) (within : from ≤ length text)
      (eq2 : new.query ≡ s.query) (es2 : new.select ≡ s.select) (ep : new.parked ≡ Some p2) (lost : new.queue.lost ≡ false) (none : waiting new.queue ≡ []) where
    begun_again : HasBegunAgain new
    begun_again = begun_session p2 new stands eq2 es2 ep lost none

    answered_first : (t : List ℕ) → IsCompiledFrom (sought_of s) t → result ≡ first_range (answer_from (sought_of s) t text from).ranges (answer_from (sought_of s) t text from).fault
    answered_first t compiled = subst (λ z. result ≡ first_range (answer_from z t text from).ranges (answer_from z t text from).fault) seen_is
        (first t (subst (λ z. IsCompiledFrom z t) (sym seen_is) compiled))

    pub first_found : (range : Option (ℕ × ℕ)) → result ≡ Ok range → FirstInSession s text from range Good new
    first_found range ok = record { first = (within, begun_again, λ t c. sym ok ∙ answered_first t c); ended = never_ended s new p is; same = same_sought s new eq2 es2 }

    pub first_failed : (f : TextFault) → result ≡ Err f → FirstInSession s text from None (Text f) new
    first_failed f err = record { first = (within, begun_again, refl, λ t c. sym err ∙ answered_first t c); ended = never_ended s new p is; same = same_sought s new eq2 es2 }

  -- a search that looked through a part of a text is at the beginning of another one, and the ranges of the part wait
  module _ (text : List ℕ) (from to : ℕ) (result : Result (Unit {0}) TextFault) (queue1 queue2 : Queue) (p2 : Parked) (new : Session)
      (found : SearchesPart seen text from to queue1 result queue2) (none : waiting queue1 ≡ []) (stands : HasParked seen p2 [] []) (good : queue2.lost ≡ false)
      (eq2 : new.query ≡ s.query) (es2 : new.select ≡ s.select) (ep : new.parked ≡ Some p2) (e2 : new.queue ≡ queue2) where
    part_waits : (t : List ℕ) → IsCompiledFrom seen t → waiting queue2 ≡ (part_answer seen t text from to).ranges
    part_waits t compiled = ((found.ranges t compiled).waits [] (record { kept = λ _. none })).kept good

    pub has_part : (fault : Option TextFault) → fault_of result ≡ fault → HasPart s text from to fault new
    has_part fault is = (
      record { parked = p2; held = ep; kept = ap (λ x. x.lost) e2 ∙ good; stands = subst (λ z. HasParked z p2 [] []) (seen_is ∙ sym (same_sought s new eq2 es2)) stands },
      λ t compiled.
          let here = subst (λ z. IsCompiledFrom z t) (sym seen_is) compiled in
          subst (λ z. part_answer z t text from to ≡ record { ranges = waiting new.queue; fault = fault }) seen_is
          (answer_is (part_answer seen t text from to) (waiting new.queue) fault (sym (part_waits t here) ∙ ap waiting (sym e2)) (sym (found.fault t here) ∙ is)),
    )

  -- a search that was saved has parked what it had
  session_saved : (p2 : Parked) (new : Session)
      → ((u : List ℕ) (handed : List (ℕ × ℕ)) → HasParked seen p u handed → HasParked seen p2 u handed) → parked_fault p2 ≡ parked_fault p
      → new.query ≡ s.query → new.select ≡ s.select → new.parked ≡ Some p2 → new.queue ≡ s.queue → KeepsFed s new
  session_saved p2 new kept reported eq es ep e2 = record {
    fed = λ u given h. record {
      parked = p2;
      held = ep;
      kept = ap (λ x. x.lost) e2 ∙ h.kept;
      stands = subst (λ z. HasParked z p2 u (given ++ waiting new.queue)) (seen_is ∙ sym (same_sought s new eq es))
          (subst (λ x. HasParked seen p2 u (given ++ waiting x)) (sym e2) (kept u (given ++ waiting s.queue) (parked_has u given h)));
    };
    met = λ f met. (p2, ep, reported ∙ fault_at f met);
  }

  pub session_words : (words : List ℕ) → words ≡ parked_words seen p → (parked : Parked) → s.parked ≡ Some parked → words ≡ parked_words (sought_of s) parked
  session_words words e parked held = e ∙ ap (λ z. parked_words z p) seen_is ∙ ap (λ x. parked_words (sought_of s) x) (same_value p parked (sym is ∙ held))

  pub session_saves : (words : List ℕ) (p2 : Parked) (new : Session) → words ≡ parked_words seen p → HasRecords (parked_words seen p) (most_records seen)
      → ((u : List ℕ) (handed : List (ℕ × ℕ)) → HasParked seen p u handed → HasParked seen p2 u handed) → parked_fault p2 ≡ parked_fault p
      → new.query ≡ s.query → new.select ≡ s.select → new.parked ≡ Some p2 → new.queue ≡ s.queue → SavesSession s Good words new
  session_saves words p2 new e few kept reported eq es ep e2 = record {
    saved = (session_words words e, session_saved p2 new kept reported eq es ep e2);
    few = subst (λ z. HasRecords words (most_records z)) seen_is (subst (λ xs. HasRecords xs (most_records seen)) (sym e) few);
    same = same_sought s new eq es;
  }

  pub save_refused : (words : List ℕ) (p2 : Parked) (new : Session)
      → ((u : List ℕ) (handed : List (ℕ × ℕ)) → HasParked seen p u handed → HasParked seen p2 u handed) → parked_fault p2 ≡ parked_fault p
      → new.query ≡ s.query → new.select ≡ s.select → new.parked ≡ Some p2 → new.queue ≡ s.queue → SavesSession s NoMemory words new
  save_refused words p2 new kept reported eq es ep e2 = record { saved = session_saved p2 new kept reported eq es ep e2; few = tt; same = same_sought s new eq es }

-- ---- the parts of a piece

-- so many bytes of a piece were taken
pub record HasBegun (old : Session) (piece : List ℕ) (at : ℕ) (new : Session) : Type 0 where
  pub within : at ≤ length piece
  pub going : IsSome new.parked
  pub fed : (u : List ℕ) (given : List (ℕ × ℕ)) → HasFed old u given → HasFed new (u ++ take at piece) given
  pub again : (f : TextFault) → HasMet old f → (at ≡ 0) × HasMet new f × (waiting new.queue ≡ waiting old.queue)
  pub same : sought_of new ≡ sought_of old

module _ (old here : Session) (piece : List ℕ) (at : ℕ) (begun : HasBegun old piece at here) where
  compiled_here : (text : List ℕ) → IsCompiledFrom (sought_of old) text → IsCompiledFrom (sought_of here) text
  compiled_here text c = subst (λ z. IsCompiledFrom z text) (sym begun.same) c

  whole_piece : (part rest : List ℕ) → drop at piece ≡ part ++ rest → take at piece ++ (part ++ rest) ≡ piece
  whole_piece part rest e = ap (λ xs. take at piece ++ xs) (sym e) ∙ take-append-drop at piece

  -- the bytes of a text of which a part is searched
  part_bytes : (u part rest more : List ℕ) → drop at piece ≡ part ++ rest → (u ++ take at piece) ++ (part ++ (rest ++ more)) ≡ u ++ (piece ++ more)
  part_bytes u part rest more e = append_assoc u (take at piece) (part ++ (rest ++ more)) ∙ ap (λ xs. u ++ xs)
      (ap (λ xs. take at piece ++ xs) (sym (append_assoc part rest more)) ∙ (sym (append_assoc (take at piece) (part ++ rest) more) ∙ ap (λ xs. xs ++ more) (whole_piece part rest e)))

  -- a part of the piece that is not taken well ends the call
  pub part_failed : (part rest : List ℕ) → drop at piece ≡ part ++ rest → (outcome : Outcome) (new : Session) → FeedsPart here part at outcome new
      → (outcome ≡ Good → ⊥) → FeedsSession old piece outcome new
  part_failed part rest e Good new fed bad = absurd (bad refl)
  part_failed part rest e (Text f) new fed bad = record {
    fed = λ more text u given compiled h.
        subst (λ bytes. answer_to (sought_of old) text bytes ≡ record { ranges = given ++ waiting new.queue; fault = Some f }) (part_bytes u part rest more e)
        (subst (λ z. answer_to z text ((u ++ take at piece) ++ (part ++ (rest ++ more))) ≡ record { ranges = given ++ waiting new.queue; fault = Some f }) begun.same
        (fed.fed (rest ++ more) text (u ++ take at piece) given (compiled_here text compiled) (begun.fed u given h)));
    again = λ g m. let b = begun.again g m in let a = fed.again g b.1 in (a.0, a.1, a.2 ∙ b.2);
    met = fed.met;
    same = fed.same ∙ begun.same;
  }
  part_failed part rest e (Partly n) new fed bad = record {
    fed = λ u given h. subst (λ k. HasFed new (u ++ take k piece) given) (sym fed.fed.0) (fed.fed.1.fed (u ++ take at piece) given (begun.fed u given h));
    again = λ g m. let b = begun.again g m in let a = fed.again g b.1 in (a.0 ∙ b.0, a.1, a.2 ∙ b.2);
    met = tt;
    same = fed.same ∙ begun.same;
  }
  part_failed part rest e Ended new fed bad = absurd fed.fed
  part_failed part rest e NoMemory new fed bad = absurd fed.fed
  part_failed part rest e WrongHandle new fed bad = absurd fed.fed
  part_failed part rest e BadArgument new fed bad = absurd fed.fed
  part_failed part rest e (Short n) new fed bad = absurd fed.fed
  part_failed part rest e (State f) new fed bad = record {
    fed = (fed.fed.0, fed.fed.1, λ text u given compiled h. fed.fed.2 text (u ++ take at piece) given (compiled_here text compiled) (begun.fed u given h));
    again = λ g m. absurd (fed.again g (begun.again g m).1).0;
    met = tt;
    same = fed.same ∙ begun.same;
  }
  part_failed part rest e (Pattern f) new fed bad = absurd fed.fed
  part_failed part rest e (TableFile f) new fed bad = absurd fed.fed

  -- after the last part the piece is taken
  pub part_last : (part : List ℕ) → drop at piece ≡ part → (outcome : Outcome) (new : Session) → FeedsPart here part at outcome new → FeedsSession old piece outcome new
  part_last part e Good new fed = record {
    fed = λ u given h. subst (λ bytes. HasFed new bytes given) (append_assoc u (take at piece) part ∙ ap (λ xs. u ++ xs) (ap (λ xs. take at piece ++ xs) (sym e) ∙ take-append-drop at piece))
        (fed.fed.1 (u ++ take at piece) given (begun.fed u given h));
    again = λ g m. absurd (fed.again g (begun.again g m).1).0;
    met = tt;
    same = fed.same ∙ begun.same;
  }
  part_last part e (Text f) new fed = part_failed part [] (e ∙ sym (append-nil part)) (Text f) new fed (λ is. absurd (subst IsGood (sym is) tt))
  part_last part e (Partly n) new fed = part_failed part [] (e ∙ sym (append-nil part)) (Partly n) new fed (λ is. absurd (subst IsGood (sym is) tt))
  part_last part e Ended new fed = part_failed part [] (e ∙ sym (append-nil part)) Ended new fed (λ is. absurd (subst IsGood (sym is) tt))
  part_last part e NoMemory new fed = part_failed part [] (e ∙ sym (append-nil part)) NoMemory new fed (λ is. absurd (subst IsGood (sym is) tt))
  part_last part e WrongHandle new fed = part_failed part [] (e ∙ sym (append-nil part)) WrongHandle new fed (λ is. absurd (subst IsGood (sym is) tt))
  part_last part e BadArgument new fed = part_failed part [] (e ∙ sym (append-nil part)) BadArgument new fed (λ is. absurd (subst IsGood (sym is) tt))
  part_last part e (Short n) new fed = part_failed part [] (e ∙ sym (append-nil part)) (Short n) new fed (λ is. absurd (subst IsGood (sym is) tt))
  part_last part e (State f) new fed = part_failed part [] (e ∙ sym (append-nil part)) (State f) new fed (λ is. absurd (subst IsGood (sym is) tt))
  part_last part e (Pattern f) new fed = part_failed part [] (e ∙ sym (append-nil part)) (Pattern f) new fed (λ is. absurd (subst IsGood (sym is) tt))
  part_last part e (TableFile f) new fed = part_failed part [] (e ∙ sym (append-nil part)) (TableFile f) new fed (λ is. absurd (subst IsGood (sym is) tt))

  pub part_taken : (n : ℕ) (part : List ℕ) → part ≡ take n (drop at piece) → at + n ≤ length piece → (new : Session) → FeedsPart here part at Good new → HasBegun old piece (at + n) new
  part_taken n part e le new fed = record {
    within = le;
    going = fed.fed.0;
    fed = λ u given h. subst (λ bytes. HasFed new bytes given) (append_assoc u (take at piece) part ∙ ap (λ xs. u ++ xs) (ap (λ xs. take at piece ++ xs) e ∙ sym (take-add at n piece)))
        (fed.fed.1 (u ++ take at piece) given (begun.fed u given h));
    again = λ g m. absurd (fed.again g (begun.again g m).1).0;
    same = fed.same ∙ begun.same;
  }

-- a search that has ended is fed nothing
pub fed_ended : (s : Session) (piece : List ℕ) → s.parked ≡ None → FeedsSession s piece Ended s
fed_ended s piece none = record { fed = (none, refl); again = λ f m. absurd (met_none s f none m); met = tt; same = refl }

pub finished_ended : (s : Session) → s.parked ≡ None → FinishesSession s Ended s
finished_ended s none = record { finished = (none, refl); again = λ f m. absurd (met_none s f none m); same = refl }

pub begins : (s : Session) (piece : List ℕ) → IsSome s.parked → HasBegun s piece 0 s
begins s piece going = record {
  within = omega (arith);
  going = going;
  fed = λ u given h. subst (λ bytes. HasFed s bytes given) (sym (append-nil u)) h;
  again = λ f m. (refl, m, refl);
  same = refl;
}
