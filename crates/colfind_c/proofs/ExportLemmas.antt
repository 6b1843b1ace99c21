-- What a handle holds after a call, by what it held before.
use Rattle.std.proofs.Common.{◌≡◌, ◌∙◌, refl, sym, ap, subst, Some, None, inr}
use Rattle.std.specs.Prelude.{◌⊎◌, Bool, IfErr, Result, Ok, Err, Option}
use Rattle.std.specs.Arc.{arc_value}
use Rattle.std.specs.declared.alloc.Global.{Global}
use Rattle.std_alloc.specs.declared.arc.Arc.{Arc}
use Rattle.collation_table.specs.declared.table.Table.{Table}
use Rattle.colfind_c.specs.declared.owned.Query.{Query}
use Rattle.colfind_c.specs.declared.owned.Session.{Session}
use Rattle.colfind_c.specs.declared.owned.Owned.{Owned}
use Rattle.colfind_c.specs.declared.owned.Owned.TheVariants.{Table as ATable, Pattern as APattern, Search as ASearch}
use Rattle.colfind_c.specs.declared.outcome.Outcome.{Outcome}
use Rattle.colfind_c.specs.declared.outcome.Outcome.TheVariants.{Good, Table as InTable, Pattern as InPattern, Text, State, NoMemory, Partly, WrongHandle, Ended, Short, BadArgument}
use Rattle.colfind_c.specs.Exports.{OfTable, OfPattern, OfSearch, AsksPattern, AsksQuery, AsksSearch, KeepsAll, TakesOldest, SharesTable, SharesQuery, IsGiven, GivesTable, GivesPattern, IsCompiled, MakesPattern, StartsSearch, GoesOnFrom, SavesInto, IsEqualTo, IsBegunBy, IsLastBefore, IsEndedBy, IsNextSafe, IsPreviousSafe, AnswersNextSafe, AnswersPreviousSafe, table_under, strength_for, variable_for, select_for}
use Rattle.std.specs.Prelude.{ℕ, ◌≤◌, List, [], length, false, ◌≢◌}
use Rattle.collation_table.specs.Table.{TableMap}
use Rattle.collation_table.specs.contracts.table.TableWeights.TheImpl.{ghosts as weights}
use Rattle.collation_elements.specs.declared.settings.Strength.{Strength}
use Rattle.collation_elements.specs.declared.settings.Variable.{Variable}
use Rattle.collation_anchored.specs.Anchored.{ends}
use Rattle.collation_anchored.specs.Answers.{equal_answer, begins_answer, no_memory}
use Rattle.collation_pattern.specs.Compiled.{Compiled, IsCompiledWith}
use Rattle.collation_pattern.specs.PatternFaults.{pattern_fault}
use Rattle.collation_matches.specs.declared.faults.TextFault.{TextFault}
use Rattle.collation_matches.specs.declared.select.Select.{Select}
use Rattle.collation_matches.specs.declared.select.Select.TheVariants.{All}
use Rattle.collation_matches.specs.GoodPrefix.{fault as fault_in, most_bytes}
use Rattle.collation_matches.specs.Sought.{IsCompiledFrom, answer_to, seeking}
use Rattle.collation_backward.specs.Backward.{is_fault_before, last_up_to, IsToldBefore, IsNothingBehind}
use Rattle.collation_backward.specs.Ending.{ends_answer}
use Rattle.collation_matches.specs.Offsets.{answer_from}
use Rattle.collation_search.specs.Indexing.{IsFirstOf}
use Rattle.collation_search.specs.Resuming.{IsRefused}
use Rattle.collation_search.specs.State.{sizes_of}
use Rattle.colfind_c.specs.Queries.{sought_with}
use Rattle.colfind_c.specs.Sessions.{sought_of, HasFed, ResumesSession, SavesSession}
use Rattle.colfind_c.proofs.SessionLemmas.{seen_with}
use Rattle.colfind_c.specs.declared.queue.Range.{Range}

-- a handle that was given a value holds it, or memory was refused
pub given : (owned : Owned) (how : Outcome) (before after : Option Owned) → IsGiven owned how before after
    → (P : Outcome → Option Owned → Type 0) → P Good (Some owned) → P NoMemory before → P how after
given owned Good before after e P good none = subst (λ v. P Good v) (sym e) good
given owned (InTable f) before after e P good none = absurd e
given owned (InPattern f) before after e P good none = absurd e
given owned (Text f) before after e P good none = absurd e
given owned (State f) before after e P good none = absurd e
given owned NoMemory before after e P good none = subst (λ v. P NoMemory v) (sym e) none
given owned (Partly n) before after e P good none = absurd e
given owned WrongHandle before after e P good none = absurd e
given owned Ended before after e P good none = absurd e
given owned (Short n) before after e P good none = absurd e
given owned BadArgument before after e P good none = absurd e

pub table_given : (table : Table) (how : Outcome) (before after : Option Owned) → GivesTable table how before after
    → (P : Outcome → Option Owned → Type 0) → ((t : Arc Table Global) → arc_value t ≡ table → P Good (Some (ATable t))) → P NoMemory before → P how after
table_given table Good before (Some (ATable t)) e P good none = good t e
table_given table Good before (Some (APattern t)) e P good none = absurd e
table_given table Good before (Some (ASearch t)) e P good none = absurd e
table_given table Good before None e P good none = absurd e
table_given table (InTable f) before after e P good none = absurd e
table_given table (InPattern f) before after e P good none = absurd e
table_given table (Text f) before after e P good none = absurd e
table_given table (State f) before after e P good none = absurd e
table_given table NoMemory before after e P good none = subst (λ v. P NoMemory v) (sym e) none
table_given table (Partly n) before after e P good none = absurd e
table_given table WrongHandle before after e P good none = absurd e
table_given table Ended before after e P good none = absurd e
table_given table (Short n) before after e P good none = absurd e
table_given table BadArgument before after e P good none = absurd e

pub pattern_given : (q : Query) (how : Outcome) (before after : Option Owned) → GivesPattern q how before after
    → (P : Outcome → Option Owned → Type 0) → ((p : Arc Query Global) → arc_value p ≡ q → P Good (Some (APattern p))) → P NoMemory before → P how after
pattern_given q Good before (Some (APattern t)) e P good none = good t e
pattern_given q Good before (Some (ATable t)) e P good none = absurd e
pattern_given q Good before (Some (ASearch t)) e P good none = absurd e
pattern_given q Good before None e P good none = absurd e
pattern_given q (InTable f) before after e P good none = absurd e
pattern_given q (InPattern f) before after e P good none = absurd e
pattern_given q (Text f) before after e P good none = absurd e
pattern_given q (State f) before after e P good none = absurd e
pattern_given q NoMemory before after e P good none = subst (λ v. P NoMemory v) (sym e) none
pattern_given q (Partly n) before after e P good none = absurd e
pattern_given q WrongHandle before after e P good none = absurd e
pattern_given q Ended before after e P good none = absurd e
pattern_given q (Short n) before after e P good none = absurd e
pattern_given q BadArgument before after e P good none = absurd e

abbrev outcome_or : {A : Type 0} → Outcome → Result A Outcome → Outcome
outcome_or d (Ok a) = d
outcome_or d (Err how) = how

abbrev IsOk_ : {A : Type 0} → Result A Outcome → Type 0
IsOk_ (Ok a) = Unit {0}
IsOk_ (Err how) = ⊥

pub of_table_ok : (C : Table → Outcome → Type 0) (v : Option Owned) (x : Arc Table Global) (how : Outcome) → SharesTable v (Ok x) → C (arc_value x) how → OfTable C v how
of_table_ok C (Some (ATable t)) x how e is = subst (λ y. C y how) e is
of_table_ok C (Some (APattern t)) x how e is = absurd (subst IsOk_ e tt)
of_table_ok C (Some (ASearch t)) x how e is = absurd (subst IsOk_ e tt)
of_table_ok C None x how e is = absurd (subst IsOk_ e tt)

pub of_table_err : (C : Table → Outcome → Type 0) (v : Option Owned) (how : Outcome) → SharesTable v (Err how) → ((x : Table) → C x NoMemory) → OfTable C v how
of_table_err C (Some (ATable t)) how e none = subst (λ h. C (arc_value t) h) (sym e) (none (arc_value t))
of_table_err C (Some (APattern t)) how e none = ap (outcome_or how) e
of_table_err C (Some (ASearch t)) how e none = ap (outcome_or how) e
of_table_err C None how e none = ap (outcome_or how) e

pub of_pattern_ok : (C : Query → Outcome → Type 0) (v : Option Owned) (x : Arc Query Global) (how : Outcome) → SharesQuery v (Ok x) → C (arc_value x) how → OfPattern C v how
of_pattern_ok C (Some (APattern t)) x how e is = subst (λ y. C y how) e is
of_pattern_ok C (Some (ATable t)) x how e is = absurd (subst IsOk_ e tt)
of_pattern_ok C (Some (ASearch t)) x how e is = absurd (subst IsOk_ e tt)
of_pattern_ok C None x how e is = absurd (subst IsOk_ e tt)

pub of_pattern_err : (C : Query → Outcome → Type 0) (v : Option Owned) (how : Outcome) → SharesQuery v (Err how) → ((x : Query) → C x NoMemory) → OfPattern C v how
of_pattern_err C (Some (APattern t)) how e none = subst (λ h. C (arc_value t) h) (sym e) (none (arc_value t))
of_pattern_err C (Some (ATable t)) how e none = ap (outcome_or how) e
of_pattern_err C (Some (ASearch t)) how e none = ap (outcome_or how) e
of_pattern_err C None how e none = ap (outcome_or how) e

-- the same of a call that answers something
pub asked_ok : {A : Type 0} (none : A) (C : Query → A → Outcome → Type 0) (v : Option Owned) (x : Arc Query Global) (answer : A) (how : Outcome) → SharesQuery v (Ok x) → C (arc_value x) answer how
    → AsksPattern none C v answer how
asked_ok none C (Some (APattern t)) x answer how e is = subst (λ y. C y answer how) e is
asked_ok none C (Some (ATable t)) x answer how e is = absurd (subst IsOk_ e tt)
asked_ok none C (Some (ASearch t)) x answer how e is = absurd (subst IsOk_ e tt)
asked_ok none C None x answer how e is = absurd (subst IsOk_ e tt)

pub asked_err : {A : Type 0} (none : A) (C : Query → A → Outcome → Type 0) (v : Option Owned) (how : Outcome) → SharesQuery v (Err how) → ((x : Query) → C x none NoMemory)
    → AsksPattern none C v none how
asked_err none C (Some (APattern t)) how e is = subst (λ h. C (arc_value t) none h) (sym e) (is (arc_value t))
asked_err none C (Some (ATable t)) how e is = (ap (outcome_or how) e, refl)
asked_err none C (Some (ASearch t)) how e is = (ap (outcome_or how) e, refl)
asked_err none C None how e is = (ap (outcome_or how) e, refl)

pub asked_search : {A : Type 0} (none : A) (C : Session → A → Outcome → Session → Type 0) (before after : Option Owned) (o1 o2 : Owned) (answer : A) (how : Outcome) → before ≡ Some o1 → after ≡ Some o2
    → AsksSearch none C (Some o1) answer how (Some o2) → AsksSearch none C before answer how after
asked_search none C before after o1 o2 answer how e1 e2 is = subst (λ v. AsksSearch none C v answer how after) (sym e1) (subst (λ v. AsksSearch none C (Some o1) answer how v) (sym e2) is)

-- the pattern that a handle holds, or that of its search, is asked
pub asked_pattern : {A : Type 0} (none : A) (C : Query → A → Outcome → Type 0) (o : Owned) (q : Arc Query Global) (answer : A) (how : Outcome) → o ≡ APattern q
    → C (arc_value q) answer how → AsksQuery none C (Some o) answer how
asked_pattern none C o q answer how e is = subst (λ v. AsksQuery none C (Some v) answer how) (sym e) is

pub asked_of_search : {A : Type 0} (none : A) (C : Query → A → Outcome → Type 0) (o : Owned) (s : Session) (answer : A) (how : Outcome) → o ≡ ASearch s
    → C (arc_value s.query) answer how → AsksQuery none C (Some o) answer how
asked_of_search none C o s answer how e is = subst (λ v. AsksQuery none C (Some v) answer how) (sym e) is

pub query_none : {A : Type 0} (none : A) (C : Query → A → Outcome → Type 0) (before : Option Owned) → before ≡ None → AsksQuery none C before none WrongHandle
query_none none C before e = subst (λ v. AsksQuery none C v none WrongHandle) (sym e) (refl, refl)

-- a search that has other room for whole texts, and else is as it was
pub kept_search : (o : Owned) (old new : Session) → o ≡ ASearch old → new.query ≡ old.query → new.select ≡ old.select → new.parked ≡ old.parked → new.queue ≡ old.queue
    → KeepsAll (Some o) (Some (ASearch new))
kept_search o old new e query select parked queue = subst (λ v. KeepsAll (Some v) (Some (ASearch new))) (sym e) (new, refl, query, select, parked, queue)

pub asked_none : {A : Type 0} (none : A) (C : Session → A → Outcome → Session → Type 0) (before after : Option Owned) → before ≡ None → after ≡ None → AsksSearch none C before none WrongHandle after
asked_none none C before after e1 e2 = subst (λ v. AsksSearch none C v none WrongHandle after) (sym e1) (refl, refl, e2)

pub of_search : (C : Session → Outcome → Session → Type 0) (before after : Option Owned) (o1 o2 : Owned) (how : Outcome) → before ≡ Some o1 → after ≡ Some o2
    → OfSearch C (Some o1) how (Some o2) → OfSearch C before how after
of_search C before after o1 o2 how e1 e2 is = subst (λ v. OfSearch C v how after) (sym e1) (subst (λ v. OfSearch C (Some o1) how v) (sym e2) is)

pub of_none : (C : Session → Outcome → Session → Type 0) (before after : Option Owned) → before ≡ None → after ≡ None → OfSearch C before WrongHandle after
of_none C before after e1 e2 = subst (λ v. OfSearch C v WrongHandle after) (sym e1) (refl, e2)

pub takes_none : (before after : Option Owned) (room : ℕ) (out : List Range) → before ≡ None → after ≡ None → TakesOldest before room 0 out after
takes_none before after room out e1 e2 = subst (λ v. TakesOldest v room 0 out after) (sym e1) (refl, e2)

pub takes_some : (before after : Option Owned) (o1 o2 : Owned) (room count : ℕ) (out : List Range) → before ≡ Some o1 → after ≡ Some o2
    → TakesOldest (Some o1) room count out (Some o2) → TakesOldest before room count out after
takes_some before after o1 o2 room count out e1 e2 is = subst (λ v. TakesOldest v room count out after) (sym e1) (subst (λ v. TakesOldest (Some o1) room count out v) (sym e2) is)

abbrev some_or : {A : Type 0} → A → Option A → A
some_or d None = d
some_or d (Some x) = x

pub some_same : {A : Type 0} (a b : A) → Some a ≡ Some b → a ≡ b
some_same a b e = ap (some_or a) e

-- a text that was refused as a pattern
pub refused : (table t : Table) (text seen : List ℕ) (sn vn kind : ℕ) (st : Strength) (va : Variable) → strength_for sn ≡ Some st → variable_for vn ≡ Some va → seen ≡ text → t ≡ table
    → (kind ≢ 24 → pattern_fault (weights.table t) st va seen ≡ Some kind)
    → (s : Strength) → (v : Variable) → strength_for sn ≡ Some s → variable_for vn ≡ Some v → kind ≢ 24 → pattern_fault (weights.table table) s v text ≡ Some kind
refused table t text seen sn vn kind st va es ev et eq is s v fs fv other =
    subst (λ x. pattern_fault (weights.table table) x v text ≡ Some kind) (some_same st s (sym es ∙ fs))
    (subst (λ x. pattern_fault (weights.table table) st x text ≡ Some kind) (some_same va v (sym ev ∙ fv))
    (subst (λ x. pattern_fault (weights.table table) st va x ≡ Some kind) et
    (subst (λ x. pattern_fault (weights.table x) st va seen ≡ Some kind) eq (is other))))

pub made : (table : Table) (text : List ℕ) (s v : ℕ) (q : Query) (before : Option Owned) (p : Arc Query Global) → arc_value p ≡ q → IsCompiled table text s v (Ok q)
    → MakesPattern table text s v Good before (Some (APattern p))
made table text s v q before p e is = subst (λ x. IsCompiled table text s v (Ok x)) (sym e) is

pub not_made : (table : Table) (text : List ℕ) (s v : ℕ) (how : Outcome) (before : Option Owned) → MakesPattern table text s v how None None → MakesPattern table text s v how before before
not_made table text s v Good before e = absurd e
not_made table text s v (InTable f) before e = absurd e
not_made table text s v (InPattern f) before e = (refl, e.1)
not_made table text s v (Text f) before e = absurd e
not_made table text s v (State f) before e = absurd e
not_made table text s v NoMemory before e = refl
not_made table text s v (Partly n) before e = absurd e
not_made table text s v WrongHandle before e = absurd e
not_made table text s v Ended before e = absurd e
not_made table text s v (Short n) before e = absurd e
not_made table text s v BadArgument before e = (refl, e.1)

pub started : (q : Query) (n : ℕ) (select : Select) (s : Session) (before : Option Owned) → select_for n ≡ Some select → HasFed s [] [] → sought_of s ≡ sought_with q select
    → StartsSearch q n Good before (Some (ASearch s))
started q n select s before sel fed is = let same : s.select ≡ select = ap (λ z. z.select) is in
    (fed, subst (λ z. sought_of s ≡ sought_with q z) (sym same) is, sel ∙ ap Some (sym same))

pub resumed : (q : Query) (n : ℕ) (words : List ℕ) (select : Select) (s : Session) (before : Option Owned) → select_for n ≡ Some select → ResumesSession (sought_with q select) words s
    → GoesOnFrom q n words Good before (Some (ASearch s))
resumed q n words select s before sel is = let same : s.select ≡ select = ap (λ z. z.select) is.same in
    (subst (λ z. ResumesSession (sought_with q z) words s) (sym same) is, sel ∙ ap Some (sym same))

pub not_resumed : (q : Query) (n kind : ℕ) (words : List ℕ) (select : Select) → select_for n ≡ Some select → IsRefused (sizes_of (sought_with q select)) words kind
    → (s : Select) → select_for n ≡ Some s → IsRefused (sizes_of (sought_with q s)) words kind
not_resumed q n kind words select sel is s e = subst (λ z. IsRefused (sizes_of (sought_with q z)) words kind) (some_same select s (sym sel ∙ e)) is

pub first_seen : (q : Query) (t : Table) (text : List ℕ) (result : Result (Option (ℕ × ℕ)) TextFault) → t ≡ arc_value q.table
    → ((p : List ℕ) → IsCompiledFrom (record { table = weights.table t; pattern = q.pattern; select = All }) p → IsFirstOf (answer_to (record { table = weights.table t; pattern = q.pattern; select = All }) p text) result)
    → (p : List ℕ) → IsCompiledFrom (sought_with q All) p → IsFirstOf (answer_to (sought_with q All) p text) result
first_seen q t text result e first p compiled = let seen = seen_with q q t All refl e in
    subst (λ z. IsFirstOf (answer_to z p text) result) seen (first p (subst (λ z. IsCompiledFrom z p) (sym seen) compiled))

pub first_seen_from : (q : Query) (t : Table) (text : List ℕ) (from : ℕ) (result : Result (Option (ℕ × ℕ)) TextFault) → t ≡ arc_value q.table
    → ((p : List ℕ) → IsCompiledFrom (record { table = weights.table t; pattern = q.pattern; select = All }) p
    → IsFirstOf (answer_from (record { table = weights.table t; pattern = q.pattern; select = All }) p text from) result)
    → (p : List ℕ) → IsCompiledFrom (sought_with q All) p → IsFirstOf (answer_from (sought_with q All) p text from) result
first_seen_from q t text from result e first p compiled = let seen = seen_with q q t All refl e in
    subst (λ z. IsFirstOf (answer_from z p text from) result) seen (first p (subst (λ z. IsCompiledFrom z p) (sym seen) compiled))

pub equal_seen : (q : Query) (t : Table) (text : List ℕ) (result : Result Bool TextFault) → t ≡ arc_value q.table
    → ((p : List ℕ) → IsCompiledWith (weights.table t) q.pattern p → (result ≡ Err no_memory) ⊎ (result ≡ equal_answer (weights.table t) q.pattern p text))
    → IsEqualTo q text result
equal_seen q t text result e is = subst (λ x. (p : List ℕ) → IsCompiledWith (weights.table x) q.pattern p → (result ≡ Err no_memory) ⊎ (result ≡ equal_answer (weights.table x) q.pattern p text)) e is

pub begun_seen : (q : Query) (t : Table) (text : List ℕ) (result : Result (Option ℕ) TextFault) → t ≡ arc_value q.table
    → ((p : List ℕ) → IsCompiledWith (weights.table t) q.pattern p → (result ≡ Err no_memory) ⊎ (result ≡ begins_answer (weights.table t) q.pattern p text))
    → IsBegunBy q text result
begun_seen q t text result e is = subst (λ x. (p : List ℕ) → IsCompiledWith (weights.table x) q.pattern p → (result ≡ Err no_memory) ⊎ (result ≡ begins_answer (weights.table x) q.pattern p text)) e is

-- what is asked with the table and the pattern that were lent
pub equal_asked : (q : Query) (t : Table) (pattern : Compiled) (text : List ℕ) (result : Result Bool TextFault) → t ≡ arc_value q.table → pattern ≡ q.pattern
    → ((p : List ℕ) → IsCompiledWith (weights.table t) pattern p → result ≡ equal_answer (weights.table t) pattern p text) → IsEqualTo q text result
equal_asked q t pattern text result e same is =
    equal_seen q t text result e (subst (λ c. (p : List ℕ) → IsCompiledWith (weights.table t) c p → (result ≡ Err no_memory) ⊎ (result ≡ equal_answer (weights.table t) c p text)) same (λ p h. inr (is p h)))

pub begun_asked : (q : Query) (t : Table) (pattern : Compiled) (text : List ℕ) (result : Result (Option ℕ) TextFault) → t ≡ arc_value q.table → pattern ≡ q.pattern
    → ((p : List ℕ) → IsCompiledWith (weights.table t) pattern p → result ≡ begins_answer (weights.table t) pattern p text) → IsBegunBy q text result
begun_asked q t pattern text result e same is =
    begun_seen q t text result e (subst (λ c. (p : List ℕ) → IsCompiledWith (weights.table t) c p → (result ≡ Err no_memory) ⊎ (result ≡ begins_answer (weights.table t) c p text)) same (λ p h. inr (is p h)))

-- what was told going back, seen through the references
pub last_seen : (q : Query) (t : Table) (text : List ℕ) (at : ℕ) (result : Result (Option (ℕ × ℕ)) TextFault) → t ≡ arc_value q.table
    → ((p : List ℕ) → IsCompiledFrom (seeking (weights.table t) q.pattern All) p → length text ≤ most_bytes → is_fault_before at (fault_in text) ≡ false
    → (result ≡ Err no_memory) ⊎ (result ≡ Ok (last_up_to at (answer_to (seeking (weights.table t) q.pattern All) p text).ranges)))
    → ((p : List ℕ) → IsCompiledFrom (seeking (weights.table t) q.pattern All) p → (result ≡ Err no_memory) ⊎ IsToldBefore (seeking (weights.table t) q.pattern All) p text at result)
    → ((p : List ℕ) → IsCompiledFrom (seeking (weights.table t) q.pattern All) p → length text ≤ most_bytes
    → (result ≡ Err no_memory) ⊎ IfErr result (IsNothingBehind (seeking (weights.table t) q.pattern All) p text at))
    → IsLastBefore (sought_with q All) text at result
last_seen q t text at result e good told behind = subst (λ s. IsLastBefore s text at result) (seen_with q q t All refl e) (record { good = good; told = told; behind = behind })

pub end_seen : (q : Query) (t : Table) (text : List ℕ) (result : Result (Option ℕ) TextFault) → t ≡ arc_value q.table
    → ((p : List ℕ) → IsCompiledFrom (seeking (weights.table t) q.pattern All) p → fault_in text ≡ None
    → (result ≡ Err no_memory) ⊎ (result ≡ Ok (ends (weights.table t) q.pattern.strength q.pattern.variable p text)))
    → ((p : List ℕ) → IsCompiledFrom (seeking (weights.table t) q.pattern All) p → length text ≤ most_bytes → (result ≡ Err no_memory) ⊎ (result ≡ ends_answer (weights.table t) q.pattern p text))
    → IsEndedBy (sought_with q All) text result
end_seen q t text result e good answer = subst (λ s. IsEndedBy s text result) (seen_with q q t All refl e) (record { good = good; answer = answer })

-- a safe offset that was found under the table of a handle, and one that was asked of no table
pub next_told : (value : Option Owned) (owned : Owned) (seen : TableMap) (bytes : List ℕ) (from : ℕ) (found : Option ℕ) → value ≡ Some owned → seen ≡ table_under owned
    → IsNextSafe seen bytes from found → AnswersNextSafe value bytes from found Good
next_told value owned seen bytes from found e1 e2 is =
    subst (λ v. AnswersNextSafe v bytes from found Good) (sym e1) (refl, subst (λ t. IsNextSafe t bytes from found) e2 is)

pub next_untold : (value : Option Owned) (bytes : List ℕ) (from : ℕ) → value ≡ None → AnswersNextSafe value bytes from None WrongHandle
next_untold value bytes from e = subst (λ v. AnswersNextSafe v bytes from None WrongHandle) (sym e) (refl, refl)

pub previous_told : (value : Option Owned) (owned : Owned) (seen : TableMap) (bytes : List ℕ) (before : ℕ) (found : Option ℕ) → value ≡ Some owned → seen ≡ table_under owned
    → IsPreviousSafe seen bytes before found → AnswersPreviousSafe value bytes before found Good
previous_told value owned seen bytes before found e1 e2 is =
    subst (λ v. AnswersPreviousSafe v bytes before found Good) (sym e1) (refl, subst (λ t. IsPreviousSafe t bytes before found) e2 is)

pub previous_untold : (value : Option Owned) (bytes : List ℕ) (before : ℕ) → value ≡ None → AnswersPreviousSafe value bytes before None WrongHandle
previous_untold value bytes before e = subst (λ v. AnswersPreviousSafe v bytes before None WrongHandle) (sym e) (refl, refl)

-- a search that could not be saved wrote nothing
pub save_failed : (before : List ℕ) (old : Session) (how : Outcome) (words : List ℕ) (new : Session) → SavesSession old how words new → (how ≡ Good → ⊥) → SavesInto before before 0 old how new
save_failed before old Good words new is bad = absurd (bad refl)
save_failed before old (InTable f) words new is bad = absurd is.saved
save_failed before old (InPattern f) words new is bad = absurd is.saved
save_failed before old (Text f) words new is bad = absurd is.saved
save_failed before old (State f) words new is bad = absurd is.saved
save_failed before old NoMemory words new is bad = record { words = words; saved = is; written = (refl, refl) }
save_failed before old (Partly n) words new is bad = absurd is.saved
save_failed before old WrongHandle words new is bad = absurd is.saved
save_failed before old Ended words new is bad = record { words = words; saved = is; written = (refl, refl) }
save_failed before old (Short n) words new is bad = absurd is.saved
save_failed before old BadArgument words new is bad = absurd is.saved
