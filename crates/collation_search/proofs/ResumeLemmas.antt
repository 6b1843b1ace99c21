-- What a search that is resumed from words represents, and which words are kept.
use Rattle.std.specs.Prelude.{All as AllOf, Contains, [], ◌∷◌, ◌++◌}
use Rattle.std.specs.Str.{chars, is_utf8}
use Rattle.std.specs.Str.Lossy.{utf8_valid_len}
use Rattle.std.specs.Char.{encode_utf8}
use Rattle.std.proofs.Common.{◌≡◌, ℕ, ◌+◌, false, List, Option, Some, None, Result, Err, refl, sym, ap, ◌∙◌, subst, arith, inl, inr}
use Rattle.utf8_cut.specs.State.{StandsFor}
use Rattle.utf8_cut.specs.Value.{CutState}
use Rattle.nfd_points.specs.declared.points.Point.{Point}
use Rattle.nfd_points.specs.PointFaults.{fault_from}
use Rattle.nfd_points.specs.Points.{points_from, ordered}
use Rattle.nfd_points.specs.Reordering.{Waiting, HasReordered}
use Rattle.nfd_points.specs.declared.limits.TheConstants.{MOST_GIVEN}
use Rattle.collation_table.specs.Table.{longest_mapped}
use Rattle.collation_table.specs.declared.lookup.Weights.{Ghosts}
use Rattle.collation_matches.specs.declared.faults.TextFault.{TextFault}
use Rattle.collation_matches.specs.Sought.{Sought}
use Rattle.collation_states.specs.declared.faults.StateFault.{StateFault}
use Rattle.collation_states.specs.State.{State, reported, words}
use Rattle.collation_states.specs.StateTests.{state_fault}
use Rattle.collation_states.specs.Reading.{state_in}
use Rattle.collation_states.specs.Laws.{MayBeHeld}
use Rattle.collation_search.specs.declared.search.Search.{Search}
use Rattle.collation_search.specs.Resuming.{AreSaved, AreSavedAfter, IsResumedFrom, KeepsSaved, AcceptsSaved, IsRestored}
use Rattle.collation_search.specs.Search.{sought, HasSearched}
use Rattle.collation_search.specs.Searching.{Searched}
use Rattle.collation_search.specs.State.{sizes_of, open_state, state_of}
use Rattle.collation_search.proofs.FinderLemmas.{made}
use Rattle.collation_search.proofs.SavedState.{SavedLaws, is-open, has-ended}
use Rattle.collation_search.proofs.RestoredState.{restored-stands}

-- ---- the words of a search

-- those of a state that a search may hold
record AreOf (s : Sought) (state : State) (all : List ℕ) : Type 0 where
  are : all ≡ words (sizes_of s) state
  may : MayBeHeld (sizes_of s) state

accepted-of : (laws : SavedLaws) (s : Sought) (state : State) (all : List ℕ) → AreOf s state all → state_fault (sizes_of s) all ≡ None
accepted-of laws s state all a = ap (state_fault (sizes_of s)) a.are ∙ laws.accepted (sizes_of s) state a.may

back-of : (laws : SavedLaws) (s : Sought) (state : State) (all : List ℕ) → AreOf s state all → state_in s.select all ≡ state
back-of laws s state all a = ap (state_in s.select) a.are ∙ laws.back (sizes_of s) state a.may

-- one that goes on
record GoesOnWith {W : Type 0} {G : Ghosts W} (saved : Search W G) (s : Sought) (all taken : List ℕ) (handed : List (ℕ × ℕ)) : Type 0 where
  searched : Searched s.table s.pattern saved.cut saved.finder.value None taken handed
  goes_on : saved.finder.value.window.has_ended ≡ false
  longest : saved.finder.value.window.capacity ≡ longest_mapped s.table + MOST_GIVEN
  select : saved.finder.value.matcher.walk.select ≡ s.select
  of : AreOf s (open_state s.pattern saved.cut saved.finder.value) all

goes-on-with : {W : Type 0} {G : Ghosts W} (laws : SavedLaws) (saved : Search W G) (s : Sought) (all taken : List ℕ) (handed : List (ℕ × ℕ)) → AreSaved saved s all taken handed → GoesOnWith saved s all taken handed
goes-on-with laws saved s all taken handed a =
    let none : saved.fault ≡ None = a.2.no_fault in
    let searched = subst (λ (f : Option TextFault). Searched s.table s.pattern saved.cut saved.finder.value f taken handed) none
    (subst (λ (t : Sought). Searched t.table t.pattern saved.cut saved.finder.value saved.fault taken handed) a.0 a.2) in
    let goes_on = saved.«open» none in
    let longest = (made saved).longest ∙ ap (λ (t : Sought). longest_mapped t.table + MOST_GIVEN) a.0 in
    let select = ap (λ (t : Sought). t.select) a.0 in
    record {
      searched = searched;
      goes_on = goes_on;
      longest = longest;
      select = select;
      of = record {
        are = a.1 ∙ ap (λ (t : Sought). words (sizes_of t) (state_of t.pattern saved.cut saved.finder.value saved.fault)) a.0
            ∙ ap (λ (f : Option TextFault). words (sizes_of s) (state_of s.pattern saved.cut saved.finder.value f)) none;
        may = inl (is-open laws s saved.cut saved.finder.value taken handed searched goes_on longest select);
      };
    }

-- one that has reported a fault
reported-of : {W : Type 0} {G : Ghosts W} (saved : Search W G) (s : Sought) (all : List ℕ) (f : TextFault) → AreSavedAfter saved s all f → AreOf s (reported f) all
reported-of saved s all f a =
    let k = saved.kept f a.2 in
    record {
      are = a.1 ∙ ap (λ (t : Sought). words (sizes_of t) (state_of t.pattern saved.cut saved.finder.value saved.fault)) a.0
          ∙ ap (λ (o : Option TextFault). words (sizes_of s) (state_of s.pattern saved.cut saved.finder.value o)) a.2;
      may = inr (has-ended f k.0 k.1 k.2);
    }

-- ---- they are kept

-- words with a fault are none that a search saved
pub keeps-saved : {W : Type 0} {G : Ghosts W} (laws : SavedLaws) (result : Result (Search W G) StateFault) (s : Sought) (all : List ℕ) (kind : ℕ) → state_fault (sizes_of s) all ≡ Some kind → KeepsSaved result s all
keeps-saved laws result s all kind fault = record {
  searched = λ saved taken handed a.
      let o = goes-on-with laws saved s all taken handed a in
      let no : None ≡ Some kind = sym (accepted-of laws s (open_state s.pattern saved.cut saved.finder.value) all o.of) ∙ fault in cc;
  reported = λ saved f a. let no : None ≡ Some kind = sym (accepted-of laws s (reported f) all (reported-of saved s all f a)) ∙ fault in cc;
}

-- so they are accepted where no memory is asked for
pub accepts-saved : {W : Type 0} {G : Ghosts W} (laws : SavedLaws) (result : Result (Unit {0}) StateFault) (s : Sought) (all : List ℕ) (kind : ℕ) → state_fault (sizes_of s) all ≡ Some kind → AcceptsSaved G result s all
accepts-saved {W} {G} laws result s all kind fault =
    let refused : Result (Search W G) StateFault = Err (record { kind = 0 }) in
    let never = keeps-saved laws refused s all kind fault in
    record {
      searched = λ saved taken handed a. let no : 0 ≡ 53 = never.searched saved taken handed a in absurd (omega (arith, no));
      reported = λ saved g a. let no : 0 ≡ 53 = never.reported saved g a in absurd (omega (arith, no));
    }

-- ---- a new search

none-contained : (ps : List Point) → AllOf (Contains []) ps → ps ≡ []
none-contained [] h = refl
none-contained (p ∷ ps) h = let there = h 0 p (omega arith) in let never : ⊥ = omega (arith, there.1) in elim never [ ]

none-before : (xs ys : List Point) → [] ≡ xs ++ ys → xs ≡ []
none-before [] ys e = refl
none-before (x ∷ xs) ys e = cc

none-given : (w : Waiting) (given : List Point) → HasReordered w [] given → given ≡ []
unfolding points_from ordered
none-given w given h = none-before given (ordered (w.held ++ points_from 0 [])) (h.continues [])

-- its window is empty
pub new-window : {W : Type 0} {G : Ghosts W} (new : Search W G) → HasSearched new [] [] → new.finder.value.window.points ≡ []
unfolding chars is_utf8 utf8_valid_len encode_utf8 fault_from
new-window new h =
    let none = none-given new.finder.value.reorder h.found.points h.found.reordered in
    none-contained new.finder.value.window.points (subst (λ (ps : List Point). AllOf (Contains ps) new.finder.value.window.points) none h.found.matched.kept)

-- ---- what goes on

-- a search at the state that the words say
pub goes-on : {W : Type 0} {G : Ghosts W} (laws : SavedLaws) (new : Search W G) (s : Sought) (all : List ℕ) (state : State) → state ≡ state_in s.select all →
    sought new ≡ s → new.fault ≡ state.fault → IsRestored s state new.finder.value →
    ((cut : CutState) (bytes : List ℕ) (given : List (ℕ × ℕ)) → StandsFor cut bytes given → cut.is_bad ≡ false → cut.held ≡ state.held → cut.count ≡ state.taken → StandsFor new.cut bytes given) →
    IsResumedFrom new s all
goes-on {W} {G} laws new s all state said same fault restored cut = record {
  stands = stands;
  reported = λ saved f a. fault ∙ ap (λ (t : State). t.fault) (said ∙ back-of laws s (reported f) all (reported-of saved s all f a));
  same = same;
}
  where
    stands : (saved : Search W G) (taken : List ℕ) (handed : List (ℕ × ℕ)) → AreSaved saved s all taken handed → HasSearched new taken handed
    stands saved taken handed a =
        let o = goes-on-with laws saved s all taken handed a in
        let is : state ≡ open_state s.pattern saved.cut saved.finder.value = said ∙ back-of laws s (open_state s.pattern saved.cut saved.finder.value) all o.of in
        let there = subst (λ (t : State). IsRestored s t new.finder.value) is restored in
        let cut_stands = λ (bs : List ℕ) (given : List (ℕ × ℕ)) (st : StandsFor saved.cut bs given) (good : saved.cut.is_bad ≡ false).
        cut saved.cut bs given st good (sym (ap (λ (t : State). t.held) is)) (sym (ap (λ (t : State). t.taken) is)) in
        let done : Searched s.table s.pattern new.cut new.finder.value None taken handed =
        restored-stands laws s saved.cut saved.finder.value taken handed o.searched o.goes_on o.longest o.select new.finder.value there new.cut cut_stands in
        let none : new.fault ≡ None = fault ∙ ap (λ (t : State). t.fault) is in
        subst (λ (f : Option TextFault). Searched (sought new).table (sought new).pattern new.cut new.finder.value f taken handed) (sym none)
        (subst (λ (u : Sought). Searched u.table u.pattern new.cut new.finder.value None taken handed) (sym same) done)
