-- How many records the state has.
use Rattle.std.proofs.Common.{◌≤◌, length, subst, arith, rules}
use Rattle.nfd_points.specs.declared.limits.TheConstants.{MOST_WAITING}
use Rattle.collation_finder.specs.declared.finder.Finder.{Finder}
use Rattle.collation_search.specs.Search.{sought}
use Rattle.collation_search.proofs.SavingLemmas.{state-records}
use Rattle.collation_search.proofs.search.Search.head.Goals as goal

pub returns-in-Some-clause-few : goal.returns-in-Some-clause-few
returns-in-Some-clause-few g c =
    let s = c.args.self.now in
    state-records c.laws_of_states.ensures.records (sought s) s.cut s.finder.value s.fault (omega arith) (omega arith)
    (subst (λ (f : Finder). length f.reorder.held ≤ MOST_WAITING) c.deref-finder.ensures c.waiting-waiting.ensures.held.few)

pub returns-clause-few : goal.returns-clause-few
returns-clause-few g c =
    let s = c.args.self.now in
    state-records c.laws_of_states.ensures.records (sought s) s.cut s.finder.value s.fault (omega arith) (omega arith)
    (subst (λ (f : Finder). length f.reorder.held ≤ MOST_WAITING) c.deref-finder.ensures c.waiting-waiting.ensures.held.few)

pub returns-clause-numbers : goal.returns-clause-numbers
returns-clause-numbers g c = search rules depth 6 steps 300000
