use Rattle.std.proofs.Common.{◌+◌, ◌≤◌, ℕ, subst}
use Rattle.search_tests.proofs.clauses.letters_say.Goals as goal

pub returns-clause-left : goal.returns-clause-left
returns-clause-left g c = λ place taken handed stands offset near cut.
    c.take_letters.ensures.taken.2.left place taken handed (subst (λ (n : ℕ). n + c.args.front.reach ≤ place) offset near, record { stands = stands; cut = cut }) offset
