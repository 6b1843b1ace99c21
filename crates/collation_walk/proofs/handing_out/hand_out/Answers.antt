use Rattle.std.proofs.Common.{ℕ, List, of_calls, sym, subst}
use Rattle.std.specs.List.{FoldsTo}
use Rattle.collation_walk.proofs.handing_out.hand_out.Goals as goal

-- the call at the first of the ranges that are left comes before those at the others
pub loop-range-preserved : goal.loop-range-preserved
loop-range-preserved g c = (
  search of_calls,
  λ last calls. c.loop-range.invariant.1 last
      (subst (λ (rest : List (ℕ × ℕ)). FoldsTo (λ f range t. goal.F-step g f range.0 range.1 tt t) c.loop-range.sink rest last) (sym c.in-Some.ensures.cases.0)
      (c.sink.new.self, search of_calls, calls)),
)
