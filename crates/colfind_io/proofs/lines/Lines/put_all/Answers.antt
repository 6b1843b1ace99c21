use Rattle.std.proofs.Common.{◌++◌, ◌∙◌, ℕ, [], ◌∷◌, List, get_or, take, ap, sym, subst, append_assoc}
use Rattle.std.proofs.lemmas.List.{take_more}
use Rattle.colfind_io.specs.Gathering.{Prints}
use Rattle.colfind_io.proofs.lines.Lines.put_all.Goals as goal

pub loop-start-preserved : goal.loop-start-preserved
loop-start-preserved g c = (
  c.put.ensures.ready,
  λ form handed before failures p.
      let ranges = c.args.ranges.now in
      let i = c.loop-start.start-index in
      let longer = append_assoc handed (take i ranges) (get_or ranges i (0, 0) ∷ []) ∙ ap (λ l. handed ++ l) (sym (take_more ranges i (0, 0) c.loop-start-test.true)) in
      subst (λ (t : List (ℕ × ℕ)). Prints form c.put.new.self t before (g.O.Target.held c.put.new.out) failures (g.O.Target.failures c.put.new.out)) longer
      (c.put.ensures.prints form (handed ++ take i ranges) before failures (c.loop-start.invariant.1 form handed before failures p)),
)
