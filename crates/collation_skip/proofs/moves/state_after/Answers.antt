use Rattle.std.proofs.Common.{[], ◌∷◌, ◌++◌, sym, subst}
use Rattle.std.proofs.Math.Logic.{∥∥₁_map}
use Rattle.collation_skip.specs.declared.state.State.{State}
use Rattle.collation_skip.specs.Reached.{HasReached}
use Rattle.collation_skip.proofs.ReachedLemmas.{reached-begun}
use Rattle.collation_skip.proofs.moves.state_after.Goals as goal

pub returns-in-More-clause-moves : goal.returns-in-More-clause-moves
returns-in-More-clause-moves g c = λ at bytes h.
    let table = g.W.Weights.table c.args.table.now in
    let pattern = c.args.pattern.now in
    subst (λ (t : State). HasReached table pattern t at (bytes ++ c.args.byte ∷ [])) (sym c.with_begun.ensures)
    (∥∥₁_map h (reached-begun table pattern c.args.state.now c.in-More.begun at bytes c.args.byte c.in-More.ensures))
