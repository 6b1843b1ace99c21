use Rattle.std.proofs.Common.{subst, sym, []}
use Rattle.utf8_cut.specs.State.{StandsFor}
use Rattle.utf8_cut.proofs.PushLemmas.{new_stands}
use Rattle.utf8_cut.proofs.Cut.new.Goals as goal

pub returns-clause-stands_for : goal.returns-clause-stands_for
returns-clause-stands_for c = subst (λ h. StandsFor (record { held = h; start = 0; count = 0; is_bad = _ }) [] []) (sym c.new.ensures) new_stands
