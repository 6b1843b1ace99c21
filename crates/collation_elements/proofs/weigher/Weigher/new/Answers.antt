use Rattle.std.proofs.Common.{refl, ap}
use Rattle.collation_elements.specs.declared.weigher.Weigher.{Weigher}
use Rattle.collation_elements.proofs.weigher.Weigher.new.Goals as goal

pub returns-clause-value : goal.returns-clause-value
returns-clause-value c = c.restore.ensures.value

pub returns-clause-stands : goal.returns-clause-stands
returns-clause-stands c = λ table.
    record { items = refl; after = ap (λ (w : Weigher). w.after_variable) c.restore.ensures.value }
