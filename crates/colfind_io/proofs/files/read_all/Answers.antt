use Rattle.std.proofs.Common.{arith, refl}
use Rattle.colfind_io.proofs.files.read_all.Goals as goal

pub returns-in-Ok-Fault-clause-end : goal.returns-in-Ok-Fault-clause-end
returns-in-Ok-Fault-clause-end g c = tt

pub returns-in-Ok-Fault-clause-fault : goal.returns-in-Ok-Fault-clause-fault
returns-in-Ok-Fault-clause-fault g c =
    let counted = rw c.in-Ok-Fault.field-0-is at c.in-Ok-Fault.ensures.fault in
    (λ _. omega (arith, counted), λ _. refl)

pub returns-in-Ok-Fault-clause-sound : goal.returns-in-Ok-Fault-clause-sound
returns-in-Ok-Fault-clause-sound g c = λ other. absurd (other refl)
