use Rattle.std.proofs.Common.{◌==◌, Bool, ap, arith, sym, if◌then◌else◌}
use Rattle.std.proofs.lemmas.Bool.{eqb-true}
use Rattle.colfind_run.proofs.Commands.{not_true}
use Rattle.colfind_run.proofs.program.program.Goals as goal

pub returns-in-Ok-clause-found : goal.returns-in-Ok-clause-found
returns-in-Ok-clause-found g c = λ _.
    let count = c.in-Ok.field-0 in
    let some = not_true (count == 0) (λ none. c.in-Ok.field-0-test.1 (eqb-true count 0 none)) in
    (count, sym (ap (λ (b : Bool). if b then 1 else 0) some), c.in-Ok.ensures.found)

pub returns-in-Err-clause-found : goal.returns-in-Err-clause-found
returns-in-Err-clause-found g c = λ few. absurd (omega arith)

pub returns-in-Err-clause-sound : goal.returns-in-Err-clause-sound
returns-in-Err-clause-sound g c = λ few. absurd (omega arith)

pub returns-in-Err-clause-quiet : goal.returns-in-Err-clause-quiet
returns-in-Err-clause-quiet g c = λ few. absurd (omega arith)
