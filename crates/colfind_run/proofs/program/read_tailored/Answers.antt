use Rattle.std.proofs.Common.{ℕ, List, ap, subst, ◌∙◌}
use Rattle.std.proofs.lemmas.Result.{err_from_is_err_and}
use Rattle.collation_table.specs.Faults.{tailored_fault, tailored_map, IsFaultOrAllocationRefused}
use Rattle.colfind_run.proofs.program.read_tailored.Goals as goal

pub returns-in_ok-read_tailored-in-Ok-clause-table : goal.returns-in_ok-read_tailored-in-Ok-clause-table
returns-in_ok-read_tailored-in-Ok-clause-table g c =
    (c.in-Ok.tailor.items, c.in-Ok.ensures.bytes, c.in_ok-read_tailored-in-Ok.ensures.exact ∙ ap (λ (bytes : List ℕ). tailored_map c.args.base.now bytes) c.deref.ensures.value)

pub returns-in_err-read_tailored-in-Ok-clause-fault : goal.returns-in_err-read_tailored-in-Ok-clause-fault
returns-in_err-read_tailored-in-Ok-clause-fault g c =
    let fault = c.in_err-read_tailored-in-Ok.field-0.0 in
    let stop = err_from_is_err_and c.from_residual.result c.from_residual.ensures.1 in
    rw (stop.1, stop.2) (
      c.in-Ok.tailor.items,
      c.in-Ok.ensures.bytes,
      subst (λ (bytes : List ℕ). IsFaultOrAllocationRefused (tailored_fault c.args.base.now bytes) fault) c.deref.ensures.value c.in_err-read_tailored-in-Ok.ensures.fault,
    )

pub returns-in_ok-read_tailored-in-Ok-clause-missing : goal.returns-in_ok-read_tailored-in-Ok-clause-missing
returns-in_ok-read_tailored-in-Ok-clause-missing g c = λ missing. absurd (let clash = c.in-Ok.ensures.missing missing in cc)

pub returns-in_err-read_tailored-in-Ok-clause-missing : goal.returns-in_err-read_tailored-in-Ok-clause-missing
returns-in_err-read_tailored-in-Ok-clause-missing g c = λ missing. absurd (let clash = c.in-Ok.ensures.missing missing in cc)
