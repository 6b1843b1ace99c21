use Rattle.std.proofs.Common.{rules, ◌∙◌, ℕ, List, [], ap, subst, option_map}
use Rattle.std.proofs.lemmas.Result.{IfOk-weaker, err_from_is_err_and}
use Rattle.collation_table.specs.Faults.{tailored_fault, tailored_map, IsFaultOrAllocationRefused}
use Rattle.colfind_run.specs.Searching.{IsTailor}
use Rattle.colfind_run.proofs.program.read_table.Goals as goal

pub returns-in-Some-clause-table : goal.returns-in-Some-clause-table
returns-in-Some-clause-table g c =
    IfOk-weaker c.read_tailored.result _ _
    (λ table made.
    let stored = made.1 in
    record {
      base = c.in_ok-base.base.items;
      tailor = made.0;
      from_table = c.in_ok-base.ensures.bytes;
      from_tailor = search rules;
      spelled = made.2 ∙ ap (λ bytes. tailored_map bytes made.0) c.deref.ensures.value;
    })
    c.read_tailored.ensures.table

pub returns-clause-table : goal.returns-clause-table
returns-clause-table g c = record {
  base = c.in_ok-base.base.items;
  tailor = [];
  from_table = c.in_ok-base.ensures.bytes;
  from_tailor = search rules;
  spelled = c.in_ok-read-in-None.ensures.exact ∙ ap (λ bytes. tailored_map bytes []) c.deref-in-None.ensures.value;
}

pub returns-in_err-read-in-None-clause-fault : goal.returns-in_err-read-in-None-clause-fault
returns-in_err-read-in-None-clause-fault g c =
    let files = g.D.Folder.bytes_at c.args.folder.now in
    let none : IsTailor files (option_map (λ path. path.now) c.args.asked.now.tailor) [] = search rules in
    let fault = c.in_err-read-in-None.field-0.0 in
    let stop = err_from_is_err_and c.from_residual-in_err-read-in-None.result c.from_residual-in_err-read-in-None.ensures.1 in
    rw (stop.1, stop.2) (
      c.in_ok-base.base.items,
      [],
      c.in_ok-base.ensures.bytes,
      none,
      subst (λ (bytes : List ℕ). IsFaultOrAllocationRefused (tailored_fault bytes []) fault) c.deref-in-None.ensures.value c.in_err-read-in-None.ensures.fault,
    )
