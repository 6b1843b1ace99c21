use Rattle.std.proofs.Common.{◌∙◌, ap, None}
use Rattle.colfind_c.specs.declared.outcome.Outcome.TheVariants.{Good, WrongHandle}
use Rattle.colfind_c.specs.Exports.{table_under}
use Rattle.colfind_c.proofs.ExportLemmas.{next_told, next_untold}
use Rattle.colfind_c.proofs.safe.colfind_next_safe.Goals as goal

pub returns-in-Some-clause-next : goal.returns-in-Some-clause-next
returns-in-Some-clause-next c = (
  Good,
  c.next_safe-found.result,
  c.place_with.ensures,
  next_told _ _ _ c.args.bytes.now c.args.from _ c.in-Some.ensures.taken (c.table_under.ensures ∙ ap table_under c.deref.ensures)
      (record { safe = c.next_safe-found.ensures.safe; behind = c.next_safe-found.ensures.behind; nearest = c.next_safe-found.ensures.nearest }),
)

pub returns-in-None-clause-next : goal.returns-in-None-clause-next
returns-in-None-clause-next c = (WrongHandle, None, c.place_with-in-None.ensures, next_untold _ c.args.bytes.now c.args.from c.in-None.ensures.taken)
