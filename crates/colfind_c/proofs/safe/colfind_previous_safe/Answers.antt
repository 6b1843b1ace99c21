use Rattle.std.proofs.Common.{◌∙◌, ap, None}
use Rattle.colfind_c.specs.declared.outcome.Outcome.TheVariants.{Good, WrongHandle}
use Rattle.colfind_c.specs.Exports.{table_under}
use Rattle.colfind_c.proofs.ExportLemmas.{previous_told, previous_untold}
use Rattle.colfind_c.proofs.safe.colfind_previous_safe.Goals as goal

pub returns-in-Some-clause-previous : goal.returns-in-Some-clause-previous
returns-in-Some-clause-previous c = (
  Good,
  c.previous_safe-found.result,
  c.place_with.ensures,
  previous_told _ _ _ c.args.bytes.now c.args.before _ c.in-Some.ensures.taken (c.table_under.ensures ∙ ap table_under c.deref.ensures)
      (record { safe = c.previous_safe-found.ensures.safe; earlier = c.previous_safe-found.ensures.before; nearest = c.previous_safe-found.ensures.nearest }),
)

pub returns-in-None-clause-previous : goal.returns-in-None-clause-previous
returns-in-None-clause-previous c = (WrongHandle, None, c.place_with-in-None.ensures, previous_untold _ c.args.bytes.now c.args.before c.in-None.ensures.taken)
