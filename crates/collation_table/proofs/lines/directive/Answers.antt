use Rattle.std.proofs.Common.{sym, ◌∙◌}
use Rattle.collation_table.proofs.LineForms.{no_directive}
use Rattle.collation_table.proofs.lines.directive.Goals as goal

pub returns-then-first-ne64-clause-value : goal.returns-then-first-ne64-clause-value
returns-then-first-ne64-clause-value c = sym (no_directive c.args.text.now (λ same. c.if-first-ne64.true (c.requires ∙ same)))
