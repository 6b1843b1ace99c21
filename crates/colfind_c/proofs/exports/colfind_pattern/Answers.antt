use Rattle.std.proofs.Common.{refl}
use Rattle.colfind_c.specs.Exports.{MakesPattern}
use Rattle.colfind_c.proofs.ExportLemmas.{of_table_ok, of_table_err}
use Rattle.colfind_c.proofs.exports.colfind_pattern.Goals as goal

pub returns-in-Ok-clause-made : goal.returns-in-Ok-clause-made
returns-in-Ok-clause-made c = (c.make_pattern.result, c.status.ensures, of_table_ok (λ t how. MakesPattern t c.args.text.now c.args.strength c.args.variable how c.args.out.now.value c.make_pattern.new.out.value) _ _ _ c.in-Ok.ensures.shared c.make_pattern.ensures.made)

pub returns-in-Err-clause-made : goal.returns-in-Err-clause-made
returns-in-Err-clause-made c = (c.in-Err.outcome, c.status-in-Err.ensures, of_table_err (λ t how. MakesPattern t c.args.text.now c.args.strength c.args.variable how c.args.out.now.value c.args.out.now.value) _ _ c.in-Err.ensures.shared (λ x. refl))
