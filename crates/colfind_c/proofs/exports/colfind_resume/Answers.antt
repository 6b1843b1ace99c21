use Rattle.std.proofs.Common.{refl}
use Rattle.colfind_c.specs.Exports.{GoesOnFrom}
use Rattle.colfind_c.proofs.ExportLemmas.{of_pattern_ok, of_pattern_err}
use Rattle.colfind_c.proofs.exports.colfind_resume.Goals as goal

pub returns-in-Ok-clause-made : goal.returns-in-Ok-clause-made
returns-in-Ok-clause-made c = (c.go_on.result, c.status.ensures, of_pattern_ok (λ q how. GoesOnFrom q c.args.select c.args.words.now how c.args.out.now.value c.go_on.new.out.value) _ _ _ c.in-Ok.ensures.shared c.go_on.ensures.goes_on)

pub returns-in-Err-clause-made : goal.returns-in-Err-clause-made
returns-in-Err-clause-made c = (c.in-Err.outcome, c.status-in-Err.ensures, of_pattern_err (λ q how. GoesOnFrom q c.args.select c.args.words.now how c.args.out.now.value c.args.out.now.value) _ _ c.in-Err.ensures.shared (λ x. refl))
