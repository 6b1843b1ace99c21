use Rattle.std.proofs.Common.{refl}
use Rattle.colfind_c.specs.Exports.{StartsSearch}
use Rattle.colfind_c.proofs.ExportLemmas.{of_pattern_ok, of_pattern_err}
use Rattle.colfind_c.proofs.exports.colfind_search.Goals as goal

pub returns-in-Ok-clause-made : goal.returns-in-Ok-clause-made
returns-in-Ok-clause-made c = (c.start_search.result, c.status.ensures, of_pattern_ok (λ q how. StartsSearch q c.args.select how c.args.out.now.value c.start_search.new.out.value) _ _ _ c.in-Ok.ensures.shared c.start_search.ensures.started)

pub returns-in-Err-clause-made : goal.returns-in-Err-clause-made
returns-in-Err-clause-made c = (c.in-Err.outcome, c.status-in-Err.ensures, of_pattern_err (λ q how. StartsSearch q c.args.select how c.args.out.now.value c.args.out.now.value) _ _ c.in-Err.ensures.shared (λ x. refl))
