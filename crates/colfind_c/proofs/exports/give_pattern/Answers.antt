use Rattle.std.proofs.Common.{refl}
use Rattle.colfind_c.specs.declared.owned.Owned.TheVariants.{Pattern as APattern}
use Rattle.colfind_c.specs.Exports.{GivesPattern}
use Rattle.colfind_c.proofs.ExportLemmas.{given}
use Rattle.colfind_c.proofs.exports.give_pattern.Goals as goal

pub returns-in-Ok : goal.returns-in-Ok
returns-in-Ok c = record { given = given (APattern c.in-Ok.query) _ _ _ c.give.ensures.given (λ h v. GivesPattern c.args.query h c.args.out.now.value v) c.in-Ok.ensures.ok refl }
