use Rattle.std.proofs.Common.{refl}
use Rattle.colfind_c.specs.declared.owned.Owned.TheVariants.{Table as ATable}
use Rattle.colfind_c.specs.Exports.{GivesTable}
use Rattle.colfind_c.proofs.ExportLemmas.{given}
use Rattle.colfind_c.proofs.exports.give_table.Goals as goal

pub returns-in-Ok : goal.returns-in-Ok
returns-in-Ok c = record { given = given (ATable c.in-Ok.table) _ _ _ c.give.ensures.given (λ h v. GivesTable c.args.table h c.args.out.now.value v) c.in-Ok.ensures.ok refl }
