use Rattle.std.proofs.Common.{◌∙◌, refl, ap, rules}
use Rattle.collation_table.specs.contracts.table.TableWeights.TheImpl.{ghosts as weights}
use Rattle.colfind_c.specs.Exports.{MakesTable}
use Rattle.colfind_c.proofs.ExportLemmas.{table_given}
use Rattle.colfind_c.proofs.exports.make_table.Goals as goal

pub returns-in-Ok : goal.returns-in-Ok
returns-in-Ok c = record { made = table_given _ _ _ _ c.give_table.ensures.given (λ h v. MakesTable c.args.base.now c.args.tailor.now h c.args.out.now.value v) (λ t e. ap weights.table e ∙ c.in-Ok.ensures.exact) refl }

pub returns-in-Err : goal.returns-in-Err
returns-in-Err c = search rules depth 5
