use Rattle.std.proofs.Common.{sym, ap}
use Rattle.collation_letters.specs.declared.letter.Role.{Role}
use Rattle.collation_letters.specs.Letters.{flag_after}
use Rattle.collation_letters.proofs.letter.Role.flag_after.Goals as goal

pub returns-in-VariableBase : goal.returns-in-VariableBase
returns-in-VariableBase c = sym (ap (λ (role : Role). flag_after role c.args.after_variable) c.in-VariableBase.is)
