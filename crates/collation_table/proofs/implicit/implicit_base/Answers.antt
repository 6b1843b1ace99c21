use Rattle.std.proofs.Common.{refl}
use Rattle.collation_table.proofs.implicit.implicit_base.Goals as goal

pub returns-then-is_other_ideograph : goal.returns-then-is_other_ideograph
returns-then-is_other_ideograph c =
    rw (← c.is_core_ideograph.ensures, c.if-is_core_ideograph.false, ← c.is_other_ideograph.ensures, c.if-is_other_ideograph.true) refl
