use Rattle.std.proofs.Common.{sym, arith}
use Rattle.collation_table.proofs.RangeLemmas.{first_with_base-le, offset_le}
use Rattle.collation_table.proofs.implicit.implicit_weights.Goals as goal

pub overflow_sub-result : goal.overflow_sub-result
overflow_sub-result c = rw c.first_with_base-first.ensures (first_with_base-le _ _ _)

pub overflow_cast-result : goal.overflow_cast-result
overflow_cast-result c =
    let found = offset_le c.args.ranges.now c.args.cp c.in-Some.range.now c.requires.sound (sym c.in-Some.ensures) in
    omega (arith, found, c.first_with_base-first.ensures)

pub overflow_add-result : goal.overflow_add-result
overflow_add-result c =
    let found = offset_le c.args.ranges.now c.args.cp c.in-Some.range.now c.requires.sound (sym c.in-Some.ensures) in
    omega (arith, found, c.first_with_base-first.ensures)

pub returns-in-Some : goal.returns-in-Some
returns-in-Some c =
    rw (c.first_with_base-first.ensures, ← c.in-Some.ensures)

pub returns-in-None : goal.returns-in-None
returns-in-None c = rw (c.implicit_base.ensures, ← c.in-None.ensures)
