-- The set has those so far.
use Rattle.std.proofs.Common.{◌≡◌, ℕ, ◌==◌, ◌||◌, take}
use Rattle.std.specs.List.{list_any}
use Rattle.collation_table.specs.Unsafe.{has_point}
use Rattle.collation_table.proofs.rows.put_all.Given as goal

abbrev pub invariant-loop-cp : goal.invariant-loop-cp
invariant-loop-cp l = (q : ℕ) → has_point l.points q ≡ (has_point l.initial.points q || list_any (λ c. c == q) (take l.cp-index l.cps))
