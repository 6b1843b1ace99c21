use Rattle.std.proofs.Common.{◌≡◌, ◌<◌, ◌^◌, ◌++◌, ℕ, List, take, false}
use Rattle.std.specs.Prelude.{Option}
use Rattle.colfind_io.specs.declared.output.Output.{Output}
use Rattle.colfind_io.specs.Gathering.{Prints}
use Rattle.colfind_io.proofs.lines.Lines.put_all.Given as goal

-- the lines of the ranges so far were appended
abbrev pub invariant-loop-start : goal.invariant-loop-start
invariant-loop-start g l =
    (l.self.failed ≡ false → g.O.Target.failures l.out < 2 ^ 63)
    × ((form : Output) (handed : List (ℕ × ℕ)) (before : Option (List ℕ)) (failures : ℕ)
    → Prints form l.fn.self handed before (g.O.Target.held l.fn.out) failures (g.O.Target.failures l.fn.out)
    → Prints form l.self (handed ++ take l.start-index l.ranges) before (g.O.Target.held l.out) failures (g.O.Target.failures l.out))
