-- What was printed of ranges whose lines are gathered before they are written.
use Rattle.std.specs.Prelude.{◌≡◌, ℕ, ◌+◌, ◌<◌, ◌^◌, false, List, ◌++◌, length, Option}
use Rattle.colfind_io.specs.declared.output.Output.{Output}
use Rattle.colfind_io.specs.declared.lines.Lines.{Lines}
use Rattle.colfind_io.specs.Devices.{with_piece, one_if}
use Rattle.colfind_io.specs.Printing.{printed_lines}

-- Of the lines of these ranges the first bytes were written, and the rest waits, unless a write failed. The number of ranges
-- is kept too, where it is one that a `u64` can be.
pub record Prints (form : Output) (lines : Lines) (ranges : List (ℕ × ℕ)) (before after : Option (List ℕ)) (failures failures_after : ℕ) : Type 0 where
  pub form_is : lines.form ≡ form
  pub written : List ℕ
  pub rest : List ℕ
  pub whole : printed_lines form ranges ≡ written ++ rest
  pub to_writer : after ≡ with_piece written before
  pub waits : lines.failed ≡ false → rest ≡ lines.waiting.bytes
  pub counted : length ranges < 2 ^ 64 → lines.count ≡ length ranges
  pub failed : failures_after ≡ failures + one_if lines.failed
