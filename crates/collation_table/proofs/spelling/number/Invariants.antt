-- The number so far, with the digits that are left after it, is the number of all; so many digits keep it below so many powers
-- of 16.
use Rattle.std.proofs.Common.{◌≡◌, ◌<◌, ◌^◌, drop}
use Rattle.collation_table.specs.Spelling.{hex_after}
use Rattle.collation_table.proofs.spelling.number.Given as goal

abbrev pub invariant-loop-byte : goal.invariant-loop-byte
invariant-loop-byte l = record {
  value : hex_after l.number (drop l.byte-index l.digits) ≡ hex_after 0 l.digits;
  bound : l.number < 16 ^ l.byte-index;
}
