-- The code points so far and those of the words that are left are those of the text.
use Rattle.std.proofs.Common.{◌≡◌, false, length}
use Rattle.collation_table.specs.Spelling.{begins_with_blank}
use Rattle.collation_table.proofs.Parsed.{joined, points_in, pieces}
use Rattle.collation_table.proofs.spelling.read_string.Given as goal

abbrev pub invariant-loop-rest : goal.invariant-loop-rest
invariant-loop-rest l = record {
  found : joined l.string.items (points_in (pieces l.rest)) ≡ points_in (pieces l.text);
  trimmed : begins_with_blank l.rest ≡ false;
}

abbrev pub decreases-loop-rest : goal.decreases-loop-rest
decreases-loop-rest l = length l.rest
