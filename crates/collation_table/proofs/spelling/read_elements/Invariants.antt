-- The elements so far and those that are left are those of the text.
use Rattle.std.proofs.Common.{◌≡◌, false, length}
use Rattle.collation_table.specs.Spelling.{begins_with_blank, elements_of_parts}
use Rattle.collation_table.proofs.Cuts.{parts}
use Rattle.collation_table.proofs.Parsed.{joined}
use Rattle.collation_table.proofs.spelling.read_elements.Given as goal

abbrev pub invariant-loop-rest : goal.invariant-loop-rest
invariant-loop-rest l = record {
  found : joined l.elements.items (elements_of_parts (parts 93 l.rest)) ≡ elements_of_parts (parts 93 l.text);
  trimmed : begins_with_blank l.rest ≡ false;
}

abbrev pub decreases-loop-rest : goal.decreases-loop-rest
decreases-loop-rest l = length l.rest
