use Rattle.std.proofs.Common.{◌≡◌, length}
use Rattle.collation_pattern.proofs.KeySetLemmas.{AreUpTo, HavePlaces}
use Rattle.collation_pattern.proofs.key_set.key_set.Given as goal

-- the keys so far are at their places
abbrev pub invariant-loop-number : goal.invariant-loop-number
invariant-loop-number l = record {
  len : length l.set ≡ 1_024;
  few : AreUpTo l.number l.set;
  places : HavePlaces l.number l.keys l.set;
}
