use Rattle.std.proofs.Common.{◌-◌, length}
use Rattle.colfind_c.proofs.SessionLemmas.{HasBegun}
use Rattle.colfind_c.proofs.owned.Session.feed.Given as goal

abbrev pub invariant-loop-at : goal.invariant-loop-at
invariant-loop-at l = HasBegun l.fn.self l.piece l.at l.self

abbrev pub decreases-loop-at : goal.decreases-loop-at
decreases-loop-at l = length l.piece - l.at
