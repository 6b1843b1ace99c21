use Rattle.std.proofs.Common.{refl}
use Rattle.utf8_cut.proofs.PushLemmas.{continued, continued_fault, stays_bad}
use Rattle.utf8_cut.proofs.laws.any_bytes_may_follow.Goals as goal

pub returns-clause-begins : goal.returns-clause-begins
returns-clause-begins c cut taken more given s = (_, continued cut taken given more s)

pub returns-clause-characters : goal.returns-clause-characters
returns-clause-characters c cut taken more given s = continued cut taken given more s

pub returns-clause-fault : goal.returns-clause-fault
returns-clause-fault c cut taken more given s = continued_fault cut taken given more s cut.is_bad refl

pub returns-clause-stays_bad : goal.returns-clause-stays_bad
returns-clause-stays_bad c cut taken more given s = stays_bad cut taken given more s
