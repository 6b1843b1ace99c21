use Rattle.std.proofs.lemmas.List.Elements.{All-contains_itself}
use Rattle.std.specs.List.{Contains}
use Rattle.nfd_points.proofs.OrderingLemmas.{is_in_order-ordered, ordered-ordered, ordered-prefix, ordered-parts, list_all-ordered, length-ordered, All-ordered}
use Rattle.nfd_points.proofs.PointsLemmas.{ordered-shift}
use Rattle.nfd_points.proofs.SplitLemmas.{starters-stay}
use Rattle.nfd_points.proofs.laws.laws_of_ordering.Goals as goal

pub returns-clause-in_order : goal.returns-clause-in_order
returns-clause-in_order c = is_in_order-ordered

pub returns-clause-stays : goal.returns-clause-stays
returns-clause-stays c = ordered-ordered

pub returns-clause-prefixes : goal.returns-clause-prefixes
returns-clause-prefixes c = ordered-prefix

pub returns-clause-at_starters : goal.returns-clause-at_starters
returns-clause-at_starters c = ordered-parts

pub returns-clause-shifted : goal.returns-clause-shifted
returns-clause-shifted c = ordered-shift

pub returns-clause-keeps : goal.returns-clause-keeps
returns-clause-keeps c = list_all-ordered

pub returns-clause-counts : goal.returns-clause-counts
returns-clause-counts c = length-ordered

pub returns-clause-starters : goal.returns-clause-starters
returns-clause-starters c = starters-stay

pub returns-clause-adds_none : goal.returns-clause-adds_none
returns-clause-adds_none c = λ ps. All-ordered (Contains ps) ps (All-contains_itself ps)
