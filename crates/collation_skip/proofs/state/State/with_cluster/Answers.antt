use Rattle.std.proofs.Common.{Some, sym, ap, subst}
use Rattle.collation_letters.specs.Clusters.{IsClusterAt}
use Rattle.collation_letters.specs.Letters.{ordered_from}
use Rattle.collation_skip.specs.declared.state.State.{State}
use Rattle.collation_skip.proofs.SpentLemmas.{cluster-with}
use Rattle.collation_skip.proofs.state.State.with_cluster.Goals as goal

pub returns-then-keeps_marks-clause-letter : goal.returns-then-keeps_marks-clause-letter
returns-then-keeps_marks-clause-letter c = λ table cs h. c.with_letter-state.ensures.letter table (ordered_from 0 cs) h.letter

pub returns-else-keeps_marks-clause-letter : goal.returns-else-keeps_marks-clause-letter
returns-else-keeps_marks-clause-letter c = λ table cs h. c.with_letter-state.ensures.letter table (ordered_from 0 cs) h.letter

pub returns-then-keeps_marks-clause-marks : goal.returns-then-keeps_marks-clause-marks
returns-then-keeps_marks-clause-marks c = λ table cs h.
    let depth = c.args.self.now.depth in
    let pattern = c.args.pattern.now in
    let ps = ordered_from 0 cs in
    let it = c.args.cluster in
    let state = c.with_letter-state.ensures in
    let base = c.spent.result in
    subst (λ d. IsClusterAt (Some d) table pattern ps (record { letter = c.with_letter-state.result.letter; base = base; before = it.before; last = it.last })) (sym (ap (λ (s : State). s.depth) state.rest))
    (cluster-with (Some depth) table pattern ps it c.with_letter-state.result.letter base state.closed c.spent.ensures.closed (λ qs of. state.letter table qs of) (λ qs of. c.spent.ensures.letter table qs of) h)
