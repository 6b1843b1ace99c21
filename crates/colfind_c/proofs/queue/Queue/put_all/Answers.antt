use Rattle.std.proofs.Common.{rules, sym, subst}
use Rattle.colfind_c.specs.Queues.{Gets}
use Rattle.std.proofs.lemmas.List.{take_more}
use Rattle.colfind_c.proofs.QueueLemmas.{gets_more}
use Rattle.colfind_c.proofs.queue.Queue.put_all.Goals as goal

pub loop-start-preserved : goal.loop-start-preserved
loop-start-preserved c = subst (λ xs. Gets c.args.self.now xs c.put.new.self) (sym (take_more c.args.ranges.now c.loop-start.start-index (0, 0) (search rules)))
    (gets_more _ _ _ _ _ c.loop-start.invariant c.put.ensures)
