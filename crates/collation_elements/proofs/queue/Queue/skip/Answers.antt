use Rattle.collation_elements.proofs.Queues.{IsQueue-removed, skipped}
use Rattle.collation_elements.proofs.queue.Queue.skip.Goals as goal

pub loop-skipped-preserved : goal.loop-skipped-preserved
loop-skipped-preserved c = (
  IsQueue-removed c.loop-skipped.self-inside.points c.pop_front.new.self 0 c.loop-skipped.invariant.0 c.pop_front.ensures.items,
  skipped c.loop-skipped.self-inside.points c.pop_front.new.self c.loop-skipped.skipped c.args.self.now.items c.args.self.now.capacity c.loop-skipped.invariant.1 c.pop_front.ensures.items,
)
