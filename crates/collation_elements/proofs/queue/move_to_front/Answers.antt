use Rattle.collation_elements.proofs.Queues.{moved}
use Rattle.collation_elements.proofs.queue.move_to_front.Goals as goal

pub returns : goal.returns
returns c = moved c.args.points.now c.args.index c.rotate_right.new.self c.requires c.rotate_right.ensures.after
