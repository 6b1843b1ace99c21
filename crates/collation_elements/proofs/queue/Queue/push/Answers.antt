use Rattle.std.proofs.Common.{◌<◌, length}
use Rattle.collation_elements.proofs.Queues.{IsQueue-push}
use Rattle.collation_elements.proofs.queue.Queue.push.Goals as goal

pub invariant_of-self : goal.invariant_of-self
invariant_of-self c =
    let room : length c.self.inside.points.items < c.self.inside.points.capacity = rw c.self.view_is c.requires.room in
    IsQueue-push c.self.inside.points c.push_back.new.self c.args.p c.self.invariant room c.requires.code_point c.push_back.ensures.items
