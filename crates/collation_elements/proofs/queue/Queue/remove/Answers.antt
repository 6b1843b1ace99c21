use Rattle.std.proofs.Common.{◌≡◌, remove, ◌∙◌, ap}
use Rattle.nfd_points.specs.declared.points.Point.{Point}
use Rattle.circular_buffer.specs.Buffer.{Buffer, buffer}
use Rattle.collation_elements.proofs.Queues.{removed, IsQueue-removed}
use Rattle.collation_elements.proofs.queue.Queue.remove.Goals as goal

pub invariant_of-self : goal.invariant_of-self
invariant_of-self c =
    let b = c.self.inside.points in
    let after : c.pop_front.new.self ≡ buffer (remove b.items c.args.index) b.capacity = removed b c.pop_front.new.self c.args.index c.make_contiguous.result.now c.move_to_front.new.points c.make_contiguous.ensures.value c.move_to_front.ensures c.move_to_front.auto.points c.make_contiguous.ensures.same_len c.pop_front.ensures.items in
    IsQueue-removed b c.pop_front.new.self c.args.index c.self.invariant after

pub returns : goal.returns
returns c =
    removed c.self.inside.points c.pop_front.new.self c.args.index c.make_contiguous.result.now c.move_to_front.new.points c.make_contiguous.ensures.value c.move_to_front.ensures c.move_to_front.auto.points c.make_contiguous.ensures.same_len c.pop_front.ensures.items
    ∙ ap (λ (q : Buffer Point). buffer (remove q.items c.args.index) q.capacity) c.self.view_is
