use Rattle.std.proofs.Common.{◌≡◌, ◌≤◌, length, ◌∙◌, ap, arith}
use Rattle.nfd_points.specs.declared.points.Point.{Point}
use Rattle.circular_buffer.specs.Buffer.{Buffer}
use Rattle.collation_elements.proofs.Queues.{prefix_more, prefix_all, prefix_len}
use Rattle.collation_elements.proofs.queue.Queue.copy_prefix.Goals as goal

pub push-requires : goal.push-requires
push-requires c =
    let few : length c.loop-i.prefix.items ≤ c.loop-i.i = prefix_len c.args.self.now.items c.loop-i.i c.loop-i.prefix.items c.loop-i.invariant in
    (omega arith, omega (arith, few, c.loop-i-test.true, c.min-i-end.ensures, c.requires))

pub loop-i-preserved : goal.loop-i-preserved
loop-i-preserved c =
    prefix_more c.args.self.now.items c.loop-i.i c.point.result c.loop-i.prefix.items c.push.new.self.items c.loop-i.invariant c.point.ensures.point c.push.ensures.items

pub returns : goal.returns
returns c =
    let len : c.len.result ≡ length c.args.self.now.items = c.len.ensures.len ∙ ap (λ (q : Buffer Point). length q.items) c.self.view_is in
    prefix_all c.args.self.now.items c.args.count c.min-i-end.result c.loop-i.i c.loop-i.prefix.items c.loop-i.invariant (omega (arith, len, c.min-i-end.ensures)) c.loop-i-test.false c.loop-i.auto.i-end
