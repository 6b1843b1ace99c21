use Rattle.std.proofs.Common.{arith, refl, length}
use Rattle.colfind_c.specs.Queues.{waiting}
use Rattle.colfind_c.proofs.QueueLemmas.{all_taken}
use Rattle.colfind_c.proofs.owned.Session.hand_over.Goals as goal

pub returns-else-count-out-clause-all : goal.returns-else-count-out-clause-all
returns-else-count-out-clause-all c = λ few. (
  refl,
  all_taken (waiting c.args.self.now.queue) (waiting c.take.new.self) c.take.new.out c.len-count.result (length c.args.out.now) c.take.result c.len-count.ensures few c.take.ensures.count
      (omega (arith, c.take.ensures.len)) c.take.ensures.given,
)
