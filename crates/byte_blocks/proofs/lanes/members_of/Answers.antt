use Rattle.byte_blocks.proofs.LaneLemmas.{member}
use Rattle.byte_blocks.proofs.lanes.members_of.Goals as goal

pub returns : goal.returns
returns c = record {
  long = c.members.ensures.long;
  each = λ k less. member c.args.set.now c.args.here c.columns.result c.members.result c.columns.ensures c.members.ensures k less;
}
