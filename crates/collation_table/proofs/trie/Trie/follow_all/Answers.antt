use Rattle.std.proofs.Common.{◌∙◌, take, sym, subst}
use Rattle.std.proofs.lemmas.List.{take_more}
use Rattle.collation_table.specs.Trie.{at, Leads}
use Rattle.collation_table.proofs.trie.Trie.follow_all.Goals as goal

pub loop-cp-preserved : goal.loop-cp-preserved
loop-cp-preserved c = record {
  trie = c.in_ok-node.ensures.trie;
  used = c.in_ok-node.ensures.used;
  same = λ string. c.in_ok-node.ensures.same string ∙ c.loop-cp.invariant.same string;
  leads = subst (λ p. Leads (at c.follow.new.self) 0 p c.in_ok-node.node) (sym (take_more c.args.cps.now c.loop-cp.cp-index 0 c.loop-cp-test.true)) (c.in_ok-node.ensures.leads (take c.loop-cp.cp-index c.args.cps.now) c.loop-cp.invariant.leads);
}
