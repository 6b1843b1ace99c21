use Rattle.std.proofs.Common.{ap, ◌∙◌}
use Rattle.collation_table.specs.declared.pages.PageEntry.{PageEntry}
use Rattle.collation_table.proofs.TrieLemmas.{set_at_root, set_after, marked_at_root, marked_after, AreFirst-root}
use Rattle.collation_table.proofs.trie.Trie.set_step.Goals as goal

pub returns-then-node-eq0-clause-set : goal.returns-then-node-eq0-clause-set
returns-then-node-eq0-clause-set c = set_at_root _ _ c.args.self.now.steps c.args.node c.args.cp _ c.if-node-eq0.true c.in_ok-set.ensures.here c.in_ok-set.ensures.others

pub returns-then-node-eq0-clause-marked : goal.returns-then-node-eq0-clause-marked
returns-then-node-eq0-clause-marked c =
    marked_at_root _ _ c.args.self.now.steps c.args.cp (ap (λ (e : PageEntry). e.continues) (c.in_ok-set.ensures.here) ∙ ap (λ (e : PageEntry). e.continues) c.get-page_entry.ensures) c.in_ok-set.ensures.others c.requires.marked

pub returns-clause-set : goal.returns-clause-set
returns-clause-set c =
    set_after _ _ c.args.self.now.steps c.insert.new.self c.args.node c.args.cp c.args.entry c.if-node-eq0.false
    (ap (λ (e : PageEntry). e.entry) c.in_ok-set-2.ensures.here ∙ ap (λ (e : PageEntry). e.entry) c.get-page_entry.ensures)
    c.in_ok-set-2.ensures.others c.in_ok-insert.ensures.updates.1 c.in_ok-insert.ensures.updates.2

pub returns-clause-marked : goal.returns-clause-marked
returns-clause-marked c =
    marked_after _ _ c.args.self.now.steps c.insert.new.self c.args.node c.args.cp (ap (λ (e : PageEntry). e.continues) c.in_ok-set-2.ensures.here)
    c.in_ok-set-2.ensures.others c.in_ok-insert.ensures.updates.2 c.requires.marked

pub returns-then-node-eq0-clause-firsts : goal.returns-then-node-eq0-clause-firsts
returns-then-node-eq0-clause-firsts c = AreFirst-root _ _ c.args.node c.args.cp _ c.args.self.now.firsts.steps.items (returns-then-node-eq0-clause-set c) c.if-node-eq0.true c.requires.firsts

pub returns-clause-firsts : goal.returns-clause-firsts
returns-clause-firsts c = c.in_ok-set-3.ensures _ _ (returns-clause-set c) c.requires.firsts
