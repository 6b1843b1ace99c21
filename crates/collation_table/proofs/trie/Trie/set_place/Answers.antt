use Rattle.std.proofs.Common.{ap, sym, Some, subst}
use Rattle.collation_table.specs.declared.pages.Entry.{Entry}
use Rattle.collation_table.specs.declared.pages.PageEntry.{PageEntry}
use Rattle.collation_table.specs.Trie.{at, IsSet}
use Rattle.collation_table.proofs.TrieLemmas.{set_at_root, marked_at_root, step_at-root, AreFirst-root}
use Rattle.collation_table.proofs.trie.Trie.set_place.Goals as goal

pub returns-then-node-eq0-clause-set : goal.returns-then-node-eq0-clause-set
returns-then-node-eq0-clause-set c =
    subst (λ (e : Entry). IsSet (at c.args.self.now) (at (record c.args.self.now { pages = c.set_place.new.self })) c.args.node c.args.cp (record e { place = Some c.args.place }))
    (sym (step_at-root c.args.self.now.pages.pages.items c.args.self.now.steps c.args.node c.args.cp c.if-node-eq0.true))
    (set_at_root _ _ c.args.self.now.steps c.args.node c.args.cp _ c.if-node-eq0.true c.in_ok-set_place.ensures.here c.in_ok-set_place.ensures.others)

pub returns-then-node-eq0-clause-marked : goal.returns-then-node-eq0-clause-marked
returns-then-node-eq0-clause-marked c =
    marked_at_root _ _ c.args.self.now.steps c.args.cp (ap (λ (e : PageEntry). e.continues) c.in_ok-set_place.ensures.here) c.in_ok-set_place.ensures.others c.requires.marked

pub returns-clause-set : goal.returns-clause-set
returns-clause-set c =
    subst (λ (e : Entry). IsSet (at c.args.self.now) (at c.set_step.new.self) c.args.node c.args.cp (record e { place = Some c.args.place })) c.step-entry.ensures c.in_ok-set_step.ensures.set

pub returns-then-node-eq0-clause-firsts : goal.returns-then-node-eq0-clause-firsts
returns-then-node-eq0-clause-firsts c = AreFirst-root _ _ c.args.node c.args.cp _ c.args.self.now.firsts.steps.items (returns-then-node-eq0-clause-set c) c.if-node-eq0.true c.requires.firsts
