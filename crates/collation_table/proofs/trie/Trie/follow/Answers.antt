use Rattle.std.proofs.Common.{sym, ap, ◌∙◌}
use Rattle.collation_table.specs.declared.pages.Entry.{Entry}
use Rattle.collation_table.specs.Trie.{at}
use Rattle.collation_table.proofs.TrieLemmas.{Leads-end}
use Rattle.collation_table.proofs.trie.Trie.follow.Goals as goal

pub returns-in-Some-clause-leads : goal.returns-in-Some-clause-leads
returns-in-Some-clause-leads c = λ prefix leads.
    Leads-end (at c.args.self.now) 0 prefix c.args.node c.args.cp c.in-Some.next leads (sym (ap (λ (e : Entry). e.node) c.step-entry.ensures) ∙ c.in-Some.is)
