use Rattle.std.proofs.Common.{sym, ap, ◌∙◌, arith}
use Rattle.collation_table.specs.Trie.{or_no_entry}
use Rattle.collation_table.proofs.TrieLemmas.{step_at-deep}
use Rattle.collation_table.proofs.trie.Trie.step_in_map.Goals as goal

pub returns-in-Some : goal.returns-in-Some
returns-in-Some c = ap or_no_entry c.in-Some.ensures.value ∙ sym (step_at-deep _ c.args.self.now.steps c.args.node c.args.cp (λ e. absurd (omega (arith, e))))
