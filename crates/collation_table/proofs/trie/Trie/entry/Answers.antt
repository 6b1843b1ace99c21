use Rattle.std.proofs.Common.{◌∙◌, ◌-◌, ◌++◌, ℕ, List, sym, arith, take, length, drop, length-append, length-drop}
use Rattle.collation_table.specs.Trie.{at}
use Rattle.collation_table.proofs.TrieLemmas.{seek_ends, seek_nowhere}
use Rattle.collation_table.proofs.trie.Trie.entry.Goals as goal

pub returns-in-None : goal.returns-in-None
returns-in-None c = λ more.
    let rest : List ℕ = take (length c.args.string.now - 1) (drop 1 c.args.string.now) in
    let left : List ℕ = drop c.loop-cp.cp-index rest in
    seek_nowhere (at c.args.self.now) more
    ∙ sym (seek_ends (at c.args.self.now) c.loop-cp.entry (left ++ more) (omega (arith, length-append left more, length-drop c.loop-cp.cp-index rest)) c.in-None.is) ∙ c.loop-cp.invariant more
