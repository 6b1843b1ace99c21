-- Each code point has what it had; the pages grow towards the number.
use Rattle.std.proofs.Common.{◌≡◌, ℕ, ◌+◌, ◌-◌, length}
use Rattle.collation_table.specs.Trie.{page_entry}
use Rattle.collation_table.proofs.pages.Pages.add_page.Given as goal

abbrev pub invariant-loop-alloc : goal.invariant-loop-alloc
invariant-loop-alloc l = (q : ℕ) → page_entry l.self.pages.items q ≡ page_entry l.initial.self.pages.items q

abbrev pub decreases-loop-alloc : goal.decreases-loop-alloc
decreases-loop-alloc l = l.number + 1 - length l.self.pages.items
