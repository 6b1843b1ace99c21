use Rattle.std.proofs.Common.{◌≡◌, ◌+◌, sym, ap, refl, arith, rules, subst}
use Rattle.collation_table.specs.declared.pages.Entry.{Entry}
use Rattle.collation_table.specs.Trie.{at, IsTrieOf}
use Rattle.collation_table.proofs.TrieLemmas.{IsTrieOf-add, place_from-add, add_keeps, Leads-kept, Leads-end}
use Rattle.collation_table.proofs.trie.Trie.add_node.Goals as goal

pub returns-clause-trie : goal.returns-clause-trie
returns-clause-trie c =
    let one_more : c.args.self.now.nodes + 1 ≡ c.in-Some.nodes = first_of (omega (arith, c.in-Some.ensures), search rules) in
    record {
      steps = subst (λ n. IsTrieOf (at c.set_step.new.self) n) one_more (IsTrieOf-add _ (at c.set_step.new.self) c.args.node c.args.cp _ c.args.self.now.nodes c.in_ok-set_step.ensures.set refl c.requires.used c.requires.trie.steps);
      marked = c.in_ok-set_step.ensures.marked;
      firsts = c.in_ok-set_step.ensures.firsts;
    }

pub returns-clause-same : goal.returns-clause-same
returns-clause-same c = λ string.
    place_from-add (at c.args.self.now) (at c.set_step.new.self) c.args.node c.args.cp _ c.args.self.now.nodes c.in_ok-set_step.ensures.set (sym (ap (λ (e : Entry). e.place) c.requires.none)) refl (ap (λ (e : Entry). e.node) c.requires.none) c.requires.used
    (λ d. c.requires.trie.steps.fresh c.args.self.now.nodes d (omega arith)) 0 string

pub returns-clause-leads : goal.returns-clause-leads
returns-clause-leads c = λ prefix leads.
    let set = c.in_ok-set_step.ensures.set in
    Leads-end (at c.set_step.new.self) 0 prefix c.args.node c.args.cp c.args.self.now.nodes
    (Leads-kept (at c.args.self.now) (at c.set_step.new.self) (add_keeps (at c.args.self.now) (at c.set_step.new.self) c.args.node c.args.cp _ set (ap (λ (e : Entry). e.node) c.requires.none)) 0 prefix c.args.node leads)
    (ap (λ (e : Entry). e.node) set.hit)
