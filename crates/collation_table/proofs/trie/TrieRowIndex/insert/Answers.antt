use Rattle.std.proofs.Common.{◌-◌, ◌∙◌, sym, ap, subst, refl, arith, length, take, get_or}
use Rattle.collation_table.specs.Trie.{at, place_of, IsTrieOf}
use Rattle.collation_table.proofs.TrieLemmas.{IsTrieOf-put, place_from-put_here, place_from-put_other, split_last}
use Rattle.collation_table.proofs.trie.TrieRowIndex.insert.Goals as goal

pub returns-clause-here : goal.returns-clause-here
returns-clause-here c =
    let n = length c.args.string.now - 1 in
    let whole = split_last c.args.string.now n (omega arith) in
    ap (place_of c.set_place.new.self) whole
    ∙ place_from-put_here (at c.follow_all.new.self) (at c.set_place.new.self) c.in_ok-node.node (get_or c.args.string.now n 0) _ c.in_ok-set_place.ensures.set refl (take n c.args.string.now) c.in_ok-node.ensures.leads

pub returns-clause-others : goal.returns-clause-others
returns-clause-others c = λ q other.
    let n = length c.args.string.now - 1 in
    let whole = split_last c.args.string.now n (omega arith) in
    place_from-put_other (at c.follow_all.new.self) (at c.set_place.new.self) c.in_ok-node.node (get_or c.args.string.now n 0) _ c.follow_all.new.self.nodes c.in_ok-set_place.ensures.set refl c.in_ok-node.ensures.trie.steps (take n c.args.string.now) c.in_ok-node.ensures.leads
    q (λ h. other (h ∙ sym whole)) ∙ c.in_ok-node.ensures.same q

pub returns-clause-whole : goal.returns-clause-whole
returns-clause-whole c = record {
  steps = subst (λ n. IsTrieOf (at c.set_place.new.self) n) (sym c.in_ok-set_place.ensures.nodes) (IsTrieOf-put (at c.follow_all.new.self) (at c.set_place.new.self) c.in_ok-node.node _ _ c.follow_all.new.self.nodes c.in_ok-set_place.ensures.set refl c.in_ok-node.ensures.used c.in_ok-node.ensures.trie.steps);
  marked = c.in_ok-set_place.ensures.marked;
  firsts = c.in_ok-set_place.ensures.firsts;
}
