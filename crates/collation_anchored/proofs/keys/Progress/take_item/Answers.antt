use Rattle.std.proofs.Common.{◌≡◌, ◌∙◌, ℕ, true, false, Option, Some, None, is_some, not, refl, sym, ap}
use Rattle.collation_anchored.proofs.BegunKeys.{other_key}
use Rattle.collation_anchored.proofs.CompletedKeys.{key_passes, start_completes, start_passes}
use Rattle.collation_anchored.proofs.keys.Progress.take_item.Goals as goal
use Rattle.collation_anchored.proofs.keys.Progress.take_item.Goals.{else-is_none-via-then-is_none+then-self-keys+else-start-ne0, else-is_none-via-then-is_none+else-self-keys, else-is_none-via-else-is_none}

none_of : (found : Option ℕ) → is_some found ≡ false → found ≡ None
none_of None h = refl
none_of (Some at) h = cc

some_of : (found : Option ℕ) → found ≡ None → is_some found ≡ true → ⊥
some_of None none h = cc
some_of (Some at) none h = cc

pub returns-then-start-ne0-clause-completed : goal.returns-then-start-ne0-clause-completed
returns-then-start-ne0-clause-completed c = λ earlier within keys found.
    let none = none_of c.args.self.now.completed (c.is_none.ensures ∙ ap not c.if-is_none.true) in
    rw c.in-ClusterStart.is
    (start_completes c.args.keys.now earlier c.args.self.now.matched c.in-ClusterStart.start keys (sym none ∙ found) c.if-self-keys.true c.if-start-ne0.true)

pub returns-else-is_none-clause-completed : goal.returns-else-is_none-clause-completed
returns-else-is_none-clause-completed c = λ earlier within keys found.
    rw c.in-ClusterStart.is
    (start_passes c.args.keys.now earlier c.args.self.now.matched c.in-ClusterStart.start c.args.self.now.completed within keys found
    (λ none all. elim c.else-is_none.branch [
      | else-is_none-via-then-is_none+then-self-keys+else-start-ne0 w ↦ w.if-start-ne0.false
      | else-is_none-via-then-is_none+else-self-keys w ↦ absurd (w.if-self-keys.false all)
      | else-is_none-via-else-is_none w ↦ absurd (some_of c.args.self.now.completed none (c.is_none.ensures ∙ ap not w.if-is_none.false))
    ]))

pub returns-then-is_next-clause-completed : goal.returns-then-is_next-clause-completed
returns-then-is_next-clause-completed c = λ earlier within keys found.
    rw c.in-Element.is (key_passes c.args.keys.now earlier c.in-Element.key c.args.self.now.completed found)

pub returns-else-is_next-clause-completed : goal.returns-else-is_next-clause-completed
returns-else-is_next-clause-completed c = λ earlier within keys found.
    rw c.in-Element.is (key_passes c.args.keys.now earlier c.in-Element.key c.args.self.now.completed found)

pub returns-else-is_next-clause-apart : goal.returns-else-is_next-clause-apart
returns-else-is_next-clause-apart c = λ within apart.
    rw c.in-Element.is
    (other_key c.args.keys.now c.args.self.now.matched c.in-Element.key within
    (λ n. let both : true ≡ false = sym (c.is_next-is_next.ensures.next.1 n) ∙ c.if-is_next.false in cc))
