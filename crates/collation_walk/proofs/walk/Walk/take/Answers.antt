use Rattle.std.proofs.Common.{◌≡◌, ◌∷◌, ◌++◌, [], true, false, refl, sym, ap, subst, option_to_list, rules}
use Rattle.std.proofs.lemmas.Bool.{ne_eqb}
use Rattle.collation_elements.specs.declared.keys.Item.{Item}
use Rattle.collation_walk.specs.declared.walk.Walk.{Walk}
use Rattle.collation_walk.specs.Walks.{WalksOver}
use Rattle.collation_walk.proofs.WalkSteps.{walks-zero, walks-start, walks-key}
use Rattle.collation_walk.proofs.walk.Walk.take.Goals as goal

pub returns-in-ClusterStart-eq0-clause-walks : goal.returns-in-ClusterStart-eq0-clause-walks
returns-in-ClusterStart-eq0-clause-walks c = λ items ranges h.
    subst (λ (item : Item). WalksOver c.args.pattern.now.keys (items ++ item ∷ []) (ranges ++ []) c.args.self.now) (search rules)
    (walks-zero c.args.pattern.now.keys items ranges c.args.self.now h)

pub returns-in-ClusterStart-clause-walks : goal.returns-in-ClusterStart-clause-walks
returns-in-ClusterStart-clause-walks c = λ items ranges h.
    let old = c.args.self.now in
    let start = c.in-ClusterStart.start in
    let walk : Walk = record { state = old.state; places = old.places; start = start; has_keys = false; select = old.select; last_end = c.last_end_with-self.result } in
    let after : start ≡ 0 → ⊥ = rw c.in-ClusterStart.is at c.in-ClusterStart.start-test.1 in
    subst (λ (item : Item). WalksOver c.args.pattern.now.keys (items ++ item ∷ []) (ranges ++ option_to_list c.end-range.result) walk) (sym c.in-ClusterStart.is)
    (walks-start c.args.pattern.now.keys items ranges (option_to_list c.end-range.result) start old walk h (ne_eqb start 0 after) refl refl refl refl refl
    (c.last_end_with-self.ensures ranges h.last_end) (c.end-range.ensures.found items ranges h))

pub returns-in-Element-clause-walks : goal.returns-in-Element-clause-walks
returns-in-Element-clause-walks c = λ items ranges h.
    let old = c.args.self.now in
    let walk : Walk = record { state = c.advance-self.result; places = c.push_back.new.self; start = old.start; has_keys = true; select = old.select; last_end = old.last_end } in
    subst (λ (item : Item). WalksOver c.args.pattern.now.keys (items ++ item ∷ []) (ranges ++ []) walk) (sym c.in-Element.is)
    (walks-key c.args.pattern.now.keys items ranges c.in-Element.key old walk h refl refl c.advance-self.ensures.border
    (ap (λ b. b.capacity) c.push_back.ensures.items) refl refl (ap (λ b. b.items) c.push_back.ensures.items))
