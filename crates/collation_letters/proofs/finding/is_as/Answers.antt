use Rattle.std.proofs.Common.{◌≡◌, ◌∙◌, Bool, true, false, ◌&&◌, Option, None, Some, refl, sym, ap, rules}
use Rattle.std.specs.Option.{option_eq}
use Rattle.std.specs.Bool.{beq}
use Rattle.std.proofs.lemmas.Bool.{false≢true, and_parts}
use Rattle.std.proofs.lemmas.Option.{same_Some}
use Rattle.collation_elements.specs.declared.keys.Key.{Key}
use Rattle.collation_elements.specs.declared.character.CharacterItems.{CharacterItems}
use Rattle.collation_elements.specs.contracts.keys.KeyPartialEq.TheImpl.{ghosts as key}
use Rattle.collation_elements.specs.contracts.character.CharacterItemsPartialEq.TheImpl.{ghosts as items}
use Rattle.collation_letters.proofs.finding.is_as.Goals as goal

same-bool : (a b : Bool) → beq a b ≡ true → a ≡ b
same-bool false false h = refl
same-bool false true h = absurd (false≢true h)
same-bool true false h = absurd (false≢true h)
same-bool true true h = refl

same-key : (k l : Key) → key.eq k l ≡ true → k ≡ l
same-key k l h = search rules depth 4

same-option : (o p : Option Key) → option_eq key.eq o p ≡ true → o ≡ p
same-option None None h = refl
same-option None (Some l) h = absurd (false≢true h)
same-option (Some k) None h = absurd (false≢true h)
same-option (Some k) (Some l) h = ap Some (same-key k l h)

value : Bool → Option Key → Option Key → Option Key → Bool → CharacterItems
value b f s t v = record { begins_cluster = b; first = f; second = s; third = t; after_variable = v }

same-value : (b c : Bool) (f g s r t u : Option Key) (v w : Bool) → b ≡ c → f ≡ g → s ≡ r → t ≡ u → v ≡ w → value b f s t v ≡ value c g r u w
same-value b c f g s r t u v w e1 e2 e3 e4 e5 = cc

same-items : (a b : CharacterItems) → a.begins_cluster ≡ b.begins_cluster → a.first ≡ b.first → a.second ≡ b.second → a.third ≡ b.third → a.after_variable ≡ b.after_variable → a ≡ b
unfolding value
same-items a b begins first second third after = same-value _ _ _ _ _ _ _ _ _ _ begins first second third after

same : (a b : CharacterItems) → items.eq a b ≡ true → a ≡ b
same a b h =
    let all : (beq a.begins_cluster b.begins_cluster && (option_eq key.eq a.first b.first && (option_eq key.eq a.second b.second && (option_eq key.eq a.third b.third && beq a.after_variable b.after_variable)))) ≡ true = h in
    let begins = and_parts _ _ all in
    let first = and_parts _ _ begins.1 in
    let second = and_parts _ _ first.1 in
    let third = and_parts _ _ second.1 in
    same-items a b (same-bool _ _ begins.0) (same-option _ _ first.0) (same-option _ _ second.0) (same-option _ _ third.0) (same-bool _ _ third.1)

pub returns-in-Some : goal.returns-in-Some
returns-in-Some c = λ yes it is.
    same_Some _ _ (sym is ∙ c.in-Some.is) ∙ same c.in-Some.after c.args.plain.now (sym c.eq.ensures ∙ yes)
