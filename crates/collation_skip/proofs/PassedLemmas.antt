-- That text may be passed by has one proof at most, so far as it matters: what is merely so is so.
use Rattle.std.proofs.Common.{◌≡◌, ◌∙◌, ℕ, ◌<◌, ◌≤◌, length, Bool, true, false, cond, if◌then◌else◌, List, [], ◌∷◌, ◌++◌, map, Contains, refl, sym, ap, ap₂, subst}
use Rattle.std.proofs.Math.Logic.{∥∥₁_elim}
use Rattle.std.proofs.Props.{props}
use Rattle.collation_table.specs.Table.{TableMap}
use Rattle.collation_elements.specs.declared.keys.Key.{Key}
use Rattle.collation_elements.specs.declared.keys.Item.{Item}
use Rattle.collation_elements.specs.declared.keys.Item.TheVariants.{ClusterStart, Element}
use Rattle.collation_elements.specs.ItemParts.{item_keys}
use Rattle.collation_pattern.specs.Border.{border}
use Rattle.collation_pattern.specs.Compiled.{Compiled}
use Rattle.collation_skip.specs.Passed.{IsPassed, IsQuiet}
use Rattle.collation_skip.specs.Reached.{items_from}
use Rattle.collation_skip.proofs.ItemLemmas.{keys-letter}

-- ---- the last start of a cluster

has_start : List Item → Bool
has_start [] = false
has_start (ClusterStart start ∷ items) = true
has_start (Element key ∷ items) = has_start items

before_last : List Item → List Item
before_last [] = []
before_last (i ∷ items) = let earlier = i ∷ before_last items in if has_start items then earlier else []

after_last : List Item → List Item
after_last [] = []
after_last (i ∷ items) = let later = after_last items in if has_start items then later else items

none-start : (keys : List Key) → has_start (map (λ key. Element key) keys) ≡ false
unfolding has_start
none-start [] = refl
none-start (k ∷ keys) = none-start keys

some-start : (before : List Item) (start : ℕ) (items : List Item) → has_start (before ++ ClusterStart start ∷ items) ≡ true
unfolding has_start
some-start [] start items = refl
some-start (ClusterStart at ∷ before) start items = refl
some-start (Element key ∷ before) start items = some-start before start items

before-is : (before : List Item) (start : ℕ) (keys : List Key) → before_last (before ++ ClusterStart start ∷ map (λ key. Element key) keys) ≡ before
unfolding before_last
before-is [] start keys = ap (λ b. let earlier : List Item = ClusterStart start ∷ before_last (map (λ key. Element key) keys) in cond b earlier []) (none-start keys)
before-is (i ∷ before) start keys =
    let rest = before ++ ClusterStart start ∷ map (λ key. Element key) keys in
    ap (λ b. let earlier : List Item = i ∷ before_last rest in cond b earlier []) (some-start before start (map (λ key. Element key) keys)) ∙ ap (λ (l : List Item). i ∷ l) (before-is before start keys)

after-is : (before : List Item) (start : ℕ) (keys : List Key) → after_last (before ++ ClusterStart start ∷ map (λ key. Element key) keys) ≡ map (λ key. Element key) keys
unfolding after_last
after-is [] start keys = ap (λ b. let later : List Item = after_last (map (λ key. Element key) keys) in cond b later (map (λ key. Element key) keys)) (none-start keys)
after-is (i ∷ before) start keys =
    let rest = before ++ ClusterStart start ∷ map (λ key. Element key) keys in
    ap (λ b. let later : List Item = after_last rest in cond b later rest) (some-start before start (map (λ key. Element key) keys)) ∙ after-is before start keys

-- ---- what is merely so

pub passed-had : (table : TableMap) (pattern : Compiled) (start last : ℕ) (cs : List ℕ) (next : ℕ) → ∥ IsPassed table pattern start last cs next ∥₁ → IsPassed table pattern start last cs next
passed-had table pattern start last cs next h =
    let all = items_from table pattern start cs in
    let before = before_last all in
    let keys = item_keys (after_last all) in
    let before_same : (p : IsPassed table pattern start last cs next) → p.before ≡ before = λ p. sym (before-is p.before last p.keys) ∙ ap before_last (sym p.items) in
    let keys_same : (p : IsPassed table pattern start last cs next) → p.keys ≡ keys = λ p.
    sym (keys-letter false 0 p.keys) ∙ ap item_keys (sym (after-is p.before last p.keys) ∙ ap after_last (sym p.items)) in
    record {
      begins = ∥∥₁_elim h (hlevel props) (λ p. p.begins);
      is_next = ∥∥₁_elim h (hlevel props) (λ p. p.is_next);
      before = before;
      keys = keys;
      items = ∥∥₁_elim h (hlevel props) (λ p. p.items ∙ ap₂ (λ (x : List Item) (y : List Key). x ++ ClusterStart last ∷ map (λ key. Element key) y) (before_same p) (keys_same p));
      flag = ∥∥₁_elim h (hlevel props) (λ p. p.flag);
      quiet = ∥∥₁_elim h (hlevel props) (λ p. subst (λ (l : List Item). IsQuiet pattern.keys (l ++ ClusterStart last ∷ [])) (before_same p) p.quiet);
      later = ∥∥₁_elim h (hlevel props) (λ p. subst (λ (l : List Item). (at : ℕ) → Contains l (ClusterStart at) → start ≤ at) (before_same p) p.later);
      after_start = ∥∥₁_elim h (hlevel props) (λ p. p.after_start);
      some = ∥∥₁_elim h (hlevel props) (λ p. subst (λ (l : List Key). 0 < length l) (keys_same p) p.some);
      none_waits = ∥∥₁_elim h (hlevel props) (λ p. sym (ap₂ (λ (x : List Item) (y : List Key). border pattern.keys (item_keys x ++ y)) (before_same p) (keys_same p)) ∙ p.none_waits);
    }
