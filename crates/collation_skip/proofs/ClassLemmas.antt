-- What the letter of a character says of it as one of a kind.
use Rattle.std.proofs.Common.{◌≡◌, ◌≢◌, ◌∙◌, ◌⊎◌, inl, inr, ℕ, suc, ◌≤◌, ◌<◌, true, false, cond, Bool, List, [], ◌∷◌, ◌++◌, length, map, slice_get, Some, refl, sym, ap, ap₂, subst, arith}
use Rattle.std.proofs.lemmas.Bool.{cases_lt}
use Rattle.nfd_points.specs.declared.points.Point.{Point}
use Rattle.nfd_points.specs.Laws.{PointsAreShifted}
use Rattle.collation_table.specs.Table.{TableMap}
use Rattle.collation_elements.specs.declared.keys.Key.{Key}
use Rattle.collation_elements.specs.declared.keys.Item.{Item}
use Rattle.collation_elements.specs.declared.keys.Item.TheVariants.{ClusterStart, Element}
use Rattle.collation_elements.specs.Items.{items as items_of}
use Rattle.collation_elements.specs.ItemParts.{item_keys}
use Rattle.collation_elements.specs.Units.{units}
use Rattle.collation_pattern.specs.Compiled.{Compiled}
use Rattle.collation_letters.specs.declared.letter.Letter.{Letter}
use Rattle.collation_letters.specs.declared.letter.Role.TheVariants.{Steps}
use Rattle.collation_letters.specs.declared.symbols.Symbols.{Symbols}
use Rattle.collation_letters.specs.Letters.{begins_cluster, is_mark, keys_alone, ordered_from, IsPossible, IsLetter}
use Rattle.collation_letters.specs.Symbols.{AreLastSymbols, IsSymbol, SymbolsAreListed, listed, some_symbol}
use Rattle.collation_letters.proofs.CharacterLemmas.{ordered_is_shifted}
use Rattle.collation_letters.proofs.LetterApart.{starter-counted}
use Rattle.collation_skip.specs.declared.kinds.Kind.{Kind}
use Rattle.collation_skip.specs.Blocks.{items_at, most, Carry, Carries, StartsInFront, IsLone, IsNotAt, IsOfKind}
use Rattle.collation_skip.proofs.BorderSteps.{Borders, IsBelow, carry}
use Rattle.collation_skip.proofs.AsciiLemmas.{no_start}

-- ---- the items of a letter

-- a cluster that begins, or not, and keys
abbrev pub begun_items : Bool → ℕ → List Key → List Item
begun_items begins start keys = cond begins (ClusterStart start ∷ []) [] ++ map (λ key. Element key) keys

elements-keys : (keys : List Key) → item_keys (map (λ key. Element key) keys) ≡ keys
elements-keys [] = refl
elements-keys (k ∷ keys) = ap (λ (ks : List Key). k ∷ ks) (elements-keys keys)

begun-keys : (begins : Bool) (start : ℕ) (keys : List Key) → item_keys (begun_items begins start keys) ≡ keys
begun-keys true start keys = elements-keys keys
begun-keys false start keys = elements-keys keys

elements-start : {A : Type 0} (keys : List Key) (at : ℕ) (before more : List Item) → map (λ key. Element key) keys ≡ before ++ ClusterStart at ∷ more → A
elements-start [] at before more h = no_start at before more h
elements-start (k ∷ keys) at [] more h = absurd (cc)
elements-start (k ∷ keys) at (b ∷ before) more h = elements-start keys at before more (cc)

begun-front : (begins : Bool) (start : ℕ) (keys : List Key) → StartsInFront start (begun_items begins start keys)
begun-front true start keys [] more at h = (refl, cc)
begun-front true start keys (b ∷ before) more at h = elements-start keys at before more (cc)
begun-front false start keys before more at h = elements-start keys at before more h

pub letter-items : PointsAreShifted → (table : TableMap) (pattern : Compiled) (c : ℕ) (l : Letter) (after : Bool) (start : ℕ) → l.role ≢ Steps → IsPossible pattern.variable after → IsLetter table pattern (c ∷ []) l →
    items_at table pattern after start c ≡ begun_items (begins_cluster l.role) start (keys_alone table pattern (ordered_from 0 (c ∷ [])) after)
letter-items shift table pattern c l after start known may h =
    ap (λ (ps : List Point). items_of table pattern.strength pattern.variable after (units table ps)) (ordered_is_shifted shift start (c ∷ []))
    ∙ ((h.known known).items after may).items start

pub lone-listed : SymbolsAreListed → (s : Symbols) → s.first ≡ 255 → s.second ≡ 255 → listed s ≡ some_symbol s.third
lone-listed law s first second = law s ∙ ap₂ (λ (x y : List ℕ). x ++ (y ++ some_symbol s.third)) (ap some_symbol first) (ap some_symbol second)

pub letter-symbols : SymbolsAreListed → (table : TableMap) (pattern : Compiled) (c : ℕ) (l : Letter) (after : Bool) → l.role ≢ Steps → is_mark l.role ≡ false → l.symbols.first ≡ 255 → l.symbols.second ≡ 255 →
    IsPossible pattern.variable after → IsLetter table pattern (c ∷ []) l → AreLastSymbols pattern.keys (keys_alone table pattern (ordered_from 0 (c ∷ [])) after) (some_symbol l.symbols.third)
letter-symbols law table pattern c l after known starter first second may h =
    subst (AreLastSymbols pattern.keys (keys_alone table pattern (ordered_from 0 (c ∷ [])) after)) (starter-counted l.role after (listed l.symbols) starter ∙ lone-listed law l.symbols first second)
    ((h.known known).items after may).symbols_are

-- ---- a kind

pub record KindLaws : Type 0 where
  pub borders : Borders
  pub shifted : PointsAreShifted
  pub listed : SymbolsAreListed

carries-of : KindLaws → (table : TableMap) (pattern : Compiled) (c from to : ℕ) (l : Letter) → IsLone l → IsLetter table pattern (c ∷ []) l → (255 ≤ l.symbols.third → from ≤ to) →
    (l.symbols.third < 255 → (key : Key) → IsSymbol pattern.keys key l.symbols.third → IsBelow pattern.keys from to key) → Carries table pattern c from to
carries-of laws table pattern c from to l lone h none below = λ after may start.
    let keys = keys_alone table pattern (ordered_from 0 (c ∷ [])) after in
    let same : item_keys (items_at table pattern after start c) ≡ keys =
    ap item_keys (letter-items laws.shifted table pattern c l after start lone.known may h) ∙ begun-keys (begins_cluster l.role) start keys in
    subst (Carry pattern.keys from to) (sym same) (carry laws.borders pattern.keys keys l.symbols.third from to (letter-symbols laws.listed table pattern c l after lone.known lone.starter lone.first lone.second may h) none below)

below-two : (pattern : List Key) (symbol place from : ℕ) → from ≤ suc place → IsNotAt pattern symbol place → IsNotAt pattern symbol from → symbol < 255 → (key : Key) → IsSymbol pattern key symbol → IsBelow pattern from place key
below-two pattern symbol place from less not behind small key is = λ n at within.
    let other : n ≢ place = λ e. not small key is (subst (λ i. slice_get pattern i ≡ Some key) e at) in
    let last : n ≢ from = λ e. behind small key is (subst (λ i. slice_get pattern i ≡ Some key) e at) in
    omega (arith, within, other, last, less)

same-or-more : (pattern : List Key) (place : ℕ) → place < length pattern → (most pattern place ≡ place) ⊎ (suc place ≤ most pattern place)
same-or-more pattern place within = elim (cases_lt place (most pattern place)) [
  | inl less ↦ inr (omega (arith, less))
  | inr not_less ↦ inl (omega (arith, within, not_less))
]

pub kind-says : KindLaws → (table : TableMap) (pattern : Compiled) (place c : ℕ) (l : Letter) (kind : Kind) → IsLetter table pattern (c ∷ []) l → place < length pattern.keys →
    (kind.halt ≡ false → IsLone l) → (kind.halt ≡ false → most pattern.keys place ≡ place → IsNotAt pattern.keys l.symbols.third place) →
    (kind.key ≡ false → IsNotAt pattern.keys l.symbols.third place) → (kind.later ≡ false → (l.symbols.third < 255) × IsNotAt pattern.keys l.symbols.third (most pattern.keys place)) →
    (kind.joins ≡ false → l.is_closed ≡ true) → (kind.inner ≡ false → l.is_apart ≡ true) → IsOfKind table pattern place c kind
kind-says laws table pattern place c l kind h within lone same key later closed apart =
    let top = most pattern.keys place in
    let reach : top ≤ suc place = omega arith in
    let low : place ≤ top = omega (arith, within) in
    let P = pattern.keys in
    let s = l.symbols.third in
    record {
      whole = λ going after may start.
          subst (StartsInFront start) (sym (letter-items laws.shifted table pattern c l after start (lone going).known may h))
          (begun-front (begins_cluster l.role) start (keys_alone table pattern (ordered_from 0 (c ∷ [])) after));
      any = λ going. carries-of laws table pattern c place top l (lone going) h (λ _. low) (λ small k is n at less. any-step going small k is n at less);
      other = λ going other. carries-of laws table pattern c place place l (lone going) h (λ _. omega arith) (λ small k is n at less. not-at place small k (key other) is n at less);
      behind = λ going not_later. carries-of laws table pattern c top top l (lone going) h (λ _. omega arith) (λ small k is n at less. not-at top small k (later not_later).1 is n at less);
      back = λ going other not_later.
          carries-of laws table pattern c top place l (lone going) h (λ many. absurd (let some = (later not_later).0 in omega (arith, many, some))) (λ small k is. below-two P s place top reach (key other) (later not_later).1 small k is);
      closed = λ e. h.closed (closed e);
      apart = λ e. h.apart (apart e);
    }
  where
    not-at : (p : ℕ) → l.symbols.third < 255 → (k : Key) → IsNotAt pattern.keys l.symbols.third p → IsSymbol pattern.keys k l.symbols.third → (n : ℕ) → slice_get pattern.keys n ≡ Some k → n ≤ p → suc n ≤ p
    not-at p small k not is n at less =
        let other : n ≢ p = λ e. not small k is (subst (λ i. slice_get pattern.keys i ≡ Some k) e at) in omega (arith, less, other)

    any-step : kind.halt ≡ false → l.symbols.third < 255 → (k : Key) → IsSymbol pattern.keys k l.symbols.third → (n : ℕ) → slice_get pattern.keys n ≡ Some k → n ≤ place → suc n ≤ most pattern.keys place
    any-step going small k is n at less = elim (same-or-more pattern.keys place within) [
      | inl equal ↦ subst (λ t. suc n ≤ t) (sym equal) (not-at place small k (same going equal) is n at less)
      | inr more ↦ omega (arith, more, less)
    ]
