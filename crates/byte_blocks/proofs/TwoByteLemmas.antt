-- Text of characters of one and of two bytes that passes: the blocks that it is made of, and a lane.
use Rattle.std.proofs.Common.{◌≡◌, ◌↔◌, ◌∙◌, ℕ, zero, suc, ◌+◌, ◌-◌, ◌≤◌, ◌<◌, min, max, List, ◌∷◌, length, get_or, subst, sym, arith, inl, inr, bit_or}
use Rattle.std.proofs.lemmas.Bool.{cases_lt}
use Rattle.byte_blocks.specs.declared.sets.TwoByteSets.{TwoByteSets}
use Rattle.byte_blocks.specs.Sets.{is_in, leads, trails}
use Rattle.byte_blocks.specs.TwoBytes.{DoesNotGoOn, GoesOn, Pass, StopsAt}
use Rattle.byte_blocks.proofs.LaneLemmas.{min-zero, or-left, or-right, or-none}

-- the first two bytes
pub pass-begins : (sets : TwoByteSets) (bytes : List ℕ) → 2 ≤ length bytes → is_in sets.halt (get_or bytes 0 0) ≡ 0 → trails (get_or bytes 0 0) ≡ 0 → GoesOn sets 0 (get_or bytes 0 0) (get_or bytes 1 0) → Pass sets bytes 2
pass-begins sets bytes long going begins second = record {
  within = long;
  going = λ _. going;
  begins = λ _. begins;
  each = λ i less. at i less;
}
  where
    at : (i : ℕ) → suc i < 2 → GoesOn sets (get_or (0 ∷ bytes) i 0) (get_or bytes i 0) (get_or bytes (suc i) 0)
    at zero less = second
    at (suc i) less = absurd (omega (arith, less))

-- the bytes before a place, as they are asked for and as they are loaded
moved : (sets : TwoByteSets) (bytes : List ℕ) (i a b c : ℕ) → 1 ≤ i → a ≡ i - 1 → b ≡ i → c ≡ suc i → GoesOn sets (get_or bytes a 0) (get_or bytes b 0) (get_or bytes c 0) → GoesOn sets (get_or (0 ∷ bytes) i 0) (get_or bytes i 0) (get_or bytes (suc i) 0)
moved sets bytes zero a b c some first second third goes = absurd (omega (arith, some))
moved sets bytes (suc i) a b c some first second third goes =
    let here : a ≡ i = omega (arith, first) in
    subst (λ j. GoesOn sets (get_or bytes i 0) (get_or bytes (suc i) 0) (get_or bytes j 0)) third
    (subst (λ j. GoesOn sets (get_or bytes i 0) (get_or bytes j 0) (get_or bytes c 0)) second
    (subst (λ j. GoesOn sets (get_or bytes j 0) (get_or bytes b 0) (get_or bytes c 0)) here goes))

-- a block that begins amid the bytes that pass
pub pass-over : (sets : TwoByteSets) (bytes : List ℕ) (len at lanes n : ℕ) → 2 ≤ at → at ≤ len → at + lanes ≤ length bytes → len ≤ n → n ≤ max len (at + lanes) → Pass sets bytes len →
    ((k : ℕ) → k < lanes → GoesOn sets (get_or bytes (at - 2 + k) 0) (get_or bytes (at - 1 + k) 0) (get_or bytes (at + k) 0)) → Pass sets bytes n
pass-over sets bytes len at lanes n some amid within more most p block =
    let long = p.within in
    record {
      within = omega (arith, long, within, most);
      going = λ _. p.going (omega (arith, some, amid));
      begins = λ _. p.begins (omega (arith, some, amid));
      each = λ i less. here i less;
    }
  where
    here : (i : ℕ) → suc i < n → GoesOn sets (get_or (0 ∷ bytes) i 0) (get_or bytes i 0) (get_or bytes (suc i) 0)
    here i less = elim (cases_lt (suc i) len) [
      | inl before ↦ p.each i before
      | inr behind ↦
          let k = suc i - at in
          moved sets bytes i (at - 2 + k) (at - 1 + k) (at + k) (omega (arith, behind, amid, some)) (omega (arith, behind, amid, some)) (omega (arith, behind, amid, some)) (omega (arith, behind, amid))
          (block k (omega (arith, behind, less, most, amid)))
    ]

-- a block behind them
pub pass-more : (sets : TwoByteSets) (bytes : List ℕ) (len lanes : ℕ) → 2 ≤ len → len + lanes ≤ length bytes → Pass sets bytes len →
    ((k : ℕ) → k < lanes → GoesOn sets (get_or bytes (len - 2 + k) 0) (get_or bytes (len - 1 + k) 0) (get_or bytes (len + k) 0)) → Pass sets bytes (len + lanes)
pass-more sets bytes len lanes some within p block = pass-over sets bytes len len lanes (len + lanes) some (omega arith) within (omega arith) (omega arith) p block

-- a lane, and what it says of its byte
pub lane-goes-on : (sets : TwoByteSets) (earlier before byte unlike lane : ℕ) → (unlike ≡ 0) ↔ (trails byte ≡ leads before)
    → lane ≡ bit_or (bit_or (is_in sets.halt byte) unlike) (min (bit_or (is_in sets.key before) (min (leads before) (is_in sets.key earlier))) (is_in sets.later byte))
    → (lane ≡ 0) ↔ GoesOn sets earlier before byte
lane-goes-on sets earlier before byte unlike lane same is = (
  λ none.
      let all = sym is ∙ none in
      let first = or-left _ _ all in
      record {
        going = or-left _ _ first;
        form = same.0 (or-right _ _ first);
        keys = elim (min-zero _ _ (or-right _ _ all)) [
          | inl waiting ↦ inr (or-left _ _ waiting, min-zero _ _ (or-right _ _ waiting))
          | inr none_later ↦ inl none_later
        ];
      },
  λ p. is ∙ or-none (or-none p.going (same.1 p.form)) (elim p.keys [
    | inl none_later ↦ omega (arith, none_later)
    | inr none_before ↦ (let waiting : bit_or (is_in sets.key before) (min (leads before) (is_in sets.key earlier)) ≡ 0 = or-none none_before.0 (elim none_before.1 [
      | inl no_lead ↦ omega (arith, no_lead)
      | inr no_key ↦ omega (arith, no_key)
    ]) in omega (arith, waiting))
  ]),
)

-- no more bytes pass than those before one that does not go on
pub pass-ends : (sets : TwoByteSets) (bytes : List ℕ) (a b m n : ℕ) → 2 ≤ m → m ≤ n → a ≡ m - 2 → b ≡ m - 1 → DoesNotGoOn sets (get_or bytes a 0) (get_or bytes b 0) (get_or bytes m 0) → StopsAt sets bytes n
pass-ends sets bytes a b zero n some within first second stop p = omega (arith, some)
pass-ends sets bytes a b (suc zero) n some within first second stop p = omega (arith, some)
pass-ends sets bytes a b (suc (suc m)) n some within first second stop p =
    let here : m ≡ a = omega (arith, first) in
    let next : suc m ≡ b = omega (arith, second) in
    stop (subst (λ (j : ℕ). GoesOn sets (get_or bytes j 0) (get_or bytes b 0) (get_or bytes (suc (suc m)) 0)) here
    (subst (λ (j : ℕ). GoesOn sets (get_or bytes m 0) (get_or bytes j 0) (get_or bytes (suc (suc m)) 0)) next (p.each (suc m) (omega (arith, within)))))
