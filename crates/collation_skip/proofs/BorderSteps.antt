-- How many keys of a pattern match after the keys of one character, by the symbol of the last of them.
use Rattle.std.proofs.Common.{◌≡◌, ◌∙◌, ℕ, zero, suc, ◌<◌, ◌≤◌, List, [], ◌∷◌, ◌++◌, length, slice_get, Some, false, refl, sym, ap, subst, arith, append_assoc, inl, inr}
use Rattle.std.proofs.lemmas.Bool.{cond-true, cond-false, cases_Bool, ltb-true, lt-ltb}
use Rattle.std.proofs.lemmas.List.{append-nil}
use Rattle.collation_elements.specs.declared.keys.Key.{Key}
use Rattle.collation_pattern.specs.Border.{border, PrefixesEndWithTheLastKey, BordersGrowByOne}
use Rattle.collation_letters.specs.Symbols.{IsSymbol, AreLastSymbols, IsLastSymbol, is_symbol, some_symbol, NoSymbolIsOfNoKey, OneSymbolIsOfTheLastKey, NothingWaitsBehindForeignKeys}
use Rattle.collation_skip.specs.Blocks.{Carry}

pub record Borders : Type 0 where
  pub last : PrefixesEndWithTheLastKey
  pub grow : BordersGrowByOne
  pub none : NoSymbolIsOfNoKey
  pub one : OneSymbolIsOfTheLastKey
  pub foreign : NothingWaitsBehindForeignKeys

-- what a place of the pattern where a key stands is to a bound
abbrev pub IsBelow : List Key → ℕ → ℕ → Key → Type 0
IsBelow pattern from to key = (n : ℕ) → slice_get pattern n ≡ Some key → n ≤ from → suc n ≤ to

-- no key
carry-nil : (pattern keys : List Key) (from to : ℕ) → keys ≡ [] → from ≤ to → Carry pattern from to keys
carry-nil pattern keys from to none less = λ before h.
    let same : border pattern (before ++ keys) ≡ border pattern before = ap (λ (l : List Key). border pattern (before ++ l)) none ∙ ap (border pattern) (append-nil before) in
    omega (arith, same, h, less)

-- one key
carry-one : Borders → (pattern : List Key) (key : Key) (from to : ℕ) → IsBelow pattern from to key → Carry pattern from to (key ∷ [])
carry-one laws pattern key from to below = λ before h. at before h (border pattern (before ++ key ∷ [])) refl
  where
    at : (before : List Key) → border pattern before ≤ from → (n : ℕ) → border pattern (before ++ key ∷ []) ≡ n → n ≤ to
    at before h zero e = omega arith
    at before h (suc n) e = below n (laws.last pattern before key n e) (omega (arith, e, h, laws.grow pattern before key))

-- any keys and one that the pattern does not have
carry-foreign : Borders → (pattern left : List Key) (key : Key) (from to : ℕ) → IsSymbol pattern key 0 → Carry pattern from to (left ++ key ∷ [])
carry-foreign laws pattern left key from to is = λ before h.
    let none = laws.foreign pattern (before ++ left) key is in
    let same : border pattern (before ++ (left ++ key ∷ [])) ≡ border pattern ((before ++ left) ++ key ∷ []) = ap (border pattern) (sym (append_assoc before left (key ∷ []))) in
    omega (arith, none, same)

carry-last : Borders → (pattern keys : List Key) (s from to : ℕ) → IsLastSymbol pattern keys s → ((key : Key) → IsSymbol pattern key s → IsBelow pattern from to key) → Carry pattern from to keys
carry-last laws pattern keys zero from to h below =
    subst (Carry pattern from to) (sym h.keys_are) (carry-foreign laws pattern h.left_out h.key from to h.symbol_is)
carry-last laws pattern keys (suc s) from to h below =
    let one : keys ≡ h.key ∷ [] = h.keys_are ∙ ap (λ (l : List Key). l ++ h.key ∷ []) (h.cut (λ e. omega (arith, e))) in
    subst (Carry pattern from to) (sym one) (carry-one laws pattern h.key from to (below h.key h.symbol_is))

-- the keys of one symbol, or of none
pub carry : Borders → (pattern keys : List Key) (s from to : ℕ) → AreLastSymbols pattern keys (some_symbol s) → (255 ≤ s → from ≤ to) → (s < 255 → (key : Key) → IsSymbol pattern key s → IsBelow pattern from to key) →
    Carry pattern from to keys
carry laws pattern keys s from to h none below = elim (cases_Bool (is_symbol s)) [
  | inl yes' ↦ carry-last laws pattern keys s from to (laws.one pattern keys s (subst (AreLastSymbols pattern keys) (cond-true (is_symbol s) (s ∷ []) [] yes') h)) (below (ltb-true s 255 yes'))
  | inr no' ↦
      carry-nil pattern keys from to (laws.none pattern keys (subst (AreLastSymbols pattern keys) (cond-false (is_symbol s) (s ∷ []) [] no') h)) (none (not-less s no'))
]
  where
    not-less : (s : ℕ) → is_symbol s ≡ false → 255 ≤ s
    not-less s h = grind arith

-- ---- behind which no key waits

-- a symbol is of some keys
pub some-keys : (pattern keys : List Key) (s : ℕ) → s < 255 → AreLastSymbols pattern keys (some_symbol s) → 0 < length keys
some-keys pattern keys s small h =
    let few = (subst (AreLastSymbols pattern keys) (cond-true (is_symbol s) (s ∷ []) [] (lt-ltb s 255 small)) h).few in omega (arith, few)

-- where at most so many keys had matched, none has behind one that stands at no place up to there
pub none-waits : Borders → (pattern keys : List Key) (s matched : ℕ) → s < 255 → ((place : ℕ) → s ≡ suc place → matched < place) → AreLastSymbols pattern keys (some_symbol s) → Carry pattern matched 0 keys
none-waits laws pattern keys s matched small far h = carry laws pattern keys s matched 0 h (λ none. absurd (omega (arith, small, none))) (λ less key. earlier s far key)
  where
    earlier : (s : ℕ) → ((place : ℕ) → s ≡ suc place → matched < place) → (key : Key) → IsSymbol pattern key s → IsBelow pattern matched 0 key
    earlier zero far key is = λ n at within. absurd (is.foreign refl n at)
    earlier (suc place) far key is = λ n at within. absurd (is.first place n refl (let past = far place refl in omega (arith, past, within)) at)

-- a key that the pattern does not have is such a one, however many had matched
pub none-foreign : (pattern keys before : List Key) (s : ℕ) → OneSymbolIsOfTheLastKey → NothingWaitsBehindForeignKeys → s ≡ 0 → AreLastSymbols pattern keys (some_symbol s) → border pattern (before ++ keys) ≡ 0
none-foreign pattern keys before s one foreign none h =
    let last = one pattern keys 0 (subst (λ i. AreLastSymbols pattern keys (some_symbol i)) none h) in
    ap (λ (l : List Key). border pattern (before ++ l)) last.keys_are ∙ ap (border pattern) (sym (append_assoc before last.left_out (last.key ∷ []))) ∙ sym (foreign pattern (before ++ last.left_out) last.key last.symbol_is)
