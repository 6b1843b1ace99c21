-- Symbols of keys, added one by one.
use Rattle.std.proofs.Common.{◌≡◌, ◌∙◌, ◌≢◌, ℕ, zero, suc, ◌≤◌, ◌<◌, min, true, List, [], ◌∷◌, ◌++◌, length, slice_get, take, drop, Option, Some, None, ◌-◌, refl, sym, ap, ap₂, subst, arith, inl, inr, append_assoc, length-append, length-drop}
use Rattle.std.specs.List.{filter}
use Rattle.std.specs.Option.{IfSome}
use Rattle.std.proofs.lemmas.Bool.{cond-true, cond-false, cases_Bool, lt-ltb}
use Rattle.std.proofs.lemmas.List.{drop_at, length-take-le, take-append-drop}
use Rattle.std.proofs.lemmas.Option.{none-some, same_Some, slice_get_within}
use Rattle.collation_elements.specs.declared.keys.Key.{Key}
use Rattle.collation_pattern.specs.Border.{border, border_up_to, ends_with_prefix, PrefixesEndWithTheLastKey, BordersGrowByOne, BordersGoOn}
use Rattle.collation_pattern.proofs.KeyEquality.{same_keys-same}
use Rattle.collation_letters.specs.declared.symbols.Symbols.{Symbols}
use Rattle.collation_letters.specs.Symbols.{IsSymbol, AreLastSymbols, AreSymbolsAt, IsLastSymbol, AreInTurn, is_symbol, some_symbol, listed}

pub some-map : {A : Type 0} {P Q : A → Type 0} (o : Option A) → IfSome o P → ((x : A) → P x → Q x) → IfSome o Q
some-map (Some x) h f = f x h
some-map None h f = tt

-- ---- lists of symbols

filter-cons : (n : ℕ) (ns : List ℕ) → filter is_symbol (n ∷ ns) ≡ some_symbol n ++ filter is_symbol ns
filter-cons n ns = elim (cases_Bool (is_symbol n)) [
  | inl yes' ↦
      cond-true (is_symbol n) (n ∷ filter is_symbol ns) (filter is_symbol ns) yes'
      ∙ ap (λ (l : List ℕ). l ++ filter is_symbol ns) (sym (cond-true (is_symbol n) (n ∷ []) [] yes'))
  | inr no' ↦
      cond-false (is_symbol n) (n ∷ filter is_symbol ns) (filter is_symbol ns) no'
      ∙ ap (λ (l : List ℕ). l ++ filter is_symbol ns) (sym (cond-false (is_symbol n) (n ∷ []) [] no'))
]

pub listed-is : (s : Symbols) → listed s ≡ some_symbol s.first ++ (some_symbol s.second ++ some_symbol s.third)
listed-is s =
    filter-cons s.first (s.second ∷ s.third ∷ [])
    ∙ ap (λ (l : List ℕ). some_symbol s.first ++ l) (filter-cons s.second (s.third ∷ []))

pub some-one : (n : ℕ) → n < 255 → some_symbol n ≡ n ∷ []
some-one n less = cond-true (is_symbol n) (n ∷ []) [] (lt-ltb n 255 less)

-- those of a letter with a last key are some
pub listed-some : (s : Symbols) → s.third < 255 → 0 < length (listed s)
listed-some s less =
    let last = ap (λ (l : List ℕ). length l) (some-one s.third less) in
    let all = ap (λ (l : List ℕ). length l) (listed-is s) in
    omega (arith, last, all, length-append (some_symbol s.first) (some_symbol s.second ++ some_symbol s.third), length-append (some_symbol s.second) (some_symbol s.third))

-- one more behind two
pub listed-more : (s all : Symbols) (n : ℕ) → n < 255 → s.first ≡ 255 → all.first ≡ s.second → all.second ≡ s.third → all.third ≡ n → listed all ≡ listed s ++ n ∷ []
listed-more s all n less none first second third =
    let a = some_symbol s.second in
    let b = some_symbol s.third in
    listed-is all
    ∙ ap₂ (λ (x y : List ℕ). x ++ y) (ap some_symbol first) (ap₂ (λ (x y : List ℕ). x ++ y) (ap some_symbol second) (ap some_symbol third ∙ some-one n less))
    ∙ sym (append_assoc a b (n ∷ []))
    ∙ ap (λ (l : List ℕ). l ++ n ∷ []) (sym (listed-is s ∙ ap (λ i. some_symbol i ++ (a ++ b)) none))

-- ---- one key

-- no prefix of the pattern ends with a key that it does not have
pub foreign-border : PrefixesEndWithTheLastKey → (pattern ks : List Key) (key : Key) → IsSymbol pattern key 0 → 0 ≡ border pattern (ks ++ key ∷ [])
foreign-border law pattern ks key is = none (border pattern (ks ++ key ∷ [])) refl
  where
    none : (n : ℕ) → border pattern (ks ++ key ∷ []) ≡ n → 0 ≡ n
    none zero at = refl
    none (suc n) at = absurd (is.foreign refl n (law pattern ks key n at))

-- where no prefix has matched, none ends with a key that is not the pattern's first
pub first-border : PrefixesEndWithTheLastKey → BordersGrowByOne → (pattern ks : List Key) (key : Key) (symbol : ℕ) → IsSymbol pattern key symbol → symbol ≢ 1 → border pattern ks ≡ 0 →
    0 ≡ border pattern (ks ++ key ∷ [])
first-border law grow pattern ks key symbol is other none = at (border pattern (ks ++ key ∷ [])) refl
  where
    other_place : (p : ℕ) → symbol ≡ p → slice_get pattern 0 ≡ Some key → ⊥
    other_place zero same there = is.foreign same 0 there
    other_place (suc zero) same there = other same
    other_place (suc (suc p)) same there = is.first (suc p) 0 same (omega arith) there

    at : (n : ℕ) → border pattern (ks ++ key ∷ []) ≡ n → 0 ≡ n
    at zero e = refl
    at (suc zero) e = absurd (other_place symbol refl (law pattern ks key 0 e))
    at (suc (suc n)) e = absurd (omega (arith, e, none, grow pattern ks key))

-- where no prefix has matched, the pattern's first key is one that matches
pub first-matches : BordersGoOn → (pattern ks : List Key) (key : Key) → slice_get pattern 0 ≡ Some key → border pattern ks ≡ 0 → 1 ≡ border pattern (ks ++ key ∷ [])
first-matches law [] ks key at none = cc
first-matches law (k ∷ rest) ks key at none =
    let pattern = k ∷ rest in
    let one : min (length pattern) 1 ≡ 1 = omega arith in
    let nothing : min (length pattern) 0 ≡ 0 = omega arith in
    let ends : ends_with_prefix pattern (k ∷ []) 1 ≡ true = same_keys-same (k ∷ []) in
    let alone : border pattern (k ∷ []) ≡ 1 = ap (border_up_to pattern (k ∷ [])) one ∙ cond-true (ends_with_prefix pattern (k ∷ []) 1) 1 0 ends in
    let before : border pattern ks ≡ border pattern [] = none ∙ sym (ap (border_up_to pattern []) nothing) in
    sym (law pattern ks [] key before ∙ ap (λ l. border pattern (l ∷ [])) (same_Some key k (sym at)) ∙ alone)

pub symbol-place : (pattern : List Key) (key : Key) (n : ℕ) → n ≢ 0 → IsSymbol pattern key n → slice_get pattern (n - 1) ≡ Some key
symbol-place pattern key zero some is = absurd (some refl)
symbol-place pattern key (suc n) some is =
    let same : n ≡ suc n - 1 = omega arith in subst (λ i. slice_get pattern i ≡ Some key) same (is.known n refl)

pub not-past : (pattern : List Key) (key : Key) (place : ℕ) → length pattern ≤ place → slice_get pattern place ≡ Some key → ⊥
not-past pattern key place past at = omega (arith, past, slice_get_within pattern place key at)

-- ---- one for one

-- the symbols of some keys, one for one
abbrev AreSymbols : List Key → List Key → List ℕ → Type 0
AreSymbols pattern [] [] = Unit {0}
AreSymbols pattern [] (s ∷ ss) = ⊥
AreSymbols pattern (k ∷ ks) [] = ⊥
AreSymbols pattern (k ∷ ks) (s ∷ ss) = IsSymbol pattern k s × AreSymbols pattern ks ss

-- the same as the last symbols, with the keys that are left out
record Lasts (pattern : List Key) (keys : List Key) (symbols : List ℕ) : Type 0 where
  left_out : List Key
  kept : List Key
  keys_are : keys ≡ left_out ++ kept
  symbols_are : AreSymbols pattern kept symbols
  cut : 1 ≤ length left_out → slice_get symbols 0 ≡ Some 0

AreSymbols-many : (pattern ks : List Key) (ss : List ℕ) → AreSymbols pattern ks ss → length ks ≡ length ss
AreSymbols-many pattern [] [] h = refl
AreSymbols-many pattern [] (s ∷ ss) h = absurd h
AreSymbols-many pattern (k ∷ ks) [] h = absurd h
AreSymbols-many pattern (k ∷ ks) (s ∷ ss) h = ap suc (AreSymbols-many pattern ks ss h.1)

AreSymbols-at : (pattern ks : List Key) (ss : List ℕ) (i : ℕ) (key : Key) (symbol : ℕ) → AreSymbols pattern ks ss → slice_get ks i ≡ Some key → slice_get ss i ≡ Some symbol → IsSymbol pattern key symbol
AreSymbols-at pattern [] ss i key symbol h at other = absurd (none-some key at)
AreSymbols-at pattern (k ∷ ks) [] i key symbol h at other = absurd h
AreSymbols-at pattern (k ∷ ks) (s ∷ ss) zero key symbol h at other =
    subst (λ k'. IsSymbol pattern k' symbol) (same_Some k key at) (subst (λ s'. IsSymbol pattern k s') (same_Some s symbol other) h.0)
AreSymbols-at pattern (k ∷ ks) (s ∷ ss) (suc i) key symbol h at other = AreSymbols-at pattern ks ss i key symbol h.1 at other

AreSymbols-of : (pattern ks : List Key) (ss : List ℕ) → length ks ≡ length ss →
    ((i : ℕ) (key : Key) (symbol : ℕ) → slice_get ks i ≡ Some key → slice_get ss i ≡ Some symbol → IsSymbol pattern key symbol) → AreSymbols pattern ks ss
AreSymbols-of pattern [] [] many h = tt
AreSymbols-of pattern [] (s ∷ ss) many h = absurd (omega (arith, many))
AreSymbols-of pattern (k ∷ ks) [] many h = absurd (omega (arith, many))
AreSymbols-of pattern (k ∷ ks) (s ∷ ss) many h = (h 0 k s refl refl, AreSymbols-of pattern ks ss (omega (arith, many)) (λ i. h (suc i)))

to-last : (pattern keys : List Key) (ss : List ℕ) → Lasts pattern keys ss → AreLastSymbols pattern keys ss
to-last pattern keys ss h =
    let many = AreSymbols-many pattern h.kept ss h.symbols_are in
    let all = ap (λ (l : List Key). length l) h.keys_are ∙ length-append h.left_out h.kept in
    let n : length h.left_out ≡ length keys - length ss = omega (arith, many, all) in
    let kept : drop (length keys - length ss) keys ≡ h.kept = ap (drop (length keys - length ss)) h.keys_are ∙ drop_at h.left_out h.kept (length keys - length ss) n in
    record {
      few = omega (arith, many, all);
      each = λ i key symbol at other. AreSymbols-at pattern h.kept ss i key symbol h.symbols_are (ap (λ (l : List Key). slice_get l i) (sym kept) ∙ at) other;
      cut = λ less. h.cut (omega (arith, less, many, all));
    }

of-last : (pattern keys : List Key) (ss : List ℕ) → AreLastSymbols pattern keys ss → Lasts pattern keys ss
of-last pattern keys ss h =
    let n = length keys - length ss in
    let few = h.few in
    let first : length (take n keys) ≡ n = length-take-le n keys (omega (arith, few)) in
    record {
      left_out = take n keys;
      kept = drop n keys;
      keys_are = sym (take-append-drop n keys);
      symbols_are = AreSymbols-of pattern (drop n keys) ss (omega (arith, few, length-drop n keys)) h.each;
      cut = λ some. h.cut (omega (arith, some, first));
    }

AreSymbols-append : (pattern ks ls : List Key) (ss ts : List ℕ) → AreSymbols pattern ks ss → AreSymbols pattern ls ts → AreSymbols pattern (ks ++ ls) (ss ++ ts)
AreSymbols-append pattern [] ls [] ts h k = k
AreSymbols-append pattern [] ls (s ∷ ss) ts h k = absurd h
AreSymbols-append pattern (x ∷ ks) ls [] ts h k = absurd h
AreSymbols-append pattern (x ∷ ks) ls (s ∷ ss) ts h k = (h.0, AreSymbols-append pattern ks ls ss ts h.1 k)

AreSymbols-nil : (pattern ks : List Key) → AreSymbols pattern ks [] → ks ≡ []
AreSymbols-nil pattern [] h = refl
AreSymbols-nil pattern (k ∷ ks) h = absurd h

record IsSplit (pattern ks : List Key) (s : ℕ) (ss : List ℕ) : Type 0 where
  key : Key
  later : List Key
  is : ks ≡ key ∷ later
  first_is : IsSymbol pattern key s
  later_are : AreSymbols pattern later ss

AreSymbols-split : (pattern ks : List Key) (s : ℕ) (ss : List ℕ) → AreSymbols pattern ks (s ∷ ss) → IsSplit pattern ks s ss
AreSymbols-split pattern [] s ss h = absurd h
AreSymbols-split pattern (k ∷ ks) s ss h = record { key = k; later = ks; is = refl; first_is = h.0; later_are = h.1 }

-- ---- the last of them

nil-or-some : (ks : List Key) → (1 ≤ length ks → ⊥) → ks ≡ []
nil-or-some [] h = refl
nil-or-some (k ∷ ks) h = absurd (h (omega arith))

-- those of no key, and of no symbol
lasts-nil : (pattern : List Key) → Lasts pattern [] []
lasts-nil pattern = record { left_out = []; kept = []; keys_are = refl; symbols_are = tt; cut = λ some. absurd (omega (arith, some)) }

-- that of one key
lasts-one : (pattern : List Key) (key : Key) (s : ℕ) → IsSymbol pattern key s → Lasts pattern (key ∷ []) (s ∷ [])
lasts-one pattern key s is =
    record { left_out = []; kept = key ∷ []; keys_are = refl; symbols_are = (is, tt); cut = λ some. absurd (omega (arith, some)) }

none_first : slice_get {X = ℕ} [] 0 ≡ Some 0 → ⊥
none_first h = cc

lasts-none : (pattern ks : List Key) → Lasts pattern ks [] → ks ≡ []
lasts-none pattern ks h =
    h.keys_are ∙ ap₂ (λ (x y : List Key). x ++ y) (nil-or-some h.left_out (λ some. none_first (h.cut some))) (AreSymbols-nil pattern h.kept h.symbols_are)

first-append : (ss ts : List ℕ) → slice_get ss 0 ≡ Some 0 → slice_get (ss ++ ts) 0 ≡ Some 0
first-append [] ts h = absurd (none_first h)
first-append (s ∷ ss) ts h = h

-- behind a key that the pattern does not have the keys before it may be left out
lasts-foreign : (pattern keys more : List Key) → Lasts pattern more (0 ∷ []) → Lasts pattern (keys ++ more) (0 ∷ [])
lasts-foreign pattern keys more h =
    record {
      left_out = keys ++ h.left_out;
      kept = h.kept;
      keys_are = ap (λ (l : List Key). keys ++ l) h.keys_are ∙ sym (append_assoc keys h.left_out h.kept);
      symbols_are = h.symbols_are;
      cut = λ some. refl;
    }

same_first : (s : ℕ) → slice_get (s ∷ []) 0 ≡ Some 0 → s ≡ 0
same_first s h = cc

lasts-more : (pattern keys more : List Key) (ss : List ℕ) (s : ℕ) → s ≢ 0 → Lasts pattern keys ss → Lasts pattern more (s ∷ []) →
    Lasts pattern (keys ++ more) (ss ++ s ∷ [])
lasts-more pattern keys more ss s known h k =
    let none = nil-or-some k.left_out (λ some. known (same_first s (k.cut some))) in
    let all : more ≡ k.kept = k.keys_are ∙ ap (λ (l : List Key). l ++ k.kept) none in
    record {
      left_out = h.left_out;
      kept = h.kept ++ more;
      keys_are = ap (λ (l : List Key). l ++ more) h.keys_are ∙ append_assoc h.left_out h.kept more;
      symbols_are = AreSymbols-append pattern h.kept more ss (s ∷ []) h.symbols_are (subst (λ (l : List Key). AreSymbols pattern l (s ∷ [])) (sym all) k.symbols_are);
      cut = λ some. first-append ss (s ∷ []) (h.cut some);
    }

-- ---- one after the other

record InTurn (pattern keys : List Key) (ss ts : List ℕ) : Type 0 where
  first : List Key
  later : List Key
  keys_are : keys ≡ first ++ later
  first_are : Lasts pattern first ss
  later_are : Lasts pattern later ts

lasts-split : (pattern keys : List Key) (s : ℕ) (ss : List ℕ) → Lasts pattern keys (s ∷ ss) → InTurn pattern keys (s ∷ []) ss
lasts-split pattern keys s ss h =
    let split = AreSymbols-split pattern h.kept s ss h.symbols_are in
    record {
      first = h.left_out ++ split.key ∷ [];
      later = split.later;
      keys_are = h.keys_are ∙ ap (λ (l : List Key). h.left_out ++ l) split.is ∙ sym (append_assoc h.left_out (split.key ∷ []) split.later);
      first_are = record { left_out = h.left_out; kept = split.key ∷ []; keys_are = refl; symbols_are = (split.first_is, tt); cut = h.cut };
      later_are = record { left_out = []; kept = split.later; keys_are = refl; symbols_are = split.later_are; cut = λ some. absurd (omega (arith, some)) };
    }

somes-split : (pattern keys : List Key) (n : ℕ) (ss : List ℕ) → Lasts pattern keys (some_symbol n ++ ss) → InTurn pattern keys (some_symbol n) ss
somes-split pattern keys n ss h = elim (cases_Bool (is_symbol n)) [
  | inl yes' ↦
      let one : some_symbol n ≡ n ∷ [] = cond-true (is_symbol n) (n ∷ []) [] yes' in
      subst (λ (l : List ℕ). InTurn pattern keys l ss) (sym one)
      (lasts-split pattern keys n ss (subst (λ (l : List ℕ). Lasts pattern keys (l ++ ss)) one h))
  | inr no' ↦
      let none : some_symbol n ≡ [] = cond-false (is_symbol n) (n ∷ []) [] no' in
      subst (λ (l : List ℕ). InTurn pattern keys l ss) (sym none)
      (record { first = []; later = keys; keys_are = refl; first_are = lasts-nil pattern; later_are = subst (λ (l : List ℕ). Lasts pattern keys (l ++ ss)) none h })
]

lasts-is : (pattern keys : List Key) (s : ℕ) → Lasts pattern keys (s ∷ []) → IsLastSymbol pattern keys s
lasts-is pattern keys s h =
    let split = AreSymbols-split pattern h.kept s [] h.symbols_are in
    let one : h.kept ≡ split.key ∷ [] = split.is ∙ ap (λ (l : List Key). split.key ∷ l) (AreSymbols-nil pattern split.later split.later_are) in
    record {
      left_out = h.left_out;
      key = split.key;
      keys_are = h.keys_are ∙ ap (λ (l : List Key). h.left_out ++ l) one;
      symbol_is = split.first_is;
      cut = λ known. nil-or-some h.left_out (λ some. known (same_first s (h.cut some)));
    }

-- ---- the same of the last symbols

pub last-nil : (pattern : List Key) → AreLastSymbols pattern [] []
last-nil pattern = to-last pattern [] [] (lasts-nil pattern)

pub last-one : (pattern : List Key) (key : Key) (s : ℕ) → IsSymbol pattern key s → AreLastSymbols pattern (key ∷ []) (s ∷ [])
last-one pattern key s is = to-last pattern (key ∷ []) (s ∷ []) (lasts-one pattern key s is)

pub last-none : (pattern ks : List Key) → AreLastSymbols pattern ks [] → ks ≡ []
last-none pattern ks h = lasts-none pattern ks (of-last pattern ks [] h)

pub last-foreign : (pattern keys more : List Key) → AreLastSymbols pattern more (0 ∷ []) → AreLastSymbols pattern (keys ++ more) (0 ∷ [])
last-foreign pattern keys more h = to-last pattern (keys ++ more) (0 ∷ []) (lasts-foreign pattern keys more (of-last pattern more (0 ∷ []) h))

pub last-more : (pattern keys more : List Key) (ss : List ℕ) (s : ℕ) → s ≢ 0 → AreLastSymbols pattern keys ss → AreLastSymbols pattern more (s ∷ []) →
    AreLastSymbols pattern (keys ++ more) (ss ++ s ∷ [])
last-more pattern keys more ss s known h k =
    to-last pattern (keys ++ more) (ss ++ s ∷ []) (lasts-more pattern keys more ss s known (of-last pattern keys ss h) (of-last pattern more (s ∷ []) k))

-- ---- the same at a depth

pub at-foreign : (depth : Option ℕ) (pattern keys more : List Key) → AreLastSymbols pattern more (0 ∷ []) → AreSymbolsAt depth pattern (keys ++ more) (0 ∷ [])
at-foreign None pattern keys more h = last-foreign pattern keys more h
at-foreign (Some depth) pattern keys more h = inl (last-foreign pattern keys more h)

pub at-more : (depth : Option ℕ) (pattern keys more : List Key) (ss : List ℕ) (s : ℕ) → s ≢ 0 → AreSymbolsAt depth pattern keys ss → AreLastSymbols pattern more (s ∷ []) →
    AreSymbolsAt depth pattern (keys ++ more) (ss ++ s ∷ [])
at-more None pattern keys more ss s known h k = last-more pattern keys more ss s known h k
at-more (Some depth) pattern keys more ss s known (inl h) k = inl (last-more pattern keys more ss s known h k)
at-more (Some depth) pattern keys more ss s known (inr h) k = inr (record {
  spent = h.spent;
  others = h.others ++ more;
  other_symbols = h.other_symbols ++ s ∷ [];
  keys_are = ap (λ (l : List Key). l ++ more) h.keys_are ∙ append_assoc h.spent h.others more;
  some = h.some;
  none_waits = h.none_waits;
  symbols_are = ap (λ (l : List ℕ). l ++ s ∷ []) h.symbols_are;
  others_are = last-more pattern h.others more h.other_symbols s known h.others_are k;
})

pub at-last : (depth : Option ℕ) (pattern keys : List Key) (ss : List ℕ) → AreLastSymbols pattern keys ss → AreSymbolsAt depth pattern keys ss
at-last None pattern keys ss h = h
at-last (Some depth) pattern keys ss h = inl h

pub some-split : (pattern keys : List Key) (n : ℕ) (ss : List ℕ) → AreLastSymbols pattern keys (some_symbol n ++ ss) → AreInTurn pattern keys (some_symbol n) ss
some-split pattern keys n ss h =
    let turn = somes-split pattern keys n ss (of-last pattern keys (some_symbol n ++ ss) h) in
    record {
      first = turn.first;
      later = turn.later;
      keys_are = turn.keys_are;
      first_are = to-last pattern turn.first (some_symbol n) turn.first_are;
      later_are = to-last pattern turn.later ss turn.later_are;
    }

pub last-is : (pattern keys : List Key) (s : ℕ) → AreLastSymbols pattern keys (s ∷ []) → IsLastSymbol pattern keys s
last-is pattern keys s h = lasts-is pattern keys s (of-last pattern keys (s ∷ []) h)
