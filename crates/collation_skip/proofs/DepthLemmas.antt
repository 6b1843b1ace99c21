-- How much of a pattern ends keys, behind those of a letter.
use Rattle.std.proofs.Common.{◌≡◌, ◌∙◌, ◌⊎◌, ℕ, zero, suc, ◌<◌, List, [], ◌∷◌, ◌++◌, Some, inl, inr, refl, sym, ap, subst, arith, append_assoc}
use Rattle.std.proofs.lemmas.Bool.{cases_Bool, cond-false, cond-true, lt-ltb}
use Rattle.std.proofs.lemmas.List.{append-nil}
use Rattle.collation_elements.specs.declared.keys.Key.{Key}
use Rattle.collation_pattern.specs.Border.{border}
use Rattle.collation_letters.specs.declared.symbols.Symbols.{Symbols}
use Rattle.collation_letters.specs.Symbols.{IsSymbol, AreLastSymbols, AreSymbolsAt, IsLastSymbol, NothingWaitsBehindForeignKeys, OneSymbolIsOfTheLastKey, SymbolsAreListed, SymbolsComeInTurn, is_symbol, listed, some_symbol}
use Rattle.collation_letters.proofs.SymbolLemmas.{last-none}

-- how much ends the keys with those of these symbols, where so much ends the keys before
abbrev pub Deepens : List Key → ℕ → List ℕ → ℕ → Type 0
Deepens pattern depth symbols result =
    (before keys : List Key) → AreLastSymbols pattern keys symbols → border pattern before ≡ depth → border pattern (before ++ keys) ≡ result

-- one symbol: a key that the pattern has, or keys of which the last is one that it does not have
pub depth-one : NothingWaitsBehindForeignKeys → OneSymbolIsOfTheLastKey → (pattern : List Key) (depth symbol result : ℕ) → symbol < 255 →
    ((before : List Key) (key : Key) → IsSymbol pattern key symbol → border pattern before ≡ depth → result ≡ border pattern (before ++ key ∷ [])) → (symbol ≡ 0 → result ≡ 0) →
    Deepens pattern depth (some_symbol symbol) result
depth-one foreign one pattern depth symbol result less moves none = λ before keys h at.
    by symbol moves none (one pattern keys symbol (subst (λ l. AreLastSymbols pattern keys l) (cond-true (is_symbol symbol) (symbol ∷ []) [] (lt-ltb symbol 255 less)) h)) before at
  where
    by : (n : ℕ) → ((before : List Key) (key : Key) → IsSymbol pattern key n → border pattern before ≡ depth → result ≡ border pattern (before ++ key ∷ [])) → (n ≡ 0 → result ≡ 0) → {keys : List Key} →
        (last : IsLastSymbol pattern keys n) → (before : List Key) → border pattern before ≡ depth → border pattern (before ++ keys) ≡ result
    by zero moves none {keys} last before at =
        ap (λ (l : List Key). border pattern (before ++ l)) last.keys_are ∙ ap (border pattern) (sym (append_assoc before last.left_out (last.key ∷ [])))
        ∙ sym (foreign pattern (before ++ last.left_out) last.key last.symbol_is) ∙ sym (none refl)
    by (suc n) moves none {keys} last before at =
        let alone : last.left_out ≡ [] = last.cut (λ e. absurd (omega (arith, e))) in
        ap (λ (l : List Key). border pattern (before ++ l)) (last.keys_are ∙ ap (λ (l : List Key). l ++ last.key ∷ []) alone) ∙ sym (moves before last.key last.symbol_is at)

pub depth-three : SymbolsAreListed → SymbolsComeInTurn → (pattern : List Key) (s : Symbols) (depth one two three : ℕ) → Deepens pattern depth (some_symbol s.first) one → Deepens pattern one (some_symbol s.second) two →
    Deepens pattern two (some_symbol s.third) three → Deepens pattern depth (listed s) three
depth-three are turn pattern s depth one two three first second third = λ before keys h at.
    let a = turn pattern keys s.first (some_symbol s.second ++ some_symbol s.third) (subst (λ l. AreLastSymbols pattern keys l) (are s) h) in
    let b = turn pattern a.later s.second (some_symbol s.third) a.later_are in
    let all : before ++ keys ≡ ((before ++ a.first) ++ b.first) ++ b.later =
    ap (λ (l : List Key). before ++ l) (a.keys_are ∙ ap (λ (l : List Key). a.first ++ l) b.keys_are) ∙ sym (append_assoc before a.first (b.first ++ b.later)) ∙ sym (append_assoc (before ++ a.first) b.first b.later) in
    ap (border pattern) all ∙ third ((before ++ a.first) ++ b.first) b.later b.later_are (second (before ++ a.first) b.first b.first_are (first before a.first a.first_are at))

deepens-two : SymbolsComeInTurn → (pattern : List Key) (x y from one two : ℕ) → Deepens pattern from (some_symbol x) one → Deepens pattern one (some_symbol y) two → Deepens pattern from (some_symbol x ++ some_symbol y) two
deepens-two turn pattern x y from one two first second = λ before keys h at.
    let a = turn pattern keys x (some_symbol y) h in
    ap (λ (l : List Key). border pattern (before ++ l)) a.keys_are ∙ ap (border pattern) (sym (append_assoc before a.first a.later))
    ∙ second (before ++ a.first) a.later a.later_are (first before a.first a.first_are at)

-- where 0 is the first of symbols, it is this one, or the first of those behind it
first-zero : (n : ℕ) (ss others : List ℕ) → some_symbol n ++ ss ≡ 0 ∷ others → ((n ≡ 0) × (ss ≡ others)) ⊎ (ss ≡ 0 ∷ others)
first-zero n ss others h = elim (cases_Bool (is_symbol n)) [
  | inl yes' ↦
      let all : n ∷ ss ≡ 0 ∷ others = ap (λ (l : List ℕ). l ++ ss) (sym (cond-true (is_symbol n) (n ∷ []) [] yes')) ∙ h in
      let this : n ≡ 0 = cc in
      let behind : ss ≡ others = cc in inl (this, behind)
  | inr no' ↦ inr (ap (λ (l : List ℕ). l ++ ss) (sym (cond-false (is_symbol n) (n ∷ []) [] no')) ∙ h)
]

none-first : (others : List ℕ) → [] ≡ 0 ∷ others → ⊥
none-first others h = cc

-- the same of symbols that are right at this depth
pub depth-held : SymbolsAreListed → SymbolsComeInTurn → (pattern : List Key) (s : Symbols) (depth one two three : ℕ) → Deepens pattern depth (some_symbol s.first) one → Deepens pattern one (some_symbol s.second) two →
    Deepens pattern two (some_symbol s.third) three → (s.first ≡ 0 → one ≡ 0) → (s.second ≡ 0 → two ≡ 0) → (s.third ≡ 0 → three ≡ 0) → (before keys : List Key) → AreSymbolsAt (Some depth) pattern keys (listed s) → border pattern before ≡ depth →
    border pattern (before ++ keys) ≡ three
depth-held are turn pattern s depth one two three first second third no_first no_second no_third before keys (inl h) at = depth-three are turn pattern s depth one two three first second third before keys h at
depth-held are turn pattern s depth one two three first second third no_first no_second no_third before keys (inr h) at =
    let all : some_symbol s.first ++ (some_symbol s.second ++ some_symbol s.third) ≡ 0 ∷ h.other_symbols = sym (are s) ∙ h.symbols_are in
    let parts : border pattern (before ++ keys) ≡ border pattern ((before ++ h.spent) ++ h.others) =
    ap (λ (l : List Key). border pattern (before ++ l)) h.keys_are ∙ ap (border pattern) (sym (append_assoc before h.spent h.others)) in
    let none = h.none_waits before at in
    let on : border pattern ((before ++ h.spent) ++ h.others) ≡ three =
    elim (first-zero s.first (some_symbol s.second ++ some_symbol s.third) h.other_symbols all) [
      | inl here ↦
          deepens-two turn pattern s.second s.third one two three second third (before ++ h.spent) h.others (subst (λ l. AreLastSymbols pattern h.others l) (sym here.1) h.others_are) (none ∙ sym (no_first here.0))
      | inr later ↦ elim (first-zero s.second (some_symbol s.third) h.other_symbols later) [
        | inl here ↦ third (before ++ h.spent) h.others (subst (λ l. AreLastSymbols pattern h.others l) (sym here.1) h.others_are) (none ∙ sym (no_second here.0))
        | inr last ↦ elim (first-zero s.third [] h.other_symbols (append-nil (some_symbol s.third) ∙ last)) [
          | inl here ↦
              let nothing = last-none pattern h.others (subst (λ l. AreLastSymbols pattern h.others l) (sym here.1) h.others_are) in
              ap (λ (l : List Key). border pattern ((before ++ h.spent) ++ l)) nothing ∙ ap (border pattern) (append-nil (before ++ h.spent)) ∙ none ∙ sym (no_third here.0)
          | inr never ↦ absurd (none-first h.other_symbols never)
        ]
      ]
    ] in
    parts ∙ on
