-- The keys of a text as a pattern sees them: its symbols.
use Rattle.std.specs.Prelude.{◌≡◌, ◌≢◌, ◌⊎◌, ℕ, suc, ◌-◌, ◌<◌, ◌≤◌, Bool, nat_lt, List, [], ◌∷◌, ◌++◌, length, drop, filter, slice_get, Option, Some, None}
use Rattle.collation_elements.specs.declared.keys.Key.{Key}
use Rattle.collation_pattern.specs.Border.{border}
use Rattle.collation_letters.specs.declared.symbols.Symbols.{Symbols}
use Rattle.collation_letters.specs.declared.symbols.TheConstants.{NO_SYMBOL}

-- the symbol of a key: the first place of the pattern where it stands, counted from 1, or 0 where the pattern does not have it
pub record IsSymbol (pattern : List Key) (key : Key) (symbol : ℕ) : Type 0 where
  pub foreign : symbol ≡ 0 → (place : ℕ) → slice_get pattern place ≢ Some key
  pub known : (place : ℕ) → symbol ≡ suc place → slice_get pattern place ≡ Some key
  pub first : (place earlier : ℕ) → symbol ≡ suc place → earlier < place → slice_get pattern earlier ≢ Some key

-- The symbols of the last of some keys, in order. Keys are left out before these only where the first of them is one that the
-- pattern does not have: no prefix of the pattern ends with it.
pub record AreLastSymbols (pattern : List Key) (keys : List Key) (symbols : List ℕ) : Type 0 where
  pub few : length symbols ≤ length keys
  pub each : (i : ℕ) (key : Key) (symbol : ℕ) → slice_get (drop (length keys - length symbols) keys) i ≡ Some key → slice_get symbols i ≡ Some symbol
      → IsSymbol pattern key symbol
  pub cut : length symbols < length keys → slice_get symbols 0 ≡ Some 0

-- The symbols of keys, where so many of the pattern's first keys end what stands before: 0 for some first keys behind which none waits there,
-- as if the last of these were one that the pattern does not have, and then those of the others.
pub record AreSpentSymbols (pattern : List Key) (depth : ℕ) (keys : List Key) (symbols : List ℕ) : Type 0 where
  pub spent : List Key
  pub others : List Key
  pub other_symbols : List ℕ
  pub keys_are : keys ≡ spent ++ others
  pub some : 0 < length spent
  pub none_waits : (before : List Key) → border pattern before ≡ depth → border pattern (before ++ spent) ≡ 0
  pub symbols_are : symbols ≡ 0 ∷ other_symbols
  pub others_are : AreLastSymbols pattern others other_symbols

-- The symbols of keys wherever these stand, or where so many of the pattern's first keys end what stands before.
abbrev pub AreSymbolsAt : Option ℕ → List Key → List Key → List ℕ → Type 0
AreSymbolsAt None pattern keys symbols = AreLastSymbols pattern keys symbols
AreSymbolsAt (Some depth) pattern keys symbols = AreLastSymbols pattern keys symbols ⊎ AreSpentSymbols pattern depth keys symbols

-- The last symbol is that of the last key; there are keys before it only where it is 0.
pub record IsLastSymbol (pattern : List Key) (keys : List Key) (symbol : ℕ) : Type 0 where
  pub left_out : List Key
  pub key : Key
  pub keys_are : keys ≡ left_out ++ key ∷ []
  pub symbol_is : IsSymbol pattern key symbol
  pub cut : symbol ≢ 0 → left_out ≡ []

-- two lists of symbols, one after the other
pub record AreInTurn (pattern keys : List Key) (symbols later_symbols : List ℕ) : Type 0 where
  pub first : List Key
  pub later : List Key
  pub keys_are : keys ≡ first ++ later
  pub first_are : AreLastSymbols pattern first symbols
  pub later_are : AreLastSymbols pattern later later_symbols

abbrev pub is_symbol : ℕ → Bool
is_symbol n = nat_lt n NO_SYMBOL

-- a symbol, if it is one
abbrev pub some_symbol : ℕ → List ℕ
some_symbol n = filter is_symbol (n ∷ [])

-- those of a letter, in order
abbrev pub listed : Symbols → List ℕ
listed s = filter is_symbol (s.first ∷ s.second ∷ s.third ∷ [])

-- ---- laws

abbrev pub NoSymbolIsOfNoKey : Type 0
NoSymbolIsOfNoKey = (pattern keys : List Key) → AreLastSymbols pattern keys [] → keys ≡ []

abbrev pub OneSymbolIsOfTheLastKey : Type 0
OneSymbolIsOfTheLastKey = (pattern keys : List Key) (symbol : ℕ) → AreLastSymbols pattern keys (symbol ∷ []) → IsLastSymbol pattern keys symbol

abbrev pub SymbolsComeInTurn : Type 0
SymbolsComeInTurn =
    (pattern keys : List Key) (symbol : ℕ) (symbols : List ℕ) → AreLastSymbols pattern keys (some_symbol symbol ++ symbols) → AreInTurn pattern keys (some_symbol symbol) symbols

-- no prefix of a pattern ends with a key that the pattern does not have
abbrev pub NothingWaitsBehindForeignKeys : Type 0
NothingWaitsBehindForeignKeys = (pattern keys : List Key) (key : Key) → IsSymbol pattern key 0 → 0 ≡ border pattern (keys ++ key ∷ [])

-- those of a letter are its three places in turn
abbrev pub SymbolsAreListed : Type 0
SymbolsAreListed = (s : Symbols) → listed s ≡ some_symbol s.first ++ (some_symbol s.second ++ some_symbol s.third)
