use Rattle.std.proofs.Common.{List, ◌++◌, ◌∙◌, sym, ap, subst, arith}
use Rattle.std.proofs.lemmas.List.{append-nil}
use Rattle.collation_elements.specs.declared.keys.Key.{Key}
use Rattle.collation_letters.specs.Symbols.{AreLastSymbols, AreSymbolsAt, listed, some_symbol}
use Rattle.collation_letters.proofs.SymbolLemmas.{last-none, some-map, some-one}
use Rattle.collation_letters.proofs.symbols.with_some.Goals as goal

pub returns-then-symbol-eq-NO_SYMBOL : goal.returns-then-symbol-eq-NO_SYMBOL
returns-then-symbol-eq-NO_SYMBOL c = λ depth pattern keys more h k.
    let none = last-none pattern more (subst (λ n. AreLastSymbols pattern more (some_symbol n)) c.if-symbol-eq-NO_SYMBOL.true k) in
    subst (λ (l : List Key). AreSymbolsAt depth pattern l (listed c.args.symbols)) (sym (ap (λ (l : List Key). keys ++ l) none ∙ append-nil keys)) h

pub returns : goal.returns
returns c = some-map c.with.result c.with.ensures (λ all h depth pattern keys more k m.
    h depth pattern keys more k (subst (λ l. AreLastSymbols pattern more l) (some-one c.args.symbol (omega (arith, c.ranges.symbol.fits, c.if-symbol-eq-NO_SYMBOL.false))) m))
