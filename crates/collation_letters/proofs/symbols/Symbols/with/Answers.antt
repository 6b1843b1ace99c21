use Rattle.std.proofs.Common.{[], ◌∷◌, ◌++◌, sym, subst, refl}
use Rattle.collation_letters.specs.Symbols.{AreLastSymbols, AreSymbolsAt, listed}
use Rattle.collation_letters.proofs.SymbolLemmas.{at-foreign, at-more, listed-more}
use Rattle.collation_letters.proofs.symbols.Symbols.with.Goals as goal

pub returns-then-symbol-eq-FOREIGN : goal.returns-then-symbol-eq-FOREIGN
returns-then-symbol-eq-FOREIGN c = λ depth pattern keys more h k.
    at-foreign depth pattern keys more (subst (λ n. AreLastSymbols pattern more (n ∷ [])) c.if-symbol-eq-FOREIGN.true k)

pub returns : goal.returns
returns c = λ depth pattern keys more h k.
    subst (λ l. AreSymbolsAt depth pattern (keys ++ more) l) (sym (listed-more c.args.self _ c.args.symbol c.requires c.if-self-ne-NO_SYMBOL.false refl refl refl))
    (at-more depth pattern keys more (listed c.args.self) c.args.symbol c.if-symbol-eq-FOREIGN.false h k)
