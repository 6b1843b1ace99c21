use Rattle.std.proofs.Common.{◌∙◌, ◌<◌, ℕ, true, List, [], ◌∷◌, ◌++◌, map, refl, sym, ap, subst, arith}
use Rattle.std.proofs.lemmas.List.{append-nil}
use Rattle.collation_elements.specs.declared.keys.Key.{Key}
use Rattle.collation_elements.specs.declared.keys.Item.{Item}
use Rattle.collation_elements.specs.declared.keys.Item.TheVariants.{Element}
use Rattle.collation_letters.specs.Symbols.{AreLastSymbols}
use Rattle.collation_walk.specs.declared.walk.Walk.{Walk}
use Rattle.collation_walk.specs.Walks.{WalksOver}
use Rattle.collation_walk.proofs.WalkSteps.{walks-key}
use Rattle.collation_walk.proofs.LetterSteps.{no-symbol, nothing-waits, one-symbol, one-key, walks-none}
use Rattle.collation_walk.proofs.walk.Walk.take_symbol.Goals as goal

pub returns-then-symbol-eq-NO_SYMBOL-clause-walks : goal.returns-then-symbol-eq-NO_SYMBOL-clause-walks
returns-then-symbol-eq-NO_SYMBOL-clause-walks c = λ items ranges keys k h.
    let pattern = c.args.pattern.now.keys in
    let none = c.laws_of_symbols.ensures.none pattern keys (subst (λ l. AreLastSymbols pattern keys l) (no-symbol c.args.symbol c.if-symbol-eq-NO_SYMBOL.true) k) in
    subst (λ (is : List Item). WalksOver pattern is ranges c.args.self.now) (sym (ap (λ ks. items ++ map (λ key. Element key) ks) none ∙ append-nil items)) h

pub returns-then-self-eq0-clause-walks : goal.returns-then-self-eq0-clause-walks
returns-then-self-eq0-clause-walks c = λ items ranges keys k h.
    let pattern = c.args.pattern.now.keys in
    let less : c.args.symbol < 255 = omega (arith, c.ranges.symbol.fits, c.if-symbol-eq-NO_SYMBOL.false) in
    let last = c.laws_of_symbols.ensures.one pattern keys c.args.symbol (subst (λ l. AreLastSymbols pattern keys l) (one-symbol c.args.symbol less) k) in
    let none = c.if-self-eq0.true in
    walks-none pattern items ranges keys last.left_out last.key c.args.self.now _ last.keys_are
    (nothing-waits c.laws_of_symbols.ensures.foreign pattern keys c.args.symbol c.args.self.now.state last (λ ks key is at. sym none ∙ c.advance-self.ensures.border ks key is at)) h refl refl none refl refl refl

pub returns-clause-walks : goal.returns-clause-walks
returns-clause-walks c = λ items ranges keys k h.
    let pattern = c.args.pattern.now.keys in
    let less : c.args.symbol < 255 = omega (arith, c.ranges.symbol.fits, c.if-symbol-eq-NO_SYMBOL.false) in
    let last = c.laws_of_symbols.ensures.one pattern keys c.args.symbol (subst (λ l. AreLastSymbols pattern keys l) (one-symbol c.args.symbol less) k) in
    let old = c.args.self.now in
    let walk : Walk = record { state = c.advance-self.result; places = c.push_back.new.self; start = old.start; has_keys = true; select = old.select; last_end = old.last_end } in
    subst (λ (is : List Item). WalksOver pattern is ranges walk) (sym (ap (λ (ks : List Key). items ++ map (λ key. Element key) ks) (one-key pattern keys c.args.symbol (λ none. c.if-self-eq0.false (c.advance-self.ensures.foreign none)) last)))
    (subst (λ (t : List (ℕ × ℕ)). WalksOver pattern (items ++ Element last.key ∷ []) t walk) (append-nil ranges)
    (walks-key pattern items ranges last.key old walk h refl refl (λ ks at. c.advance-self.ensures.border ks last.key last.symbol_is at)
    (ap (λ b. b.capacity) c.push_back.ensures.items) refl refl (ap (λ b. b.items) c.push_back.ensures.items)))
