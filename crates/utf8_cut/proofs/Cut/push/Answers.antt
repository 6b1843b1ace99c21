use Rattle.std.proofs.Common.{subst, sym, ◌∷◌, [], ◌++◌, ◌≡◌, ◌+◌}
use Rattle.std.specs.Char.{len_utf8}
use Rattle.utf8_cut.specs.Inside.{state}
use Rattle.utf8_cut.specs.State.{StandsFor, IfChar, character_given}
use Rattle.utf8_cut.specs.Value.{CutState, IsSoundCut}
use Rattle.utf8_cut.proofs.PushLemmas.{pushed_stands, pushed_bad, pushed_end, ascii_stands, ascii_bad}
use Rattle.utf8_cut.proofs.Cut.push.Goals as goal

pub returns-then-self-clause-stands_for : goal.returns-then-self-clause-stands_for
returns-then-self-clause-stands_for c taken given s =
    let inside = state c.self.inside in
    let stands = subst (λ n. StandsFor n taken given) (sym c.self.view_is) s in
    let new : CutState = record { held = inside.held; start = inside.count + 1; count = inside.count + 1; is_bad = inside.is_bad } in
    subst (λ b. StandsFor new (taken ++ c.args.byte ∷ []) (given ++ (b, inside.start) ∷ [])) (sym c.from.ensures)
    (ascii_stands inside c.args.byte c.self.invariant c.if-self.true c.if-byte-lt128.true taken given stands)

pub returns-then-self-clause-bad : goal.returns-then-self-clause-bad
returns-then-self-clause-bad c taken given s =
    ascii_bad (state c.self.inside) c.args.byte c.self.invariant c.if-self.true c.if-byte-lt128.true taken given (subst (λ n. StandsFor n taken given) (sym c.self.view_is) s)

pub returns-clause-stands_for : goal.returns-clause-stands_for
returns-clause-stands_for c taken given s =
    let p = c.push_in_sequence in
    subst (λ n. StandsFor n (taken ++ c.args.byte ∷ []) (given ++ character_given p.result)) (sym p.ensures.state) (pushed_stands _ _ _ p.ensures.pushed taken given s)

pub returns-clause-bad : goal.returns-clause-bad
returns-clause-bad c taken given s = let p = c.push_in_sequence in pushed_bad _ _ _ p.ensures.pushed taken given s

pub returns-clause-char_end : goal.returns-clause-char_end
returns-clause-char_end c =
    let p = c.push_in_sequence in
    subst (λ n. IfChar p.result (λ d at. at + len_utf8 d ≡ n.count)) (sym p.ensures.state) (pushed_end _ _ _ (subst IsSoundCut c.self.view_is c.self.invariant) p.ensures.pushed)
