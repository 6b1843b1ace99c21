use Rattle.std.proofs.Common.{◌+◌, ◌++◌, ◌≡◌, length, ap, sym, ◌∙◌, subst}
use Rattle.std.specs.Str.{chars}
use Rattle.utf8_cut.specs.Inside.{state}
use Rattle.utf8_cut.specs.Characters.{with_offsets}
use Rattle.utf8_cut.specs.State.{StandsFor}
use Rattle.utf8_cut.specs.Value.{CutState, between_characters}
use Rattle.utf8_cut.proofs.PushLemmas.{text_taken, between_is}
use Rattle.utf8_cut.proofs.Cut.take_characters.Goals as goal

pub returns-clause-state : goal.returns-clause-state
returns-clause-state c =
    let old = state c.self.inside in
    let n = c.args.n in
    let count : old.count ≡ c.args.self.now.count = ap (λ (cut : CutState). cut.count) c.self.view_is in
    let at_count : old.start ≡ old.count = ap (λ (cut : CutState). cut.start) c.self.view_is ∙ c.requires.between ∙ sym count in
    ap (λ (cut : CutState). record { held = cut.held; start = old.count + n; count = old.count + n; is_bad = cut.is_bad }) (between_is old c.self.invariant at_count)
    ∙ ap (λ k. between_characters (k + n)) count

pub returns-clause-stands_for : goal.returns-clause-stands_for
returns-clause-stands_for c taken text given s long whole =
    let old = state c.self.inside in
    let n = c.args.n in
    let count : old.count ≡ c.args.self.now.count = ap (λ cut. cut.count) c.self.view_is in
    let at_count : old.start ≡ old.count = ap (λ cut. cut.start) c.self.view_is ∙ c.requires.between ∙ sym count in
    let between : old ≡ between_characters old.count = between_is old c.self.invariant at_count in
    let stands = text_taken text whole old.count taken given (subst (λ cut. StandsFor cut taken given) (sym c.self.view_is ∙ between) s) in
    let long_is : old.count + length text ≡ old.count + n = ap (λ k. old.count + k) long in
    let new : record { held = old.held; start = old.count + n; count = old.count + n; is_bad = old.is_bad } ≡ between_characters (old.count + n) =
    ap (λ (cut : CutState). record { held = cut.held; start = old.count + n; count = old.count + n; is_bad = cut.is_bad }) between in
    subst (λ cut. StandsFor cut (taken ++ text) (given ++ with_offsets c.args.self.now.count (chars text))) (ap between_characters long_is ∙ sym new)
    (subst (λ k. StandsFor (between_characters (old.count + length text)) (taken ++ text) (given ++ with_offsets k (chars text))) count stands)
