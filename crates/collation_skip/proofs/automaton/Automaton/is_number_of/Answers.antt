use Rattle.std.proofs.Common.{◌≡◌, ◌∙◌, List, Some, slice_get, refl, sym, ap, subst}
use Rattle.std.proofs.lemmas.Bool.{ltb-true}
use Rattle.std.proofs.lemmas.Option.{slice_get_read}
use Rattle.collation_skip.specs.declared.state.State.{State}
use Rattle.collation_skip.proofs.EqualStates.{same-state}
use Rattle.collation_skip.proofs.automaton.Automaton.is_number_of.Goals as goal

pub returns-in-Some : goal.returns-in-Some
returns-in-Some c = λ yes.
    let other = c.in-Some.other.now in
    let found = c.in-Some.ensures.lookup in
    let same : other ≡ c.args.state.now = same-state other c.args.state.now (sym c.eq.ensures ∙ yes) in
    let there = slice_get_read c.deref.result.now _ c.args.number other refl (ltb-true _ _ (sym found.0)) found.1 in
    subst (λ (l : List State). slice_get l c.args.number ≡ Some other) c.deref.ensures.value there ∙ ap (λ (s : State). Some s) same
