use Rattle.std.proofs.Common.{◌≡◌, ℕ, ◌+◌, ◌≤◌, List, [], ◌∷◌, ◌++◌, length, take, drop, get_or, ap, subst, sym, ◌∙◌, arith}
use Rattle.std.proofs.lemmas.List.{get_or_default, length_push}
use Rattle.collation_elements.specs.declared.keys.Key.TheVariants.{Primary}
use Rattle.collation_pattern.specs.Border.{border}
use Rattle.collation_pattern.specs.Borders.{AreBorders}
use Rattle.collation_pattern.proofs.BorderLemmas.{border-within, border-short, table-more, next-first, next-later}
use Rattle.collation_pattern.proofs.borders.borders_of.Goals as goal
use Rattle.collation_pattern.proofs.borders.borders_of.Goals.{then-i-gt0, else-i-gt0}

pub state_after-state-requires-clause-within : goal.state_after-state-requires-clause-within
state_after-state-requires-clause-within c =
    let keys = c.args.keys.now in
    subst (λ n. n ≤ length keys) (sym c.loop-i.invariant.state) (border-within keys (drop 1 (take c.loop-i.i keys)))

pub state_after-state-requires-clause-known : goal.state_after-state-requires-clause-known
state_after-state-requires-clause-known c =
    let keys = c.args.keys.now in
    let i = c.loop-i.i in
    omega (arith, c.loop-i.invariant.state, c.loop-i.invariant.len, border-short keys i, ap (λ (l : List ℕ). length l) c.deref.ensures.value)

pub loop-i-preserved : goal.loop-i-preserved
loop-i-preserved c =
    let keys = c.args.keys.now in
    let i = c.loop-i.i in
    let inv = c.loop-i.invariant in
    let done = c.in_ok-push.ensures in
    let state : c.if-i-gt0.state ≡ border keys (drop 1 (take (i + 1) keys)) =
    elim c.if-i-gt0.branch [
      | then-i-gt0 w ↦
          w.state-is ∙ w.state_after-state.ensures
          ∙ ap (λ n. border keys (take n keys ++ get_or keys i (Primary 0 0 0) ∷ [])) inv.state
          ∙ next-later keys i (get_or keys i (Primary 0 0 0)) c.loop-i-test.true (omega (arith, w.if-i-gt0.true)) (get_or_default keys i _ _ c.loop-i-test.true)
      | else-i-gt0 w ↦
          let least : i ≡ 0 = omega (arith, w.if-i-gt0.false) in
          w.state-is ∙ inv.state ∙ ap (λ n. border keys (drop 1 (take n keys))) least ∙ next-first keys
          ∙ ap (λ n. border keys (drop 1 (take (n + 1) keys))) (sym least)
    ] in
    let table = table-more keys c.loop-i.borders.items c.if-i-gt0.state inv.borders (state ∙ ap (λ n. border keys (drop 1 (take (n + 1) keys))) (sym inv.len)) in
    record {
      len = ap (λ (l : List ℕ). length l) done.items ∙ length_push c.loop-i.borders.items c.if-i-gt0.state ∙ ap (λ n. n + 1) inv.len;
      borders = subst (AreBorders keys) (sym done.items) table;
      state = state;
    }
