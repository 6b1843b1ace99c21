use Rattle.std.proofs.Common.{◌≡◌, ◌∙◌, true, false, List, [], ◌∷◌, ◌++◌, length, slice_get, refl, sym, ap, subst, arith}
use Rattle.std.specs.Prelude.{Result, Ok, Err, is_err, OnOk, OnErr}
use Rattle.collation_skip.specs.declared.automaton.Automaton.{Automaton}
use Rattle.collation_skip.specs.declared.state.State.{State}
use Rattle.collation_skip.specs.Rows.{AreRowsRight}
use Rattle.collation_skip.proofs.RowLemmas.{got-last, right-same, right-added, row-more}
use Rattle.collation_skip.proofs.automaton.Automaton.add.Goals as goal
use Rattle.collation_skip.proofs.automaton.Automaton.add.Goals.{then-number-ge-MOST_STATES-via-then-number-ge-MOST_STATES, then-number-ge-MOST_STATES-via-else-number-ge-MOST_STATES+then-is_err}

pub returns-then-number-ge-MOST_STATES-clause-right : goal.returns-then-number-ge-MOST_STATES-clause-right
returns-then-number-ge-MOST_STATES-clause-right c = λ table pattern right. elim c.then-number-ge-MOST_STATES.branch [
  | then-number-ge-MOST_STATES-via-then-number-ge-MOST_STATES w ↦ subst (λ (a : Automaton). AreRowsRight table pattern a) (sym w.self-is) right
  | then-number-ge-MOST_STATES-via-else-number-ge-MOST_STATES+then-is_err w ↦ subst (λ (a : Automaton). AreRowsRight table pattern a) (sym w.self-is)
      (right-same table pattern c.args.self.now (record c.args.self.now { states = w.reserve.new.self }) refl w.reserve.ensures.items right)
]

refused : {T E P : Type 0} (r : Result T E) → is_err r ≡ true → OnErr r P → P
refused (Ok x) is p = cc
refused (Err e) is p = p

done : {T E P : Type 0} (r : Result T E) → is_err r ≡ false → OnOk r P → P
done (Ok x) is p = p
done (Err e) is p = cc

pub returns-then-is_err-2-clause-right : goal.returns-then-is_err-2-clause-right
returns-then-is_err-2-clause-right c = λ table pattern right.
    let a = c.args.self.now in
    let cells = refused c.add_row.result (sym c.is_err-2.ensures.value ∙ c.if-is_err-2.true) c.add_row.ensures.err in
    right-same table pattern a (record a { cells = c.add_row.new.self; states = c.reserve.new.self }) cells c.reserve.ensures.items right

pub returns-clause-number : goal.returns-clause-number
returns-clause-number c =
    let old = c.args.self.now.states in
    let many : c.len-number.result ≡ length old.items = omega (arith, c.len-number.ensures, old.ok.0) in
    let states : c.push_reserved.new.self.items ≡ old.items ++ c.args.state.now ∷ [] = c.push_reserved.ensures.items ∙ ap (λ (l : List State). l ++ c.args.state.now ∷ []) c.reserve.ensures.items in
    ap (λ (l : List State). slice_get l c.len-number.result) states ∙ ap (slice_get (old.items ++ c.args.state.now ∷ [])) many ∙ got-last old.items c.args.state.now

pub returns-clause-grows : goal.returns-clause-grows
returns-clause-grows c = λ other state h.
    let a = c.args.self.now in
    let states : c.push_reserved.new.self.items ≡ a.states.items ++ c.args.state.now ∷ [] = c.push_reserved.ensures.items ∙ ap (λ (l : List State). l ++ c.args.state.now ∷ []) c.reserve.ensures.items in
    row-more a (record a { cells = c.add_row.new.self; states = c.push_reserved.new.self }) (c.args.state.now ∷ []) states other state h

pub returns-clause-right : goal.returns-clause-right
returns-clause-right c = λ table pattern right.
    let a = c.args.self.now in
    let states : c.push_reserved.new.self.items ≡ a.states.items ++ c.args.state.now ∷ [] = c.push_reserved.ensures.items ∙ ap (λ (l : List State). l ++ c.args.state.now ∷ []) c.reserve.ensures.items in
    let cells = done c.add_row.result (sym c.is_err-2.ensures.value ∙ c.if-is_err-2.false) c.add_row.ensures.ok in
    right-added table pattern a (record a { cells = c.add_row.new.self; states = c.push_reserved.new.self }) c.args.state.now right states cells
