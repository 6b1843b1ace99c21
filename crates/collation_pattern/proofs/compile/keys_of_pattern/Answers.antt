use Rattle.std.specs.Prelude.{vec_len, chars, nat_lt}
use Rattle.std.proofs.Common.{◌≡◌, ◌≤◌, ◌<◌, ◌==◌, ℕ, List, length, Some, None, true, sym, ap, subst, ◌∙◌, arith}
use Rattle.std.specs.Option.{is_some}
use Rattle.std.proofs.lemmas.Bool.{cond-true, cond-false, le-ltb, eq-eqb, eqb-true, eqb-false, ne_eqb}
use Rattle.nfd_points.specs.Points.{points}
use Rattle.nfd_points.specs.PointFaults.{point_fault}
use Rattle.collation_table.specs.Table.{TableMap}
use Rattle.collation_elements.specs.declared.settings.Strength.{Strength}
use Rattle.collation_elements.specs.declared.settings.Variable.{Variable}
use Rattle.collation_elements.specs.ItemParts.{item_keys}
use Rattle.collation_elements.specs.Texts.{IsUnread}
use Rattle.collation_pattern.specs.Levels.{text_keys}
use Rattle.collation_pattern.specs.PatternFaults.{pattern_fault}
use Rattle.collation_pattern.proofs.compile.keys_of_pattern.Goals as goal

module _ (T : TableMap) (s : Strength) (v : Variable) (text : List ℕ) (short : length text ≤ 65_536) where
  long_run : is_some (point_fault (chars text)) ≡ true → pattern_fault T s v text ≡ Some 23
  long_run unread =
      cond-false (nat_lt 65_536 (length text)) _ _ (le-ltb 65_536 (length text) short)
      ∙ cond-true (is_some (point_fault (chars text))) _ _ unread

  no_key : point_fault (chars text) ≡ None → length (text_keys T s v text) ≡ 0 → pattern_fault T s v text ≡ Some 22
  no_key good none =
      cond-false (nat_lt 65_536 (length text)) _ _ (le-ltb 65_536 (length text) short)
      ∙ cond-false (is_some (point_fault (chars text))) _ _ (ap is_some good)
      ∙ cond-true (length (text_keys T s v text) == 0) _ _ (eq-eqb _ 0 none)

  no_fault : point_fault (chars text) ≡ None → 0 < length (text_keys T s v text) → pattern_fault T s v text ≡ None
  no_fault good some =
      cond-false (nat_lt 65_536 (length text)) _ _ (le-ltb 65_536 (length text) short)
      ∙ cond-false (is_some (point_fault (chars text))) _ _ (ap is_some good)
      ∙ cond-false (length (text_keys T s v text) == 0) _ _ (ne_eqb _ 0 (λ none. omega arith))

-- Each answer asks first for the bound on the bytes.

pub returns-in-Err-Points-clause-refused : goal.returns-in-Err-Points-clause-refused
returns-in-Err-Points-clause-refused g c = λ _.
    let short : length c.args.text.now ≤ 65_536 = omega arith in
    long_run (g.W.Weights.table c.args.table.now) c.args.strength c.args.variable c.args.text.now short
    (subst (IsUnread (chars c.args.text.now)) c.in-Err-Points.field-0-is c.in-Err-Points.ensures.bad)

pub returns-then-is_empty-clause-refused : goal.returns-then-is_empty-clause-refused
returns-then-is_empty-clause-refused g c = λ _.
    let T = g.W.Weights.table c.args.table.now in
    let text = c.args.text.now in
    let short : length text ≤ 65_536 = omega arith in
    let keys = c.in-Ok-keys_among.ensures ∙ ap item_keys (c.as_slice.ensures.value ∙ c.in-Ok.ensures.items)
    ∙ c.items_are_keys_and_starts.ensures.keys T c.args.strength c.args.variable (points (chars text)) in
    no_key T c.args.strength c.args.variable text short c.in-Ok.ensures.good
    (omega (arith, ap length keys, eqb-true (vec_len c.in-Ok-keys_among.keys) 0 (sym c.if-is_empty.ensures)))

pub returns-clause-accepted : goal.returns-clause-accepted
returns-clause-accepted g c =
    let T = g.W.Weights.table c.args.table.now in
    let text = c.args.text.now in
    let short : length text ≤ 65_536 = omega arith in
    let keys = c.in-Ok-keys_among.ensures ∙ ap item_keys (c.as_slice.ensures.value ∙ c.in-Ok.ensures.items)
    ∙ c.items_are_keys_and_starts.ensures.keys T c.args.strength c.args.variable (points (chars text)) in
    no_fault T c.args.strength c.args.variable text short c.in-Ok.ensures.good
    (omega (arith, ap length keys, eqb-false (vec_len c.in-Ok-keys_among.keys) 0 (sym c.if-is_empty.ensures)))
