use Rattle.std.proofs.Common.{◌≡◌, ◌∙◌, ℕ, ◌<◌, ◌≤◌, Option, None, Result, Ok, Err, sym, ap, subst, inr}
use Rattle.std.specs.Prelude.{IfErr}
use Rattle.std.proofs.lemmas.Bool.{both_ways}
use Rattle.collation_matches.specs.declared.faults.TextFault.{TextFault}
use Rattle.collation_matches.specs.Offsets.{answer_from}
use Rattle.collation_matches.specs.Sought.{Sought, IsCompiledFrom}
use Rattle.collation_safe.specs.Safe.{IsSafeOffset}
use Rattle.collation_backward.specs.Backward.{said_up_to}
use Rattle.collation_backward.specs.Going.{sought_by}
use Rattle.collation_backward.proofs.Behind.{none-behind, nothing-from}
use Rattle.collation_backward.proofs.backward.Backward.said_behind.Goals as goal

pub returns-in_default-place_behind-clause-behind : goal.returns-in_default-place_behind-clause-behind
returns-in_default-place_behind-clause-behind g c = λ p compiled few.
    let s = sought_by c.args.self.now in
    let table = ap (λ (t : Sought). t.table) (sym c.loop-said.invariant.same) ∙ c.loop-said.self.table_same in
    none-behind s (g.W.Weights.table c.loop-said.self.table.now) c.args.text.now c.args.at c.in-Err.fault c.place_behind.result table c.place_behind.ensures.nearest p c.in_default-place_behind.is

pub returns-then-is_none-clause-behind : goal.returns-then-is_none-clause-behind
returns-then-is_none-clause-behind g c = λ p compiled few.
    let s = sought_by c.args.self.now in
    let text = c.args.text.now in
    let at = c.args.at in
    let next = c.in-Some.next in
    let same = c.loop-said.invariant.same in
    let table = ap (λ (t : Sought). t.table) (sym same) ∙ c.loop-said.self.table_same in
    let all = ap (λ (t : Sought). t.select) (sym same) ∙ c.loop-said.self.all in
    let here = subst (λ (t : Sought). IsCompiledFrom t p) (sym same) compiled in
    let none = subst (λ (t : Sought). said_up_to at (answer_from t p text next) ≡ Ok None) same
    (sym (c.said_from-later.ensures.said p here) ∙ c.is_none.ensures.is c.if-is_none.true) in
    let laws = c.whole_characters_are_the_longest_text.ensures in
    nothing-from s (g.W.Weights.table c.loop-said.self.table.now) text at c.in-Err.fault c.place_behind.result table c.place_behind.ensures.nearest
    c.answers_from_safe_offsets.ensures laws.text laws.within p next all few c.in-Some.is none

before-only : (next at : ℕ) (r : Result (Option (ℕ × ℕ)) TextFault) → IfErr r (λ f. (next ≤ f.offset) × (f.offset < at)) → IfErr r (λ f. f.offset < at)
before-only next at (Ok found) h = tt
before-only next at (Err f) h = h.1

pub loop-said-preserved : goal.loop-said-preserved
loop-said-preserved g c =
    let s = sought_by c.args.self.now in
    let text = c.args.text.now in
    let at = c.args.at in
    let next = c.in-Some.next in
    let same = c.loop-said.invariant.same in
    let table = ap (λ (t : Sought). t.table) (sym same) ∙ c.loop-said.self.table_same in
    record {
      told = λ p compiled. record {
        place = next;
        begins = inr (subst (λ t. IsSafeOffset t text next) (sym table) c.in-Some.ensures.safe, c.in-Some.ensures.behind.1);
        says = subst (λ (t : Sought). c.said_from-later.result ≡ said_up_to at (answer_from t p text next)) same
            (c.said_from-later.ensures.said p (subst (λ (t : Sought). IsCompiledFrom t p) (sym same) compiled));
        none = λ e. absurd (both_ways c.is_none.result c.if-is_none.false (c.is_none.ensures.known e));
      };
      before = before-only next at c.said_from-later.result c.said_from-later.ensures.behind;
      same = c.said_from-later.ensures.sought ∙ same;
    }
