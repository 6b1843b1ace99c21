use Rattle.std.proofs.Common.{◌≡◌, ◌+◌, ◌-◌, ◌<◌, ℕ, List, ◌++◌, ◌∙◌, sym, ap, arith, length, take, drop, get_or, length-drop}
use Rattle.collation_table.specs.Table.{longest_prefix_within}
use Rattle.collation_table.specs.Trie.{at, place_of, seek}
use Rattle.collation_table.proofs.TrieLemmas.{longest-ends, entry-more, longest-found, longest-kept, get_or-following, rest_is}
use Rattle.collation_table.proofs.trie.Trie.longest.Goals.{then-is_some-2, else-is_some-2}
use Rattle.collation_table.proofs.trie.Trie.longest.Goals as goal

pub returns-in-None-clause-value : goal.returns-in-None-clause-value
returns-in-None-clause-value c = λ T answers.
    let within : length (take (length c.args.points.now - 1) (drop 1 c.args.points.now)) ≡ length c.args.points.now - 1 = ap length (rest_is c.args.points.now) ∙ length-drop 1 c.args.points.now in
    longest-ends (at c.args.self.now) T c.args.points.now c.loop-cp.length c.loop-cp.entry c.loop-cp.longest answers c.loop-cp.invariant.entry c.in-None.is (omega (arith, within)) (c.loop-cp.invariant.longest T answers)

pub loop-cp-preserved : goal.loop-cp-preserved
loop-cp-preserved c =
    let following : length (take (length c.args.points.now - 1) (drop 1 c.args.points.now)) ≡ length c.args.points.now - 1 = ap length (rest_is c.args.points.now) ∙ length-drop 1 c.args.points.now in
    let within : c.loop-cp.length < length c.args.points.now = omega (arith, following) in
    let entry : (q : List ℕ) → place_of c.args.self.now (take (c.loop-cp.length + 1) c.args.points.now ++ q) ≡ seek (at c.args.self.now) c.step-entry-in-Some.result q =
    entry-more (at c.args.self.now) c.args.points.now c.loop-cp.length c.loop-cp.entry c.step-entry-in-Some.result c.in-Some.node (get_or (take (length c.args.points.now - 1) (drop 1 c.args.points.now)) c.loop-cp.cp-index 0) c.loop-cp.invariant.entry within
    (get_or-following c.args.points.now c.loop-cp.cp-index c.loop-cp.length c.loop-cp.invariant.counted ∙ ap (λ l. get_or l c.loop-cp.cp-index 0) (sym (rest_is c.args.points.now))) c.in-Some.is c.step-entry-in-Some.ensures in
    record {
      counted = omega arith;
      entry = entry;
      longest = λ T answers. elim c.if-is_some-2.branch [
        | then-is_some-2 w ↦ longest-found (at c.args.self.now) T c.args.points.now c.loop-cp.length c.step-entry-in-Some.result answers entry (sym c.is_some-in-loop-cp.ensures ∙ w.if-is_some-2.true) ∙ sym w.longest-is
        | else-is_some-2 w ↦ longest-kept (at c.args.self.now) T c.args.points.now c.loop-cp.length c.step-entry-in-Some.result c.loop-cp.longest answers entry (sym c.is_some-in-loop-cp.ensures ∙ w.if-is_some-2.false) (c.loop-cp.invariant.longest T answers) ∙ sym w.longest-is
      ];
      small = elim c.if-is_some-2.branch [ then-is_some-2 w ↦ omega (arith, w.longest-is) | else-is_some-2 w ↦ omega (arith, w.longest-is) ];
    }

pub returns-clause-value : goal.returns-clause-value
returns-clause-value c = λ T answers.
    let following : length (take (length c.args.points.now - 1) (drop 1 c.args.points.now)) ≡ length c.args.points.now - 1 = ap length (rest_is c.args.points.now) ∙ length-drop 1 c.args.points.now in
    let all : c.loop-cp.length ≡ length c.args.points.now = omega (arith, following) in
    sym (c.loop-cp.invariant.longest T answers) ∙ ap (longest_prefix_within T c.args.points.now) all
