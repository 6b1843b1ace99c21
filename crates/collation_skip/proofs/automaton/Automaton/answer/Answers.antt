use Rattle.std.specs.Char.{len_utf8}
use Rattle.std.specs.Str.{chars, IsUtf8}
use Rattle.std.proofs.Common.{◌≡◌, ◌+◌, ◌-◌, ◌≤◌, ◌<◌, ℕ, List, length, take, drop, sym, subst, arith}
use Rattle.std.proofs.lemmas.List.{length-drop, take_rest}
use Rattle.utf8_cut.specs.Sequences.{SpellsCharacter}
use Rattle.collation_skip.specs.Passed.{IsPassed}
use Rattle.collation_skip.specs.Reached.{HasReached}
use Rattle.collation_skip.proofs.RunLemmas.{is-passed, stands-state, text-passed}
use Rattle.collation_skip.proofs.automaton.Automaton.answer.Goals as goal

pub returns-clause-passes : goal.returns-clause-passes
returns-clause-passes g c =
    let table = g.W.Weights.table c.args.table.now in
    let pattern = c.args.pattern.now in
    let piece = c.args.piece.now in
    let at = c.args.cursor.accepted_at in
    let s = c.in_ok-state.state in
    let bytes = c.laws_of_points.ensures.bytes_of_parts in
    let stands = c.requires.passed (omega (arith, c.if-cursor-eq0.false)) in
    let some : 0 < s.before = omega (arith, c.if-state-eq0.false) in
    let is : (start : ℕ) → HasReached table pattern s start (take at piece) = stands-state table pattern c.args.self.now piece at c.args.cursor.accepted_row s c.in_ok-state.ensures stands.1 in
    let ended = c.in_ok-end.ensures in
    let begun = c.in_ok-start.ensures in
    let end : at - s.len ≡ c.in_ok-end.end = omega (arith, ended) in
    let begin : at - s.len - s.before ≡ c.in_ok-start.start = omega (arith, begun, end) in
    let next = c.in_ok-next.next in
    let more = c.in_ok-next.ensures in
    let rest = take_rest piece c.in_ok-end.end in
    let here : SpellsCharacter (take (len_utf8 next) (drop c.in_ok-end.end piece)) next = subst (λ (bs : List ℕ). SpellsCharacter (take (len_utf8 next) bs) next) rest more.some.1 in
    let spelled : SpellsCharacter (take (len_utf8 next) (drop (at - s.len) piece)) next = subst (λ n. SpellsCharacter (take (len_utf8 next) (drop n piece)) next) (sym end) here in
    let fits : len_utf8 next ≤ length (drop c.in_ok-end.end piece) = subst (λ (bs : List ℕ). len_utf8 next ≤ length bs) rest more.some.0 in
    record {
      within = omega (arith, fits, ended, stands.0, length-drop c.in_ok-end.end piece);
      order = omega (arith, begun);
      reach = omega (arith, ended);
      next = here;
      letter = c.letter-letter.ensures.letter;
      text = subst (λ n. IsUtf8 (take n piece)) end (text-passed bytes table pattern piece at s stands.0 some (is 0));
      passed = λ start. subst (λ n. IsPassed table pattern start (start + n) (chars (take c.in_ok-end.end piece)) next) begin
          (subst (λ n. IsPassed table pattern start (start + (at - s.len - s.before)) (chars (take n piece)) next) end (is-passed bytes table pattern piece at s start next stands.0 some spelled (is start)));
    }
