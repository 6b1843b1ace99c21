use Rattle.std.specs.Char.{len_utf8}
use Rattle.std.specs.Str.{chars}
use Rattle.std.proofs.Common.{◌∙◌, ℕ, ◌+◌, ◌≤◌, ◌<◌, List, [], ◌∷◌, length, take, drop, None, sym, ap, subst, arith}
use Rattle.std.proofs.lemmas.Bool.{eqb-false}
use Rattle.std.proofs.lemmas.List.{length-drop, take_rest}
use Rattle.utf8_cut.specs.Sequences.{SpellsCharacter}
use Rattle.collation_elements.specs.declared.keys.Key.{Key}
use Rattle.collation_elements.specs.ItemParts.{item_keys}
use Rattle.collation_skip.specs.Reached.{items_from}
use Rattle.collation_skip.proofs.BorderSteps.{none-foreign}
use Rattle.collation_skip.proofs.ForeignLemmas.{ForeignLaws, AreQuiet, quiet-so_far, passed-on, text-on}
use Rattle.collation_letters.proofs.ClusterLemmas.{letter-of}
use Rattle.collation_letters.specs.declared.store.Letters.{Letters}
use Rattle.collation_letters.specs.Store.{AreLetters}
use Rattle.collation_skip.proofs.foreign.pass_foreign.Goals.{then-loop-end-test+else-is_clean, else-loop-end-test, then-loop-end-test+then-is_clean+in_default, then-loop-end-test+then-is_clean+in-Some+then-not-is_next}
use Rattle.collation_skip.proofs.foreign.pass_foreign.Goals as goal

pub loop-end-preserved : goal.loop-end-preserved
loop-end-preserved g c =
    let table = g.W.Weights.table c.args.table.now in
    let piece = c.args.piece.now in
    let pattern = c.args.pattern.now in
    let i = c.loop-end.invariant in
    let end = c.loop-end.end in
    let len = c.loop-end.len in
    let here = c.loop-end.next in
    let next = c.in-Some.following in
    let more = c.in-Some.ensures in
    let rest = take_rest piece (end + len) in
    let spelled : SpellsCharacter (take (len_utf8 next) (drop (end + len) piece)) next = subst (λ (bs : List ℕ). SpellsCharacter (take (len_utf8 next) bs) next) rest more.some.1 in
    let fits : len_utf8 next ≤ length (drop (end + len) piece) = subst (λ (bs : List ℕ). len_utf8 next ≤ length bs) rest more.some.0 in
    let within = i.within in
    let some : 0 < length pattern.keys =
    let none = eqb-false (length c.keys.result.now) 0 (sym c.is_empty.ensures ∙ c.if-is_empty.false) in
    let keys = ap (λ (l : List Key). length l) c.keys.ensures in omega (arith, none, keys) in
    let laws : ForeignLaws = record {
      points = c.laws_of_characters.ensures;
      one = c.laws_of_symbols.ensures.one;
      foreign = c.laws_of_symbols.ensures.foreign;
    } in
    let clean = c.is_clean-in-loop-end.ensures c.if-is_clean.true in
    let apart = c.is_next.ensures.apart c.if-not-is_next.false None in
    let letter = c.letter-following_letter.ensures.letter in
    record {
      letters = c.letter-following_letter.ensures.right;
      within = omega (arith, within, fits, more.len, length-drop (end + len) piece);
      len = more.len;
      order = omega arith;
      reach = omega (arith, c.loop-end-test.true);
      next = spelled;
      text = text-on piece end len here i.len i.text i.next;
      letter = letter;
      passed = λ _ at.
          let quiet : AreQuiet table pattern at (chars (take end piece)) here = quiet-so_far table pattern piece end (at + c.loop-end.start) here at c.loop-end.letter some i.letter clean (λ yes. i.passed yes at) in
          passed-on laws.points table pattern piece end len here next at c.loop-end.letter within i.len i.text i.next quiet i.letter clean.0 (let zero = clean.1 in omega (arith, zero))
          (λ keys symbols. none-foreign pattern.keys keys (item_keys (items_from table pattern at (chars (take end piece)))) c.loop-end.letter.symbols.third laws.one laws.foreign clean.1 symbols)
          (apart table pattern (at + end) (here ∷ []) next (letter-of table pattern (here ∷ []) c.loop-end.letter i.letter) letter);
    }

pub returns-clause-passes : goal.returns-clause-passes
returns-clause-passes g c =
    let i = c.loop-end.invariant in
    let within = i.within in
    record {
      within = omega (arith, within, i.len);
      order = i.order;
      reach = i.reach;
      next = i.next;
      letter = i.letter;
      text = i.text;
      passed = i.passed (omega (arith, c.if-end-eq0.false));
    }

-- ---- the letters that were found stay right

pub returns-then-end-eq0-clause-letters : goal.returns-then-end-eq0-clause-letters
returns-then-end-eq0-clause-letters g c =
    let Right : Letters → Type 0 = λ (l : Letters). AreLetters (g.W.Weights.table c.args.table.now) c.args.pattern.now l in
    elim c.loop-end-test.branch [
      | then-loop-end-test+else-is_clean w ↦ subst Right (sym w.letters-is) c.loop-end.invariant.letters
      | else-loop-end-test w ↦ subst Right (sym w.letters-is) c.loop-end.invariant.letters
      | then-loop-end-test+then-is_clean+in_default w ↦ subst Right (sym w.letters-is) c.loop-end.invariant.letters
      | then-loop-end-test+then-is_clean+in-Some+then-not-is_next w ↦ subst Right (sym w.letters-is) w.letter-following_letter.ensures.right
    ]

pub returns-clause-letters : goal.returns-clause-letters
returns-clause-letters g c =
    let Right : Letters → Type 0 = λ (l : Letters). AreLetters (g.W.Weights.table c.args.table.now) c.args.pattern.now l in
    elim c.loop-end-test.branch [
      | then-loop-end-test+else-is_clean w ↦ subst Right (sym w.letters-is) c.loop-end.invariant.letters
      | else-loop-end-test w ↦ subst Right (sym w.letters-is) c.loop-end.invariant.letters
      | then-loop-end-test+then-is_clean+in_default w ↦ subst Right (sym w.letters-is) c.loop-end.invariant.letters
      | then-loop-end-test+then-is_clean+in-Some+then-not-is_next w ↦ subst Right (sym w.letters-is) w.letter-following_letter.ensures.right
    ]
