use Rattle.std.specs.Char.{len_utf8}
use Rattle.std.proofs.Common.{◌≡◌, ℕ, suc, ◌+◌, ◌-◌, ◌<◌, ◌≤◌, List, length, take, get_or, inl, inr, sym, subst, arith}
use Rattle.std.proofs.Math.Logic.{∥∥₁_map}
use Rattle.std.proofs.lemmas.Bool.{cases_lt}
use Rattle.std.proofs.lemmas.Str.{len_utf8_ascii, IsUtf8-from_ascii, chars-IsAscii}
use Rattle.collation_skip.specs.declared.classes.Classes.{Classes}
use Rattle.byte_blocks.specs.Ascii.{Passes}
use Rattle.collation_skip.specs.Passed.{IsPassed}
use Rattle.collation_skip.proofs.BorderSteps.{Borders}
use Rattle.collation_skip.proofs.BlockLemmas.{ascii-take, passed-of, spells-ascii}
use Rattle.collation_skip.proofs.PassedLemmas.{passed-had}
use Rattle.collation_skip.proofs.AsciiLemmas.{RunLaws, ascii-at}
use Rattle.collation_skip.proofs.blocks.pass_blocks.Goals as goal

-- the byte behind those that pass
followed : (classes : Classes) (bytes : List ℕ) (total most end : ℕ) → Passes classes.sets bytes total → most ≤ total → (0 < most → total ≤ most → (total < length bytes) × (get_or bytes total 0 < 128)) → 0 < end → end ≤ most →
    (end < length bytes) × (get_or bytes end 0 < 128)
followed classes bytes total most end p within behind some here = elim (cases_lt end total) [
  | inl before ↦ (let long = p.within in omega (arith, before, long), ascii-at classes bytes total end p before)
  | inr last ↦
      let same : total ≡ end = omega (arith, last, within, here) in
      subst (λ n. (n < length bytes) × (get_or bytes n 0 < 128)) same (behind (omega (arith, some, here)) (omega (arith, last, here)))
]

-- what was passed is ASCII, and so is the byte behind it
pub returns-clause-passes : goal.returns-clause-passes
returns-clause-passes g c =
    let p = c.passed_len-len.ensures.passes in
    let most = c.followed_len.ensures.within in
    let end = c.len_to_last-end.result in
    let some : 0 < end = omega (arith, c.if-end-eq0.false) in
    let start = end - 1 in
    let next : suc start ≡ end = omega (arith, some) in
    let here = c.len_to_last-end.ensures.within in
    let len = c.passed_len-len.result in
    let within : start < len = omega (arith, some, here, most) in
    let long = p.within in
    let classes = c.args.classes.now in
    let piece = c.args.piece.now in
    let clean = c.requires.classes.clean (get_or piece start 0) (ascii-at classes piece len start p within) (c.len_to_last-end.ensures.member some) in
    let behind = followed classes piece len c.followed_len.result end p most c.followed_len.ensures.followed some here in
    let table = g.W.Weights.table c.args.table.now in
    let pattern = c.args.pattern.now in
    let one : len_utf8 (get_or piece end 0) ≡ 1 = len_utf8_ascii (get_or piece end 0) behind.1 in
    let laws : RunLaws = record {
      points = c.laws_of_characters.ensures;
      before = c.units_stay_apart.ensures.before;
      goes_on = c.weighers_go_on.ensures;
    } in
    let borders : Borders = record {
      last = c.laws_of_borders.ensures.last;
      grow = c.laws_of_borders.ensures.grow;
      none = c.laws_of_symbols.ensures.none;
      one = c.laws_of_symbols.ensures.one;
      foreign = c.laws_of_symbols.ensures.foreign;
    } in
    let ascii = ascii-take piece end (omega (arith, here, most, long)) (λ i less. ascii-at classes piece len i p (omega (arith, less, here, most))) in
    let limit = c.passed_len-len.ensures.within in
    let room = subst (λ n. n < length piece) (sym next) behind.0 in
    let last = subst (λ n. get_or piece n 0 < 128) (sym next) behind.1 in
    record {
      within = omega (arith, one, behind.0);
      order = omega arith;
      reach = omega (arith, here, most, limit, c.min.ensures);
      next = spells-ascii piece end behind.0 behind.1;
      letter = c.letter-letter.ensures.letter;
      text = IsUtf8-from_ascii (take end piece) ascii;
      passed = λ at. subst (λ (cs : List ℕ). IsPassed table pattern at (at + start) cs (get_or piece end 0)) (sym (chars-IsAscii (take end piece) ascii))
          (subst (λ n. IsPassed table pattern at (at + start) (take n piece) (get_or piece n 0)) next
          (passed-had table pattern at (at + start) (take (suc start) piece) (get_or piece (suc start) 0)
          (∥∥₁_map clean (λ it. passed-of laws c.laws_of_symbols.ensures.listed borders table pattern classes c.requires.classes piece len start p within room last it.0 it.1 it.2 at))));
    }
