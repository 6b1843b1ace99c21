use Rattle.std.proofs.Common.{arith}
use Rattle.collation_skip.proofs.AsciiLemmas.{RunLaws}
use Rattle.collation_skip.proofs.BorderSteps.{Borders}
use Rattle.collation_skip.proofs.TwoByteCharacters.{ending-of}
use Rattle.collation_skip.proofs.two_byte_blocks.pass_two_bytes.Goals as goal

pub returns-clause-passes : goal.returns-clause-passes
returns-clause-passes g c =
    let laws : RunLaws = record {
      points = c.laws_of_characters.ensures;
      before = c.units_stay_apart.ensures.before;
      goes_on = c.weighers_go_on.ensures;
    } in
    let borders : Borders = record {
      last = c.laws_of_borders.ensures.last;
      grow = c.laws_of_borders.ensures.grow;
      none = c.laws_of_symbols.ensures.none;
      one = c.laws_of_symbols.ensures.one;
      foreign = c.laws_of_symbols.ensures.foreign;
    } in
    let is = c.in-Some.ensures.ending in
    let within = is.within in
    let len = c.going_len-len.ensures in
    let fits = len.within in
    let passed = ending-of laws borders (g.W.Weights.table c.args.table.now) c.args.pattern.now c.args.classes.now c.requires.classes c.args.piece.now c.going_len-len.result len.passes (λ j. (c.type_inv.piece j).fits) c.in-Some.passed is in
    record {
      within = is.room;
      order = omega (arith, is.end);
      reach = omega (arith, within, fits, c.min.ensures, c.min-most.ensures);
      next = is.next;
      letter = is.following;
      text = passed.0;
      passed = passed.1;
    }
