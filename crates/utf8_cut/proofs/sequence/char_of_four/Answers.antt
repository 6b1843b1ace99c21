use Rattle.std.proofs.Common.{arith, subst, ◌≡◌, ◌+◌, ◌-◌, ◌*◌, ◌∷◌, []}
use Rattle.utf8_cut.specs.Sequences.{SpellsCharacter}
use Rattle.utf8_cut.proofs.TableLemmas.{spells_four}
use Rattle.utf8_cut.proofs.sequence.char_of_four.Goals as goal

pub returns : goal.returns
returns c =
    let x = c.args.first in
    let y = c.args.second in
    let z = c.args.third in
    let w = c.args.fourth in
    let is : (((x - 0xF0) * 0x40 + (y - 0x80)) * 0x40 + (z - 0x80)) * 0x40 + (w - 0x80) ≡ c.from_u32_unchecked.result = omega (arith, c.from_u32_unchecked.ensures) in
    subst (SpellsCharacter (x ∷ y ∷ z ∷ w ∷ [])) is
    (spells_four x y z w (omega arith) (omega arith) c.requires.second (omega arith) (omega arith) (omega arith) (omega arith))
