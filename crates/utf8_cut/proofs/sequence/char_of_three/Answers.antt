use Rattle.std.proofs.Common.{arith, subst, ◌≡◌, ◌+◌, ◌-◌, ◌*◌, ◌∷◌, []}
use Rattle.utf8_cut.specs.Sequences.{SpellsCharacter}
use Rattle.utf8_cut.proofs.TableLemmas.{spells_three}
use Rattle.utf8_cut.proofs.sequence.char_of_three.Goals as goal

pub returns : goal.returns
returns c =
    let x = c.args.first in
    let y = c.args.second in
    let z = c.args.third in
    let is : ((x - 0xE0) * 0x40 + (y - 0x80)) * 0x40 + (z - 0x80) ≡ c.from_u32_unchecked.result = omega (arith, c.from_u32_unchecked.ensures) in
    subst (SpellsCharacter (x ∷ y ∷ z ∷ [])) is (spells_three x y z (omega arith) (omega arith) c.requires.second (omega arith) (omega arith))
