use Rattle.std.proofs.Common.{arith, subst, ◌≡◌, ◌+◌, ◌-◌, ◌*◌, ◌∷◌, []}
use Rattle.utf8_cut.specs.Sequences.{SpellsCharacter}
use Rattle.utf8_cut.proofs.TableLemmas.{spells_two}
use Rattle.utf8_cut.proofs.sequence.char_of_two.Goals as goal

pub returns : goal.returns
returns c =
    let x = c.args.first in
    let y = c.args.second in
    let is : (x - 0xC0) * 0x40 + (y - 0x80) ≡ c.from_u32_unchecked.result = omega (arith, c.from_u32_unchecked.ensures) in
    subst (SpellsCharacter (x ∷ y ∷ [])) is (spells_two x y (omega arith) (omega arith) c.requires.second)
