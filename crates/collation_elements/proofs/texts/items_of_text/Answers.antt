use Rattle.std.proofs.Common.{◌∙◌, ap}
use Rattle.std.proofs.lemmas.Str.{encodes-chars}
use Rattle.nfd_points.specs.Points.{byte_len}
use Rattle.std.specs.Prelude.{length, chars}
use Rattle.collation_elements.proofs.texts.items_of_text.Goals as goal

pub items_of_characters-requires : goal.items_of_characters-requires
items_of_characters-requires g c =
    let same = c.as_slice.ensures.value ∙ c.in_ok-characters.ensures in
    ap byte_len same ∙ c.laws_of_points.ensures.bytes (chars c.args.text.now) ∙ ap length (encodes-chars c.args.text.now c.utf8.text)
