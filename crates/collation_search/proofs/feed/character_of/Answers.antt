use Rattle.std.proofs.Common.{◌∙◌, drop}
use Rattle.std.proofs.lemmas.Str.{IsUtf8-drop}
use Rattle.std.specs.Str.{IsCharBoundary}
use Rattle.collation_search.proofs.FrontLemmas.{first-spelled}
use Rattle.collation_search.proofs.feed.character_of.Goals as goal

pub returns-then-is_char_boundary : goal.returns-then-is_char_boundary
returns-then-is_char_boundary c =
    let text = c.args.text.now in
    let at = c.args.at in
    let begins : IsCharBoundary text at = c.is_char_boundary.ensures.test.0 c.if-is_char_boundary.true in
    first-spelled (drop at text) c.chars.result c.next.new.self c.next.result (IsUtf8-drop text at c.utf8.text begins) (c.chars.ensures.rest ∙ c.range_from.ensures.value) c.next.ensures.steps
