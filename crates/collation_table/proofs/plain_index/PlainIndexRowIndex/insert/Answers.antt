use Rattle.std.proofs.Common.{◌≡◌, ◌∙◌, ◌++◌, ap}
use Rattle.collation_table.proofs.PlainLemmas.{has_string, found-here, found-others}
use Rattle.std.specs.Map.{lookup}
use Rattle.collation_table.proofs.plain_index.PlainIndexRowIndex.insert.Goals as goal

pub returns-clause-here : goal.returns-clause-here
returns-clause-here c =
    let string = c.args.string.now in
    let key : c.extend_from_slice.new.self.items ≡ string = c.in_ok-extend_from_slice.ensures.items ∙ ap (λ l. l ++ string) c.new-key.ensures.items in
    ap (lookup (has_string string)) c.in_ok-insert.ensures.entries ∙ found-here string c.extend_from_slice.new.self c.args.place _ key

pub returns-clause-others : goal.returns-clause-others
returns-clause-others c = λ q other.
    let string = c.args.string.now in
    let key : c.extend_from_slice.new.self.items ≡ string = c.in_ok-extend_from_slice.ensures.items ∙ ap (λ l. l ++ string) c.new-key.ensures.items in
    ap (lookup (has_string q)) c.in_ok-insert.ensures.entries ∙ found-others string c.extend_from_slice.new.self c.args.place _ q key other
