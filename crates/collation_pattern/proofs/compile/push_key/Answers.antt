use Rattle.std.proofs.Common.{[], ◌++◌, sym, ap, ◌∙◌}
use Rattle.collation_elements.specs.ItemParts.{keys_in}
use Rattle.collation_pattern.proofs.compile.push_key.Goals as goal

pub returns-in_ok-push-in-Element : goal.returns-in_ok-push-in-Element
returns-in_ok-push-in-Element c =
    c.in_ok-push-in-Element.ensures.items ∙ sym (ap (λ item. c.args.keys.now.items ++ (keys_in item ++ [])) c.in-Element.is)
