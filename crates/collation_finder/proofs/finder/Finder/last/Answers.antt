use Rattle.std.proofs.Common.{◌∙◌, ◌++◌, sym, ap, append_assoc}
use Rattle.std.specs.Option.{option_to_list}
use Rattle.collation_finder.proofs.finder.Finder.last.Goals as goal

pub returns : goal.returns
returns c = λ items ranges h.
    ap (λ t. ranges ++ t) c.keep.ensures ∙ sym (append_assoc ranges c.args.found.now.items (option_to_list c.end-range.result))
    ∙ c.end-range.ensures.found items (ranges ++ c.args.found.now.items) h
