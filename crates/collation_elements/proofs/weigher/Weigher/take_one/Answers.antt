use Rattle.std.proofs.Common.{[], ◌∙◌, ap}
use Rattle.collation_elements.specs.Keys.{element_keys}
use Rattle.collation_elements.proofs.ShortItemLaws.{listed-one}
use Rattle.collation_elements.proofs.weigher.Weigher.take_one.Goals as goal

pub returns-clause-items : goal.returns-clause-items
returns-clause-items c =
    let w = c.args.self.now in
    listed-one w c.args.first_point c.args.e c.weigh-weighted.result c.cluster_start.result c.key_of.result (c.cluster_start.ensures []) c.weigh-weighted.ensures.element
    (c.key_of.ensures ∙ ap (λ s. element_keys s c.weigh-weighted.result) c.strength-strength.ensures)
