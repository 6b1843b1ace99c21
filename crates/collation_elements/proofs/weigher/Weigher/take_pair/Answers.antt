use Rattle.std.proofs.Common.{[], ◌∷◌, sym, ◌∙◌, ap}
use Rattle.collation_elements.specs.declared.weigher.Weigher.{Weigher}
use Rattle.collation_elements.specs.Keys.{pair_key}
use Rattle.collation_elements.specs.Weighing.{weighted_element}
use Rattle.collation_elements.proofs.ShortItemLaws.{listed-pair}
use Rattle.collation_elements.proofs.weigher.Weigher.take_pair.Goals as goal

pub returns-then-is_follower-clause-items : goal.returns-then-is_follower-clause-items
returns-then-is_follower-clause-items c =
    let w = c.args.self.now in
    let second = c.weigh-follower.ensures.element ∙ ap (λ (v : Weigher). weighted_element v.variable v.after_variable c.args.f) c.weigh-lead.ensures.after in
    listed-pair w c.args.first_point c.args.e c.args.f c.weigh-lead.result c.weigh-follower.result c.cluster_start.result c.pair_key.result (c.cluster_start.ensures (c.args.f ∷ []))
    c.weigh-lead.ensures.element second
    (sym c.is_lead.ensures ∙ c.if-is_lead.true) (sym c.is_follower.ensures ∙ c.if-is_follower.true)
    (c.pair_key.ensures ∙ ap (λ s. pair_key s c.weigh-lead.result c.weigh-follower.result) c.strength-strength.ensures)
