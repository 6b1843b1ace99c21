use Rattle.std.proofs.Common.{sym, ◌∙◌, ap}
use Rattle.collation_elements.specs.Elements.{begins_primary}
use Rattle.collation_elements.proofs.LonePoints.{begun-anew}
use Rattle.collation_elements.proofs.character.begin_anew.Goals as goal

pub returns : goal.returns
returns g c = record {
  anew = λ yes. begun-anew (g.W.Weights.table c.args.table.now) c.args.points.now _ c.in-len1-up.len_at_least c.in-Some.ensures.alone
      (sym (ap begins_primary (c.elements.ensures.value ∙ c.of_one-unit.ensures.elements)) ∙ sym c.begins_primary.ensures ∙ yes);
}
