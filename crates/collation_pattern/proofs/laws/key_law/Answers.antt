use Rattle.collation_pattern.proofs.KeyLawLemmas.{key_law_lem, sort_key_is_levels}
use Rattle.collation_pattern.proofs.laws.key_law.Goals as goal

pub returns : goal.returns
returns g c = record {
  same = key_law_lem c.laws_of_points.ensures.sound (g.W.Weights.table c.args.table.now) (g.met.W.Weights.well_formed c.args.table.now);
  levels = sort_key_is_levels (g.W.Weights.table c.args.table.now);
}
