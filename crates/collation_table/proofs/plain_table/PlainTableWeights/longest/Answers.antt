use Rattle.std.proofs.Common.{◌∙◌, sym, ap, arith, min, length}
use Rattle.collation_table.proofs.TableLemmas.{prefix_skips, prefix_found, prefix_start}
use Rattle.collation_table.proofs.plain_table.PlainTableWeights.longest.Goals as goal

pub loop-length-init : goal.loop-length-init
loop-length-init c = record {
  within = omega (arith, c.min-length.ensures);
  longest = prefix_start c.args.self.now.rows c.args.points.now _ (c.min-length.ensures ∙ ap (min (length c.args.points.now)) c.longest_key.ensures);
}

pub loop-length-preserved : goal.loop-length-preserved
loop-length-preserved c = record {
  within = omega (arith, c.loop-length.invariant.within);
  longest = prefix_skips c.args.self.now.rows c.args.points.now _ (omega arith) (sym c.maps.ensures ∙ c.if-not-maps.true) ∙ c.loop-length.invariant.longest;
}

pub returns-else-not-maps-clause-value : goal.returns-else-not-maps-clause-value
returns-else-not-maps-clause-value c =
    sym (prefix_found c.args.self.now.rows c.args.points.now _ (omega arith) (sym c.maps.ensures ∙ c.if-not-maps.false)) ∙ c.loop-length.invariant.longest
