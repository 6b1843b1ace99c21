use Rattle.std.proofs.Common.{◌≡◌, ◌++◌, [], ◌∷◌, length, sym, ◌∙◌, arith, length-append}
use Rattle.collation_table.specs.declared.limits.TheConstants.{MOST_STRING_POINTS}
use Rattle.std.proofs.lemmas.Bool.{eqb-true}
use Rattle.collation_elements.proofs.Longest.{long_list-is_mapped}
use Rattle.collation_elements.proofs.window.lengthen.Goals as goal

pub returns-then-is_full-clause-value : goal.returns-then-is_full-clause-value
returns-then-is_full-clause-value g c =
    let string = c.args.string.now.items in
    let full : length string ≡ MOST_STRING_POINTS = eqb-true (length string) MOST_STRING_POINTS (sym c.is_full.ensures.value ∙ c.if-is_full.true) in
    let sizes = g.met.W.Weights.sizes c.args.table.now in
    sym (long_list-is_mapped (g.W.Weights.table c.args.table.now) (string ++ c.args.cp ∷ []) (omega (arith, sizes.string, length-append string (c.args.cp ∷ []))))
