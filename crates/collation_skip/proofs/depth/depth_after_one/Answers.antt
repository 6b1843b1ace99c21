use Rattle.std.proofs.Common.{arith}
use Rattle.collation_skip.proofs.DepthLemmas.{depth-one}
use Rattle.collation_skip.proofs.depth.depth_after_one.Goals as goal

pub returns-clause-border : goal.returns-clause-border
returns-clause-border c =
    depth-one c.laws_of_symbols.ensures.foreign c.laws_of_symbols.ensures.one c.args.pattern.now.keys c.args.depth c.args.symbol c.advance.result
    (omega (arith, c.ranges.symbol.fits, c.if-symbol-eq-NO_SYMBOL.false)) c.advance.ensures.border c.advance.ensures.foreign
