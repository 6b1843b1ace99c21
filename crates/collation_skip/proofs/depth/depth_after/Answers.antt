use Rattle.collation_skip.proofs.DepthLemmas.{depth-held}
use Rattle.collation_skip.proofs.depth.depth_after.Goals as goal

pub returns : goal.returns
returns c =
    depth-held c.laws_of_symbols.ensures.listed c.laws_of_symbols.ensures.turn c.args.pattern.now.keys c.args.symbols c.args.depth c.depth_after_one-depth.result c.depth_after_one-depth-2.result c.depth_after_one.result
    c.depth_after_one-depth.ensures.border c.depth_after_one-depth-2.ensures.border c.depth_after_one.ensures.border c.depth_after_one-depth.ensures.foreign c.depth_after_one-depth-2.ensures.foreign c.depth_after_one.ensures.foreign
