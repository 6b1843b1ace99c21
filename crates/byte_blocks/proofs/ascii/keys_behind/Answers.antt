use Rattle.std.proofs.Common.{◌∙◌, sym, arith}
use Rattle.std.proofs.lemmas.Simd.{get_or-replicate}
use Rattle.byte_blocks.proofs.ascii.keys_behind.Goals as goal

pub returns : goal.returns
returns c = sym c.in_set.ensures ∙ sym (get_or-replicate 16 15 c.in_set.result 0 (omega arith))
