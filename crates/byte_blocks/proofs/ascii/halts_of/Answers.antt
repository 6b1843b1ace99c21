use Rattle.std.proofs.Common.{◌∙◌, ◌<◌, get_or, ap₂, arith, bit_or, Fits, w8}
use Rattle.std.proofs.lemmas.Simd.{Each1-get_or}
use Rattle.byte_blocks.proofs.LaneLemmas.{member}
use Rattle.byte_blocks.proofs.PassLemmas.{lane-may-pass}
use Rattle.byte_blocks.proofs.ascii.halts_of.Goals as goal

pub returns : goal.returns
returns c = λ k less.
    let sets = c.args.sets.now in
    let here = c.args.here in
    let long = c.fits-here.0 in
    let fits : get_or here k 0 < 256 = (Each1-get_or (Fits w8) here k 0 (omega (arith, long, less)) c.fits-here.1).fits in
    let halt = member sets.halt here c.columns.result c.members.result c.columns.ensures c.members.ensures k less in
    lane-may-pass sets (get_or here k 0) _ fits (c.either.ensures.each k less ∙ ap₂ bit_or halt (c.high_bits.ensures.each k less))
