use Rattle.std.proofs.Common.{◌∙◌, ℕ, ◌<◌, ◌∷◌, min, get_or, ap₂, arith, bit_or, Fits, w8}
use Rattle.std.proofs.lemmas.Simd.{Each1-get_or}
use Rattle.byte_blocks.proofs.LaneLemmas.{member}
use Rattle.byte_blocks.proofs.PassLemmas.{keys-one-back, lane-passes-by-keys}
use Rattle.byte_blocks.proofs.ascii.key_stops.Goals as goal

pub returns : goal.returns
returns c = λ decide byte last k less.
    let sets = c.args.sets.now in
    let here = c.args.here in
    let long = c.fits-here.0 in
    let fits : get_or here k 0 < 256 = (Each1-get_or (Fits w8) here k 0 (omega (arith, long, less)) c.fits-here.1).fits in
    let key = c.one_back.ensures.each k less ∙ keys-one-back sets.key c.args.before c.args.keys here byte c.fits-before.0 c.requires last k less in
    let later = member sets.later here c.columns.result c.members-later.result c.columns.ensures c.members-later.ensures k less in
    let keys = c.least.ensures.each k less ∙ ap₂ (λ (a b : ℕ). min a b) key later in
    lane-passes-by-keys sets (get_or (byte ∷ here) k 0) (get_or here k 0) _ decide fits (c.either.ensures.each k less ∙ ap₂ bit_or keys (c.high_bits.ensures.each k less))
