use Rattle.std.proofs.Common.{◌∙◌, ℕ, ◌<◌, min, get_or, ap₂, arith, bit_or, Fits, w8}
use Rattle.std.proofs.lemmas.Simd.{Each1-get_or}
use Rattle.byte_blocks.proofs.LaneLemmas.{member}
use Rattle.byte_blocks.proofs.PassLemmas.{lane-passes}
use Rattle.byte_blocks.proofs.ascii.stops.Goals as goal

pub returns : goal.returns
returns c = λ k less.
    let sets = c.args.sets.now in
    let before = c.args.before in
    let here = c.args.here in
    let long = c.fits-here.0 in
    let fits : get_or here k 0 < 256 = (Each1-get_or (Fits w8) here k 0 (omega (arith, long, less)) c.fits-here.1).fits in
    let halt = member sets.halt here c.columns-columns_here.result c.members-halt.result c.columns-columns_here.ensures c.members-halt.ensures k less in
    let key = member sets.key before c.columns-columns_before.result c.members-key.result c.columns-columns_before.ensures c.members-key.ensures k less in
    let later = member sets.later here c.columns-columns_here.result c.members-later.result c.columns-columns_here.ensures c.members-later.ensures k less in
    let joins = member sets.joins before c.columns-columns_before.result c.members-joins.result c.columns-columns_before.ensures c.members-joins.ensures k less in
    let inner = member sets.inner here c.columns-columns_here.result c.members-inner.result c.columns-columns_here.ensures c.members-inner.ensures k less in
    let keys = c.least.ensures.each k less ∙ ap₂ (λ (a b : ℕ). min a b) key later in
    let units = c.least-2.ensures.each k less ∙ ap₂ (λ (a b : ℕ). min a b) joins inner in
    let first = c.either.ensures.each k less ∙ ap₂ bit_or halt keys in
    let second = c.either-2.ensures.each k less ∙ ap₂ bit_or units (c.high_bits.ensures.each k less) in
    lane-passes sets (get_or before k 0) (get_or here k 0) _ fits (c.either-3.ensures.each k less ∙ ap₂ bit_or first second)
