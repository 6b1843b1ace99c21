use Rattle.std.proofs.Common.{take, drop, arith}
use Rattle.std.proofs.lemmas.Simd.{length-chunk}
use Rattle.utf8_cut.proofs.AsciiLemmas.{block_whole, block_stops, prefix_within}
use Rattle.utf8_cut.proofs.ascii.ascii_in_block.Goals as goal

pub returns-then-mask-eq0-clause-value : goal.returns-then-mask-eq0-clause-value
returns-then-mask-eq0-clause-value c =
    let block = take 32 (drop c.args.at c.args.bytes.now) in
    block_whole block (length-chunk c.args.at 32 c.args.bytes.now c.requires) c.if-mask-eq0.true

pub returns-else-mask-eq0-clause-value : goal.returns-else-mask-eq0-clause-value
returns-else-mask-eq0-clause-value c =
    let block = take 32 (drop c.args.at c.args.bytes.now) in
    let some = c.if-mask-eq0.false in
    block_stops block (length-chunk c.args.at 32 c.args.bytes.now c.requires) (omega (arith, some))

pub returns-else-mask-eq0-clause-within : goal.returns-else-mask-eq0-clause-within
returns-else-mask-eq0-clause-within c =
    let block = take 32 (drop c.args.at c.args.bytes.now) in
    let some = c.if-mask-eq0.false in
    let long = length-chunk c.args.at 32 c.args.bytes.now c.requires in
    omega (arith, long, block_stops block long (omega (arith, some)), prefix_within block)
