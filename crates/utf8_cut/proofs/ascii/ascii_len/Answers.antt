use Rattle.std.proofs.Common.{◌≡◌, ◌+◌, take, sym, ap, ◌∙◌, subst, arith}
use Rattle.std.proofs.lemmas.List.{take_rest}
use Rattle.std.specs.Str.{IsAscii}
use Rattle.utf8_cut.specs.Characters.{ascii_prefix_len}
use Rattle.utf8_cut.proofs.AsciiLemmas.{goes_on, stops, prefix_is_ascii}
use Rattle.utf8_cut.proofs.ascii.ascii_len.Goals as goal

pub returns-then-run-lt-BLOCK-clause-value : goal.returns-then-run-lt-BLOCK-clause-value
returns-then-run-lt-BLOCK-clause-value c =
    let at = c.loop-at.at in
    let run = c.ascii_in_block-run.ensures.value in
    let here = stops c.args.bytes.now at 32 c.ascii_in_block-run.result (omega arith) c.if-run-lt-BLOCK.true run in
    omega (arith, here, c.loop-at.invariant.so_far)

pub returns-then-run-lt-BLOCK-clause-ascii : goal.returns-then-run-lt-BLOCK-clause-ascii
returns-then-run-lt-BLOCK-clause-ascii c =
    subst (λ n. IsAscii (take n c.args.bytes.now)) (sym (returns-then-run-lt-BLOCK-clause-value c)) (prefix_is_ascii c.args.bytes.now)

pub loop-at-preserved : goal.loop-at-preserved
loop-at-preserved c =
    let at = c.loop-at.at in
    let whole : c.ascii_in_block-run.result ≡ 32 = omega arith in
    let run = sym whole ∙ c.ascii_in_block-run.ensures.value in
    let next = goes_on c.args.bytes.now at 32 (omega arith) run in
    record {
      within = omega arith;
      so_far = c.loop-at.invariant.so_far ∙ rw whole (omega (arith, next));
    }

value : (c : goal.After-ascii_one_by_one) → c.loop-at.at + c.ascii_one_by_one.result ≡ ascii_prefix_len c.args.bytes.now
value c =
    let rest = ap ascii_prefix_len (take_rest c.args.bytes.now c.loop-at.at) in
    omega (arith, c.loop-at.invariant.so_far, c.ascii_one_by_one.ensures.value, rest)

pub returns-clause-ascii : goal.returns-clause-ascii
returns-clause-ascii c = subst (λ n. IsAscii (take n c.args.bytes.now)) (sym (value c)) (prefix_is_ascii c.args.bytes.now)
