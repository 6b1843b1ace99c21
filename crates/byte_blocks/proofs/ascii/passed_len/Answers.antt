use Rattle.std.proofs.Common.{arith}
use Rattle.byte_blocks.proofs.PassLemmas.{passes-one}
use Rattle.byte_blocks.proofs.ascii.passed_len.Goals.{then-limit-eq0-via-then-limit-eq0, then-limit-eq0-via-else-limit-eq0+then-piece-ge128, then-limit-eq0-via-else-limit-eq0+else-piece-ge128+then-in_set-ne0}
use Rattle.byte_blocks.proofs.ascii.passed_len.Goals as goal

pub returns-then-limit-eq0-clause-most : goal.returns-then-limit-eq0-clause-most
returns-then-limit-eq0-clause-most c = λ some p. elim c.then-limit-eq0.branch [
  | then-limit-eq0-via-then-limit-eq0 w ↦ absurd (omega (arith, some, w.if-limit-eq0.true))
  | then-limit-eq0-via-else-limit-eq0+then-piece-ge128 w ↦
      let low = p.ascii (omega arith) in
      absurd (omega (arith, low, w.if-piece-ge128.true))
  | then-limit-eq0-via-else-limit-eq0+else-piece-ge128+then-in_set-ne0 w ↦
      let going = p.going (omega arith) in
      absurd (omega (arith, going, w.in_set.ensures, w.if-in_set-ne0.true))
]

pub pass_by_keys-len-requires-clause-passes : goal.pass_by_keys-len-requires-clause-passes
pass_by_keys-len-requires-clause-passes c =
    passes-one _ _ (omega (arith, c.requires)) c.if-piece-ge128.false (omega (arith, c.in_set.ensures, c.if-in_set-ne0.false))

pub pass_by_halts-requires-clause-passes : goal.pass_by_halts-requires-clause-passes
pass_by_halts-requires-clause-passes c =
    passes-one _ _ (omega (arith, c.requires)) c.if-piece-ge128.false (omega (arith, c.in_set.ensures, c.if-in_set-ne0.false))

pub pass_by_blocks-requires-clause-passes : goal.pass_by_blocks-requires-clause-passes
pass_by_blocks-requires-clause-passes c =
    passes-one _ _ (omega (arith, c.requires)) c.if-piece-ge128.false (omega (arith, c.in_set.ensures, c.if-in_set-ne0.false))
