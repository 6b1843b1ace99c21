use Rattle.std.proofs.Common.{◌≡◌, ℕ, suc, ◌+◌, ◌-◌, ◌≤◌, ◌<◌, List, length, get_or, subst, arith, inl, inr}
use Rattle.std.proofs.lemmas.Bool.{both_ways, cases_lt}
use Rattle.byte_blocks.specs.declared.sets.AsciiSets.{AsciiSets}
use Rattle.byte_blocks.specs.Ascii.{Passes, PassesBehind}
use Rattle.byte_blocks.proofs.PassLemmas.{ends}
use Rattle.byte_blocks.proofs.ascii.pass_bytes.Goals as goal

passes-one : (sets : AsciiSets) (bytes : List ℕ) (len : ℕ) → 1 ≤ len → len + 1 ≤ length bytes → Passes sets bytes len →
    PassesBehind sets (get_or bytes (len - 1) 0) (get_or bytes len 0) → Passes sets bytes (len + 1)
passes-one sets bytes len some within p next = record {
  within = within;
  ascii = λ _. p.ascii some;
  going = λ _. p.going some;
  each = λ i less. at i less;
}
  where
    at : (i : ℕ) → suc i < len + 1 → PassesBehind sets (get_or bytes i 0) (get_or bytes (suc i) 0)
    at i less = elim (cases_lt (suc i) len) [
      | inl before ↦ p.each i before
      | inr behind ↦
          let last : len - 1 ≡ i = omega (arith, behind, less) in
          let there : len ≡ suc i = omega (arith, behind, less) in
          subst (λ j. PassesBehind sets (get_or bytes i 0) (get_or bytes j 0)) there
          (subst (λ j. PassesBehind sets (get_or bytes j 0) (get_or bytes len 0)) last next)
    ]

pub loop-len-preserved : goal.loop-len-preserved
loop-len-preserved c =
    let i = c.loop-len.invariant in
    let some = i.some in
    let test = c.loop-len-test.true in
    record {
      within = omega (arith, test);
      passes = passes-one c.args.sets.now c.args.piece.now c.loop-len.len some (omega (arith, test, c.requires.limit)) i.passes (c.byte_passes.ensures.0 c.if-byte_passes.true);
      some = omega (arith, some);
    }

pub returns-else-byte_passes-clause-most : goal.returns-else-byte_passes-clause-most
returns-else-byte_passes-clause-most c = λ below.
    let len = c.loop-len.len in
    ends c.args.sets.now c.args.piece.now len len c.loop-len.invariant.some (omega arith)
    (λ p. both_ways c.byte_passes.result c.if-byte_passes.false (c.byte_passes.ensures.1 p))

pub returns-after-loop-len-clause-most : goal.returns-after-loop-len-clause-most
returns-after-loop-len-clause-most c = λ below. absurd (omega (arith, below, c.loop-len-test.false))
