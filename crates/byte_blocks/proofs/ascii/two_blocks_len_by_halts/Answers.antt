use Rattle.std.proofs.Common.{◌∙◌, ℕ, ◌-◌, ◌<◌, slice_index, subst, sym, ap, arith, inl, inr}
use Rattle.std.proofs.lemmas.Bool.{cases_lt}
use Rattle.byte_blocks.specs.Ascii.{MayPass}
use Rattle.byte_blocks.proofs.ascii.two_blocks_len_by_halts.Goals as goal

pub returns-clause-passes : goal.returns-clause-passes
returns-clause-passes c = λ k less.
    let sets = c.args.sets.now in
    let zeros = c.zeros_in_front_of_two.ensures in
    elim (cases_lt k 16) [
      | inl low ↦ subst (MayPass sets) (c.load.ensures.each k low) ((c.halts_of-first.ensures k low).0 (zeros.first k low less))
      | inr high ↦
          let low : k - 16 < 16 = omega (arith, high, less, zeros.within) in
          subst (MayPass sets) (c.load-2.ensures.each (k - 16) low ∙ ap (λ (j : ℕ). slice_index c.args.bytes.now j) (omega (arith, high)))
          ((c.halts_of-second.ensures (k - 16) low).0 (zeros.second (k - 16) low (omega (arith, high, less))))
    ]

pub returns-clause-stop : goal.returns-clause-stop
returns-clause-stop c = λ few p.
    let sets = c.args.sets.now in
    let zeros = c.zeros_in_front_of_two.ensures in
    let n = c.zeros_in_front_of_two.result in
    elim (cases_lt n 16) [
      | inl low ↦ zeros.in_first low ((c.halts_of-first.ensures n low).1 (subst (MayPass sets) (sym (c.load.ensures.each n low)) p))
      | inr high ↦
          let low : n - 16 < 16 = omega (arith, high, few) in
          zeros.in_second high few
          ((c.halts_of-second.ensures (n - 16) low).1
          (subst (MayPass sets) (sym (c.load-2.ensures.each (n - 16) low ∙ ap (λ (j : ℕ). slice_index c.args.bytes.now j) (omega (arith, high)))) p))
    ]
