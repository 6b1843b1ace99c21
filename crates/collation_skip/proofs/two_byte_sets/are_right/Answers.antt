use Rattle.std.proofs.Common.{arith, inl, inr, subst, sym, ◌≡◌, ◌≤◌}
use Rattle.std.proofs.lemmas.Bool.{cases_lt}
use Rattle.byte_blocks.specs.Sets.{is_in}
use Rattle.collation_skip.specs.TwoBytes.{AreRightOf}
use Rattle.collation_skip.proofs.TwoByteCharacters.{each-more}
use Rattle.collation_skip.proofs.two_byte_sets.are_right.Goals as goal

pub loop-lead-preserved : goal.loop-lead-preserved
loop-lead-preserved g c = record {
  right = c.are_right_of_lead.ensures.right;
  each = λ lead trail low less tlow tless going tgoing. each-more (λ l. 192 ≤ l → is_in c.args.classes.now.sets.halt l ≡ 0 → AreRightOf (g.W.Weights.table c.args.table.now) c.args.pattern.now c.args.classes.now l trail) c.loop-lead.lead
      (λ l less low going. c.loop-lead.invariant.each l trail low less tlow tless going tgoing) (λ _ going. c.are_right_of_lead.ensures.classes c.if-not-are_right_of_lead.false going trail tlow tless tgoing) lead less low going;
}

pub returns-clause-classes : goal.returns-clause-classes
returns-clause-classes g c = λ yes. record {
  place = c.requires.place;
  one = c.are_right_of_one.ensures.classes c.if-not-are_right_of_one.false;
  two = λ lead trail low less tlow tless going tgoing. elim (cases_lt lead 255) [
    | inl below ↦ c.loop-lead.invariant.each lead trail low (omega (arith, below, c.loop-lead-test.false)) tlow tless going tgoing
    | inr not_below ↦
        let last : 255 ≡ lead = omega (arith, less, not_below) in
        subst (λ l. AreRightOf (g.W.Weights.table c.args.table.now) c.args.pattern.now c.args.classes.now l trail) last
        (c.are_right_of_lead-2.ensures.classes yes (subst (λ l. is_in c.args.classes.now.sets.halt l ≡ 0) (sym last) going) trail tlow tless tgoing)
  ];
}
