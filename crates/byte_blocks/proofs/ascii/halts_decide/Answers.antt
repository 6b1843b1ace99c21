use Rattle.std.proofs.Common.{◌∙◌, sym}
use Rattle.byte_blocks.proofs.PassLemmas.{in-neither}
use Rattle.byte_blocks.proofs.ascii.halts_decide.Goals as goal

pub returns-then-is_empty : goal.returns-then-is_empty
returns-then-is_empty c = λ yes.
    let sets = c.args.sets.now in
    record {
      key = in-neither sets.key sets.halt c.load-key.result c.load-halt.result c.load-key.ensures c.load-halt.ensures
          (λ k less. sym (c.either.ensures.each k less) ∙ (c.unlike.ensures k less).0 (c.is_zero.ensures.0 yes k less));
      inner = c.is_empty.ensures c.if-is_empty.true;
    }
