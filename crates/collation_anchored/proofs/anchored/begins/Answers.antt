use Rattle.std.proofs.Common.{◌∙◌, sym, ap, subst, inr}
use Rattle.collation_pattern.specs.Compiled.{IsCompiledWith}
use Rattle.collation_anchored.specs.Answers.{begins_answer}
use Rattle.collation_anchored.proofs.anchored.begins.Goals as goal

pub returns : goal.returns
returns g c = record {
  answer = λ p compiled.
      let table = g.W.Weights.table in
      let text = c.args.text.now in
      let one = c.in-Ok.anchored in
      let same_table = c.in-Ok.ensures.table in
      let same_pattern = c.in-Ok.ensures.pattern in
      let here = subst (λ k. IsCompiledWith (table one.table.now) k p) (sym same_pattern) (subst (λ w. IsCompiledWith (table w) c.args.pattern.now p) (sym same_table) compiled) in
      inr
      (c.begins.ensures.answer p here ∙ ap (λ w. begins_answer (table w) one.pattern.now p text) same_table
      ∙ ap (λ k. begins_answer (table c.args.table.now) k p text) same_pattern);
}
