use Rattle.std.proofs.Common.{◌≡◌, ◌∙◌, sym, subst, inr}
use Rattle.collation_matches.specs.Sought.{Sought, IsCompiledFrom}
use Rattle.collation_search.proofs.FirstLemmas.{first_to}
use Rattle.collation_search.proofs.indexing.index.Goals as goal

pub returns : goal.returns
returns g c = record {
  first = λ p compiled.
      let same = c.is_for_one_text.ensures.sought ∙ c.in-Ok.ensures.sought in
      let here = subst (λ (s : Sought). IsCompiledFrom s p) (sym same) compiled in
      inr (subst (λ (s : Sought). c.first_in.result ≡ first_to s p c.args.text.now) same (c.first_in.ensures.first p here));
}
