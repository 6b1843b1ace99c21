use Rattle.std.proofs.Common.{◌≡◌, sym, subst}
use Rattle.collation_matches.specs.Sought.{Sought, IsCompiledFrom}
use Rattle.collation_search.proofs.FirstLemmas.{first_to}
use Rattle.collation_search.proofs.search.Search.first_in.Goals as goal

pub returns-clause-first : goal.returns-clause-first
returns-clause-first g c = λ p compiled.
    let same = c.begin_again.ensures.sought in
    let here = subst (λ (s : Sought). IsCompiledFrom s p) (sym same) compiled in
    subst (λ (s : Sought). c.first_of-first.result ≡ first_to s p c.args.text.now) same (c.first_of-first.ensures.first p here)
