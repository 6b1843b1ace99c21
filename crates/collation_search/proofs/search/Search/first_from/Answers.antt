use Rattle.std.proofs.Common.{◌≡◌, ◌∙◌, ℕ, length, drop, Option, Result, sym, ap, subst, arith}
use Rattle.std.proofs.lemmas.List.{drop_min, length-drop}
use Rattle.collation_matches.specs.declared.faults.TextFault.{TextFault}
use Rattle.collation_search.specs.Indexing.{first_moved, EndsBy}
use Rattle.collation_search.specs.Search.{sought}
use Rattle.collation_search.proofs.FirstLemmas.{first_to, answered-inside, moved-from}
use Rattle.collation_search.proofs.search.Search.first_from.Goals as goal

pub returns-clause-first : goal.returns-clause-first
returns-clause-first g c = λ p compiled.
    let s = sought c.args.self.now in
    let text = c.args.text.now in
    let from = c.args.from in
    let rest : c.split_at.result.1.now ≡ drop from text = c.split_at.ensures.back ∙ ap (λ n. drop n text) c.min.ensures ∙ drop_min from text in
    let first : c.first_in.result ≡ first_to s p (drop from text) = c.first_in.ensures.first p compiled ∙ ap (first_to s p) rest in
    let laws = c.whole_characters_are_the_longest_text.ensures in
    let within = subst (λ (r : Result (Option (ℕ × ℕ)) TextFault). EndsBy (length (drop from text)) r) (sym first) (answered-inside laws.text laws.within s p (drop from text)) in
    c.moved.ensures (length (drop from text)) within (omega (arith, length-drop from text)) ∙ ap (first_moved from) first ∙ moved-from s p text from
