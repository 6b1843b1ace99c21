use Rattle.std.proofs.Common.{◌≡◌, ◌∙◌, ℕ, ◌+◌, ◌-◌, ◌<◌, ◌≤◌, List, drop, Option, Result, Ok, Err, sym, ap, subst, arith}
use Rattle.std.specs.Prelude.{IfErr}
use Rattle.std.proofs.lemmas.List.{drop_min}
use Rattle.collation_matches.specs.declared.faults.TextFault.{TextFault}
use Rattle.collation_matches.specs.Sought.{answer_to}
use Rattle.collation_search.specs.Indexing.{first_moved, EndsBy}
use Rattle.collation_search.specs.Search.{sought}
use Rattle.collation_backward.specs.Backward.{said_up_to}
use Rattle.collation_backward.proofs.SaidInPieces.{said-within, said-from}
use Rattle.collation_backward.proofs.reading.said_from.Goals as goal

pub returns-clause-said : goal.returns-clause-said
returns-clause-said g c = λ p compiled.
    let s = sought c.args.search.now in
    let text = c.args.text.now in
    let from = c.args.from in
    let to = c.args.at - from in
    let le = c.requires in
    let rest : c.split_at.result.1.now ≡ drop from text = c.split_at.ensures.back ∙ ap (λ n. drop n text) c.min.ensures ∙ drop_min from text in
    let said : c.said_by-said.result ≡ said_up_to to (answer_to s p (drop from text)) =
    c.said_by-said.ensures.said p compiled ∙ ap (λ (t : List ℕ). said_up_to to (answer_to s p t)) rest in
    let within = subst (λ (r : Result (Option (ℕ × ℕ)) TextFault). EndsBy to r) (sym said) (said-within s p (drop from text) to) in
    c.moved.ensures.moved to within (omega (arith, le)) ∙ ap (first_moved from) said ∙ said-from s p text from c.args.at le

counted : (from at : ℕ) (r : Result (Option (ℕ × ℕ)) TextFault) → from ≤ at → IfErr r (λ f. f.offset < at - from) → IfErr r (λ f. from + f.offset < at)
counted from at (Ok found) le h = tt
counted from at (Err f) le h = omega (arith, le, h)

pub returns-clause-behind : goal.returns-clause-behind
returns-clause-behind g c =
    c.moved.ensures.fault c.args.at (counted c.args.from c.args.at c.said_by-said.result c.requires c.said_by-said.ensures.before) (omega arith)
