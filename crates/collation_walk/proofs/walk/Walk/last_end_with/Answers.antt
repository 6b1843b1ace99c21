-- Of a chain the range that was handed out last ends last.
use Rattle.std.proofs.Common.{ℕ, ◌++◌, option_to_list, Option, sym, ap, ◌∙◌}
use Rattle.collation_matches.specs.Selecting.{remembered}
use Rattle.collation_matches.proofs.SelectingLemmas.{remembered-one}
use Rattle.collation_walk.proofs.walk.Walk.last_end_with.Goals as goal

pub returns-in-Chain-Some : goal.returns-in-Chain-Some
returns-in-Chain-Some c = λ ranges h.
    let select = c.args.self.now.select in
    let end = ap (λ (o : Option (ℕ × ℕ)). remembered select (ranges ++ option_to_list o)) c.in-Chain-Some.is-1 in
    sym (end ∙ remembered-one select ranges _ c.in-Chain-Some.is-0)
