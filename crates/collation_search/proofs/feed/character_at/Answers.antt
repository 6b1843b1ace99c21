use Rattle.std.specs.Prelude.{IfSome}
use Rattle.std.proofs.Common.{◌≡◌, ℕ, drop, take, subst}
use Rattle.collation_search.proofs.FrontLemmas.{spelled-in}
use Rattle.collation_search.proofs.feed.character_at.Goals as goal

pub returns-in-Some : goal.returns-in-Some
returns-in-Some c =
    let bytes = c.args.bytes.now in
    let from = c.args.from in
    let begins = subst (λ o. IfSome o (λ t. (n : ℕ) × (drop from t.now ≡ take n bytes))) c.in-Some.is c.requires in
    spelled-in bytes (drop from c.in-Some.whole.now) begins.0 c.character_of.result begins.1 c.character_of.ensures
