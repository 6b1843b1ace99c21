use Rattle.std.specs.Borrow.{Bor}
use Rattle.std.specs.Prelude.{Option, None, Some, IfSome, Ok, Err}
use Rattle.std.proofs.Common.{◌≡◌, ◌∙◌, ℕ, ◌-◌, List, length, take, drop, sym, ap, subst, arith}
use Rattle.std.proofs.lemmas.List.{length-drop, take_rest}
use Rattle.utf8_cut.specs.Characters.{characters_end}
use Rattle.collation_search.specs.Feeding.{TakesPart}
use Rattle.collation_search.proofs.FrontLemmas.{front-from}
use Rattle.collation_search.proofs.search.Search.step_at.Goals as goal

begins : (piece : List ℕ) (at : ℕ) (whole : Option (Bor (List ℕ))) → IfSome whole (λ t. t.now ≡ take (characters_end piece) piece) →
    IfSome whole (λ t. (n : ℕ) × (drop at t.now ≡ take n (take (length piece - at) (drop at piece))))
begins piece at None is = tt
begins piece at (Some t) is =
    let front = front-from piece t.now (characters_end piece) at is in
    (front.0, front.1 ∙ ap (take front.0) (sym (take_rest piece at)))

pub step_far-requires-clause-text : goal.step_far-requires-clause-text
step_far-requires-clause-text g c = begins c.args.piece.now c.args.at c.args.whole c.requires.whole

pub returns-in-Ok-clause-within : goal.returns-in-Ok-clause-within
returns-in-Ok-clause-within g c =
    let within = c.in-Ok.ensures.within in
    let left = ap length (take_rest c.args.piece.now c.args.at) ∙ length-drop c.args.at c.args.piece.now in
    let some = c.requires.some in
    (within.0, omega (arith, within.1, left, some))

pub returns-in-Ok-clause-taken : goal.returns-in-Ok-clause-taken
returns-in-Ok-clause-taken g c =
    subst (λ (bs : List ℕ). TakesPart c.args.self.now 0 (take c.in-Ok.len bs) (Ok tt) c.step_far.new.found.items c.step_far.new.self) (take_rest c.args.piece.now c.args.at) c.in-Ok.ensures.taken

pub returns-in-Err-clause-taken : goal.returns-in-Err-clause-taken
returns-in-Err-clause-taken g c =
    subst (λ (bs : List ℕ). TakesPart c.args.self.now 0 (take 1 bs) (Err c.in-Err.fault) c.step_far.new.found.items c.step_far.new.self) (take_rest c.args.piece.now c.args.at) c.in-Err.ensures.fault
