use Rattle.std.specs.Prelude.{Result, Ok, Err}
use Rattle.std.proofs.Common.{◌≡◌, ℕ, List, [], ◌∷◌, take, get_or, sym, subst, arith}
use Rattle.std.proofs.lemmas.List.{take_more}
use Rattle.collation_matches.specs.declared.faults.TextFault.{TextFault}
use Rattle.collation_search.specs.Feeding.{TakesPart}
use Rattle.collation_search.proofs.FeedLemmas.{takes-append}
use Rattle.collation_search.proofs.search.Search.step_far.Given as given
use Rattle.collation_search.proofs.search.Search.step_far.Goals.{After-step_on}
use Rattle.collation_search.proofs.search.Search.step_far.Goals as goal

-- the first byte, where no character was taken
first_byte : (g : given.Over) (c : After-step_on g) (r : Result (Unit {0}) TextFault) → TakesPart c.step_character-len.new.self 0 (get_or c.args.bytes.now 0 0 ∷ []) r c.step_on.new.found.items c.step_on.new.self →
    TakesPart c.args.self.now 0 (take 1 c.args.bytes.now) r c.step_on.new.found.items c.step_on.new.self
first_byte g c r step =
    let bytes = c.args.bytes.now in
    let old = c.args.self.now in
    let mid = c.step_character-len.new.self in
    let new = c.step_on.new.self in
    let found = c.step_on.new.found.items in
    let zero : c.step_character-len.result ≡ 0 = omega (arith, c.if-len-gt0.false) in
    let none = c.step_character-len.ensures.nothing zero in
    let first = subst (λ (t : List (ℕ × ℕ)). TakesPart old 0 [] (Ok tt) t mid) none
    (subst (λ k. TakesPart old 0 (take k bytes) (Ok tt) c.step_character-len.new.found.items mid) zero c.step_character-len.ensures.taken) in
    subst (λ (t : List ℕ). TakesPart old 0 t r found new) (sym (take_more bytes 0 0 c.requires.some))
    (takes-append old mid new 0 0 0 [] (get_or bytes 0 0 ∷ []) r [] found (λ some. omega arith) (λ some. absurd (omega (arith, some))) first step)

pub returns-in-Err-clause-fault : goal.returns-in-Err-clause-fault
returns-in-Err-clause-fault g c = first_byte g ((goal.at.returns-in-Err-clause-fault g c).After-step_on) (Err c.in-Err.fault) c.in-Err.ensures.takes

pub returns-in-Ok-clause-taken : goal.returns-in-Ok-clause-taken
returns-in-Ok-clause-taken g c = first_byte g ((goal.at.returns-in-Ok-clause-taken g c).After-step_on) (Ok tt) c.in-Ok.ensures.takes
