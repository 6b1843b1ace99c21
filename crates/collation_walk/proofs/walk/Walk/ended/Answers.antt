use Rattle.std.proofs.Common.{◌≡◌, [], ◌∷◌, option_to_list, slice_get, Some, None, sym, ap, ◌∙◌}
use Rattle.std.proofs.lemmas.Bool.{cond-true, cond-false}
use Rattle.std.specs.Option.{option_copied}
use Rattle.collation_walk.proofs.WalkSteps.{walks-end_keyless, walks-end_short, walks-end_whole, range_at-none, range_at-first}
use Rattle.collation_walk.proofs.walk.Walk.ended.Goals as goal
use Rattle.collation_walk.proofs.walk.Walk.ended.Goals.{then-not-self-via-then-not-self, then-not-self-via-else-not-self+then-self-len}

pub returns-then-not-self-clause-found : goal.returns-then-not-self-clause-found
returns-then-not-self-clause-found c = λ items ranges.
    let keys = c.args.pattern.now.keys in
    let w = c.args.self.now in
    elim c.then-not-self.branch [
      | then-not-self-via-then-not-self b ↦ walks-end_keyless keys items ranges w c.args.end b.if-not-self.true
      | then-not-self-via-else-not-self+then-self-len b ↦
          walks-end_short keys items ranges w c.args.end (λ e. b.if-self-len.true (e ∙ sym b.len.ensures.keys))
    ]

pub returns-in_err-first-clause-found : goal.returns-in_err-first-clause-found
returns-in_err-first-clause-found c = λ items ranges.
    let w = c.args.self.now in
    let none : slice_get w.places.items 0 ≡ None = sym c.front.ensures ∙ ap option_copied c.in_err-first.was in
    walks-end_whole c.args.pattern.now.keys items ranges w c.args.end (option_to_list c.from_residual.result) c.if-not-self.false
    (c.if-self-len.false ∙ c.len.ensures.keys) (ap option_to_list c.from_residual.ensures ∙ range_at-none w.places.items c.args.end none)

pub returns-then-first-clause-found : goal.returns-then-first-clause-found
returns-then-first-clause-found c = λ items ranges.
    let w = c.args.self.now in
    let prefix : slice_get w.places.items 0 ≡ Some c.in_ok-first.first.now = sym c.front.ensures ∙ ap option_copied c.in_ok-first.was in
    walks-end_whole c.args.pattern.now.keys items ranges w c.args.end _ c.if-not-self.false
    (c.if-self-len.false ∙ c.len.ensures.keys)
    (sym (range_at-first w.places.items c.in_ok-first.first.now c.args.end prefix
    ∙ cond-true c.in_ok-first.first.now.is_first ((c.in_ok-first.first.now.start, c.args.end) ∷ []) [] c.if-first.true))

pub returns-else-first-clause-found : goal.returns-else-first-clause-found
returns-else-first-clause-found c = λ items ranges.
    let w = c.args.self.now in
    let prefix : slice_get w.places.items 0 ≡ Some c.in_ok-first.first.now = sym c.front.ensures ∙ ap option_copied c.in_ok-first.was in
    walks-end_whole c.args.pattern.now.keys items ranges w c.args.end [] c.if-not-self.false
    (c.if-self-len.false ∙ c.len.ensures.keys)
    (sym (range_at-first w.places.items c.in_ok-first.first.now c.args.end prefix
    ∙ cond-false c.in_ok-first.first.now.is_first ((c.in_ok-first.first.now.start, c.args.end) ∷ []) [] c.if-first.false))
