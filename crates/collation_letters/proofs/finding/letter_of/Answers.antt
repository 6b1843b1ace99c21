use Rattle.std.proofs.Common.{◌≡◌, ◌≢◌, ◌∙◌, None, refl, sym, ap, subst, arith}
use Rattle.collation_elements.specs.CharacterItems.{character_keys}
use Rattle.collation_letters.specs.declared.letter.Role.{Role}
use Rattle.collation_letters.specs.declared.letter.Role.TheVariants.{Steps, Plain}
use Rattle.collation_letters.specs.Finding.{HasRole}
use Rattle.collation_letters.specs.Symbols.{AreLastSymbols, listed}
use Rattle.collation_letters.proofs.LetterLemmas.{known-at}
use Rattle.collation_letters.proofs.finding.letter_of.Goals.{in-Some, in-None}
use Rattle.collation_letters.proofs.finding.letter_of.Goals as goal

steps_or_plain : ◌≡◌ {A = Role} Steps Plain → ⊥
steps_or_plain h = cc

pub returns-clause-letter : goal.returns-clause-letter
returns-clause-letter g c =
    let table = g.W.Weights.table c.args.table.now in
    let pattern = c.args.pattern.now in
    let ps = c.args.points.now in
    let other : c.match-items_of.role.0 ≢ Plain = elim c.match-items_of.branch [
      | in-Some w ↦ λ is. w.role_and_symbols.ensures.other (sym (ap (λ r. r.0) w.role-is) ∙ is)
      | in-None w ↦ λ is. steps_or_plain (sym (ap (λ r. r.0) w.role-is) ∙ is)
    ] in
    c.settled.ensures.points None table pattern ps (record {
      closed = c.requires.closed;
      known = λ known. elim c.match-items_of.branch [
        | in-Some w ↦
            let it = w.in-Some.ensures in
            let role : w.role_and_symbols.result.0 ≢ Steps = λ steps. known (ap (λ r. r.0) w.role-is ∙ steps) in
            known-at table pattern ps _ w.in-Some.plain w.in-Some.after c.requires.some c.requires.few c.requires.in_order refl c.last_class.ensures (it.plain, λ possible. (it.after possible, it.some possible))
            (subst (λ r. HasRole ps w.in-Some.plain w.in-Some.after r) (sym (ap (λ r. r.0) w.role-is)) (w.role_and_symbols.ensures.role role))
            (subst (λ s. AreLastSymbols pattern.keys (character_keys w.in-Some.plain) (listed s)) (sym (ap (λ r. r.1) w.role-is)) (w.role_and_symbols.ensures.symbols role))
        | in-None w ↦ absurd (known (ap (λ r. r.0) w.role-is))
      ];
      plain = λ yes. absurd (other yes);
    })

pub overflow_cast-letter : goal.overflow_cast-letter
overflow_cast-letter g c = omega (arith, c.requires.few)

pub returns-clause-window : goal.returns-clause-window
returns-clause-window g c = c.items_of.ensures.window
