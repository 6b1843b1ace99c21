use Rattle.std.proofs.Common.{arith, subst, sym, ◌∙◌}
use Rattle.std.proofs.lemmas.Bool.{false≢true}
use Rattle.collation_pattern.specs.Borders.{IsNextKey}
use Rattle.collation_pattern.proofs.BorderLemmas.{IsCandidate, candidate-first, candidate-found, candidate-none, candidate-by_table, by_table-less}
use Rattle.collation_pattern.proofs.borders.state_after.Goals as goal

pub candidates-init : goal.candidates-init
candidates-init c = record { candidate = candidate-first c.args.keys.now c.args.state c.args.key.now c.requires.within; known = c.requires.known }

pub returns-then-is_next : goal.returns-then-is_next
returns-then-is_next c =
    candidate-found c.args.keys.now c.args.state c.args.key.now c.candidates.candidate c.candidates.invariant.candidate
    (c.is_next.ensures.0 c.if-is_next.true)

pub returns-then-candidate-eq0 : goal.returns-then-candidate-eq0
returns-then-candidate-eq0 c =
    let keys = c.args.keys.now in
    let at = c.if-candidate-eq0.true in
    candidate-none keys c.args.state c.args.key.now
    (subst (IsCandidate keys c.args.state c.args.key.now) at c.candidates.invariant.candidate)
    (subst (λ n. IsNextKey keys n c.args.key.now → ⊥) at (λ next. false≢true (sym c.if-is_next.false ∙ c.is_next.ensures.1 next)))

pub candidates-smaller : goal.candidates-smaller
candidates-smaller c =
    by_table-less c.args.keys.now c.args.borders.now c.candidates.candidate c.requires.borders c.candidates.invariant.candidate.within
    c.if-candidate-eq0.false c.candidates.invariant.known

pub candidates-preserved : goal.candidates-preserved
candidates-preserved c =
    let keys = c.args.keys.now in
    let borders = c.args.borders.now in
    let i = c.candidates.candidate in
    let inv = c.candidates.invariant in
    let other : IsNextKey keys i c.args.key.now → ⊥ = λ next. false≢true (sym c.if-is_next.false ∙ c.is_next.ensures.1 next) in
    let less = by_table-less keys borders i c.requires.borders inv.candidate.within c.if-candidate-eq0.false inv.known in
    record {
      candidate = candidate-by_table keys borders c.args.state c.args.key.now i c.requires.borders inv.candidate other c.if-candidate-eq0.false inv.known;
      known = omega (arith, less, inv.known);
    }
