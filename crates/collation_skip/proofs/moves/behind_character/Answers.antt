use Rattle.std.proofs.Common.{◌≡◌, ◌<◌, ℕ, List, [], ◌∷◌, ◌++◌, Some, None, IfSome, sym, ap, ap₂, subst, arith, rules}
use Rattle.std.proofs.Math.Logic.{∥∥₁_map}
use Rattle.collation_letters.specs.Clusters.{IsClusterAt}
use Rattle.collation_letters.specs.Letters.{IsLetter, ordered_from}
use Rattle.collation_letters.proofs.ClusterLemmas.{letter-of}
use Rattle.collation_skip.specs.declared.state.State.{State}
use Rattle.collation_skip.specs.Reached.{HasReached}
use Rattle.collation_skip.proofs.ReachedLemmas.{reached-longer}
use Rattle.collation_skip.proofs.SpentLemmas.{letter-held}
use Rattle.collation_skip.proofs.moves.behind_character.Goals as goal

pub behind_letter-requires-clause-next : goal.behind_letter-requires-clause-next
behind_letter-requires-clause-next g c = λ at cs h.
    c.is_next.ensures.apart c.if-is_next.true (Some c.args.state.now.depth) (g.W.Weights.table c.args.table.now) c.args.pattern.now at cs c.args.c h c.requires.letter

pub behind_letter-requires-clause-known : goal.behind_letter-requires-clause-known
behind_letter-requires-clause-known g c = search rules depth 3

-- a mark, wherever it goes
pub returns-in-Some-clause-moves : goal.returns-in-Some-clause-moves
returns-in-Some-clause-moves g c = λ byte spelled at bytes h.
    let table = g.W.Weights.table c.args.table.now in
    let pattern = c.args.pattern.now in
    let s = c.args.state.now in
    let t = c.with_cluster.result in
    subst (λ (u : State). HasReached table pattern u at (bytes ++ byte ∷ [])) (sym c.with_cluster.ensures.rest) (∥∥₁_map h (λ r.
    let cs = r.first ∷ r.others in
    let all = cs ++ c.args.c ∷ [] in
    let on = c.in-Some.ensures.cluster (Some s.depth) pattern cs (c.cluster.ensures table pattern cs r.letter r.marks) c.requires.letter in
    reached-longer table pattern s t.letter t.marks at bytes byte c.args.c spelled r (c.with_cluster.ensures.letter table all on)
    (subst (λ d. IfSome t.marks (λ m. IsClusterAt (Some d) table pattern (ordered_from 0 all) (record { letter = t.letter; base = m.base; before = m.before; last = m.last })))
    (ap (λ (u : State). u.depth) c.with_cluster.ensures.rest) (c.with_cluster.ensures.marks table all on))))

-- two characters that are one letter
pub returns-clause-moves : goal.returns-clause-moves
returns-clause-moves g c = λ byte spelled at bytes h.
    let table = g.W.Weights.table c.args.table.now in
    let pattern = c.args.pattern.now in
    let s = c.args.state.now in
    let both = c.pair-both.result in
    subst (λ (t : State). HasReached table pattern t at (bytes ++ byte ∷ [])) (sym c.with_letter.ensures.rest) (∥∥₁_map h (λ r.
    let some : 0 < s.len = omega (arith, c.if-state-eq0.false) in
    let first = r.character some (λ zero. omega (arith, zero, c.if-state-eq0-2.false)) in
    let cs = r.first ∷ (r.others ++ c.args.c ∷ []) in
    let same : s.character ∷ (c.args.c ∷ []) ≡ cs = ap₂ (λ (x : ℕ) (l : List ℕ). x ∷ (l ++ c.args.c ∷ [])) (sym first) (sym (r.one some).0) in
    let letter : IsLetter table pattern cs both = subst (λ (l : List ℕ). IsLetter table pattern l both) same c.pair-both.ensures.letter in
    let ps = ordered_from 0 cs in
    reached-longer table pattern s c.with_letter.result.letter None at bytes byte c.args.c spelled r
    (c.with_letter.ensures.letter table ps (letter-held table pattern ps s.depth both (letter-of table pattern cs both letter))) tt))
