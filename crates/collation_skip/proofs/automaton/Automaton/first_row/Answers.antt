use Rattle.std.specs.Char.{len_utf8}
use Rattle.std.proofs.Common.{◌∙◌, ◌<◌, List, [], ◌∷◌, length, take, sym, ap, subst, arith}
use Rattle.std.proofs.lemmas.Bool.{eqb-false}
use Rattle.collation_elements.specs.declared.keys.Key.{Key}
use Rattle.collation_skip.specs.Reached.{IsHeld}
use Rattle.collation_skip.proofs.ReachedLemmas.{reached-first}
use Rattle.collation_skip.proofs.RunLemmas.{if-some, stands-first}
use Rattle.collation_skip.proofs.automaton.Automaton.first_row.Goals as goal

pub returns-clause-stands : goal.returns-clause-stands
returns-clause-stands g c =
    let table = g.W.Weights.table c.args.table.now in
    let pattern = c.args.pattern.now in
    let s = c.behind.result in
    let first = c.args.first in
    let starter = c.is_starter.ensures c.if-not-is_starter.false table pattern (first ∷ []) c.letter-letter.ensures.letter in
    let letter = subst (λ n. IsHeld table pattern n (first ∷ []) s.letter) (sym c.behind.ensures.depth) (c.behind.ensures.letter table (first ∷ []) c.letter-letter.ensures.letter) in
    let some : 0 < length pattern.keys =
    let none = eqb-false (length c.keys.result.now) 0 (sym c.is_empty.ensures ∙ c.if-is_empty.false) in
    let keys = ap (λ (l : List Key). length l) c.keys.ensures in omega (arith, none, keys) in
    if-some c.row_of.result _ _ (λ row is piece spelled. stands-first table pattern c.row_of.new.self piece (len_utf8 first) row s is (λ start.
    reached-first table pattern s start (take (len_utf8 first) piece) first spelled starter some letter c.behind.ensures.depth c.behind.ensures.len c.behind.ensures.marks
    (λ known. sym (c.behind.ensures.character known)) c.behind.ensures.begun c.behind.ensures.before)) c.row_of.ensures.row

pub returns-clause-right : goal.returns-clause-right
returns-clause-right g c = c.row_of.ensures.right (g.W.Weights.table c.args.table.now) c.args.pattern.now c.requires.right

pub returns-clause-row : goal.returns-clause-row
returns-clause-row g c = if-some c.row_of.result _ _ (λ row is. (c.behind.result, is)) c.row_of.ensures.row
