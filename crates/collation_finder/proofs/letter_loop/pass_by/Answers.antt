use Rattle.std.specs.Str.{chars}
use Rattle.std.proofs.Common.{◌≡◌, ◌∙◌, ℕ, ◌+◌, ◌-◌, List, [], length, take, drop, sym, ap, subst, arith}
use Rattle.std.proofs.lemmas.List.{append-nil, take_rest}
use Rattle.std.proofs.lemmas.Str.{len_utf8_bounds}
use Rattle.collation_letters.specs.Letters.{ordered_from}
use Rattle.collation_elements.specs.Units.{units}
use Rattle.collation_walk.specs.declared.matching.Matcher.{Matcher}
use Rattle.collation_walk.specs.declared.walk.Walk.{Walk}
use Rattle.collation_walk.specs.Walked.{HasWalkedOn}
use Rattle.collation_walk.specs.Walks.{passed_to}
use Rattle.collation_finder.specs.LetterRun.{AreNext, HasComeTo}
use Rattle.collation_finder.proofs.LoopSteps.{come-further, next-n}
use Rattle.collation_finder.proofs.letter_loop.pass_by.Given as given
use Rattle.collation_finder.proofs.letter_loop.pass_by.Goals.{After-pass_to}
use Rattle.collation_finder.proofs.letter_loop.pass_by.Goals as goal

-- text behind the characters that were walked over was passed by
come : (g : given.Over) (c : After-pass_to g) (first : ℕ) (before : Matcher) (ranges : List (ℕ × ℕ)) →
    HasComeTo (g.W.Weights.table c.args.query.now.table.now) c.args.query.now.pattern.now c.args.front.piece.now c.args.front.offset c.args.front.reach first before c.args.matcher.now c.args.from.len c.args.from.next ranges →
    HasComeTo (g.W.Weights.table c.args.query.now.table.now) c.args.query.now.pattern.now c.args.front.piece.now c.args.front.offset c.args.front.reach first before (record c.args.matcher.now { walk = c.pass_to.new.self }) (c.args.from.len + c.in-Some.skipped.end) c.in-Some.skipped.next ranges
come g c first before ranges so_far =
    let table = g.W.Weights.table c.args.query.now.table.now in
    let pattern = c.args.query.now.pattern.now in
    let piece = c.args.front.piece.now in
    let offset = c.args.front.offset in
    let reach = c.args.front.reach in
    let from = c.args.from in
    let s = c.in-Some.skipped in
    let e = c.in-Some.ensures.skips in
    let start = offset + from.len in
    let to = from.len + s.end in
    let rest = take_rest piece from.len in
    let text : List ℕ = take (length piece - from.len) (drop from.len piece) in
    let matcher = c.args.matcher.now in
    let now : Matcher = record matcher { walk = c.pass_to.new.self } in
    let skipped : AreNext table piece offset reach from.len to from.next s.next =
    next-n table piece text offset reach from.len from.next s.end s.next rest c.requires.may.near e.passes.reach e.passes.within e.passes.next e.passes.text e.begun e.apart (len_utf8_bounds s.next).0 in
    let count : s.end ≡ to - from.len = omega arith in
    let part : take s.end text ≡ take (to - from.len) (drop from.len piece) = ap (take s.end) rest ∙ ap (λ k. take k (drop from.len piece)) count in
    let goes : HasWalkedOn table pattern matcher now (units table (ordered_from start (chars (take (to - from.len) (drop from.len piece))))) [] =
    subst (λ (v : Walk). HasWalkedOn table pattern matcher (record matcher { walk = v }) (units table (ordered_from start (chars (take (to - from.len) (drop from.len piece))))) []) (sym c.pass_to.ensures)
    (subst (λ (t : List ℕ). HasWalkedOn table pattern matcher (record matcher { walk = passed_to matcher.walk (start + s.start) }) (units table (ordered_from start (chars t))) []) part
    (e.walked matcher c.requires.may.flag c.requires.may.state)) in
    subst (λ (t : List (ℕ × ℕ)). HasComeTo table pattern piece offset reach first before now to s.next t) (append-nil ranges)
    (come-further c.laws_of_characters.ensures table pattern piece offset reach first from.len to from.next s.next before matcher now ranges [] so_far skipped goes)

pub returns-clause-passes : goal.returns-clause-passes
returns-clause-passes g c = record {
  come = λ first before ranges so_far. come g (goal.at.returns-clause-passes g c).After-pass_to first before ranges so_far;
  forth = omega arith;
  letter = c.in-Some.ensures.skips.passes.letter;
}
