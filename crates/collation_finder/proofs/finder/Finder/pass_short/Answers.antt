use Rattle.std.proofs.Common.{◌∙◌, ◌+◌, ◌-◌, ◌≤◌, length, ap, refl, arith}
use Rattle.std.proofs.lemmas.List.{length-append}
use Rattle.collation_finder.proofs.HeldText.{passes-short}
use Rattle.collation_finder.proofs.finder.Finder.pass_short.Goals as goal

pub overflow_sub-start : goal.overflow_sub-start
overflow_sub-start g c =
    let held = c.in_ok-held.ensures.joined in
    let few = held.1.few in
    let count = held.2 in
    omega (arith, few, count)

pub skip-requires-clause-begins : goal.skip-requires-clause-begins
skip-requires-clause-begins g c = c.is_starter.ensures.starter c.if-not-is_starter.false (c.args.front.offset - c.in_ok-held.held)

pub overflow_add-result : goal.overflow_add-result
overflow_add-result g c =
    let held = c.in_ok-held.ensures.joined in
    let few = held.1.few in
    let count = held.2 in
    let long = c.as_slice-text.ensures.value ∙ held.3 in
    let sum = length-append held.0 c.args.front.piece.now in
    let passes = c.in-Some.ensures.skips.passes in
    let within = passes.within in
    let order = passes.order in
    omega (arith, few, count, ap length long, sum, within, order, c.requires.fits)

pub returns-clause-passes : goal.returns-clause-passes
returns-clause-passes g c =
    let table = g.W.Weights.table c.args.query.now.table.now in
    let pattern = c.args.query.now.pattern.now in
    let held = c.in_ok-held.ensures.joined in
    let skip = c.in-Some.ensures.skips in
    let limit = c.saturating_add-reach.result in
    let far : limit ≤ c.args.front.reach + c.in_ok-held.held = omega (arith, c.saturating_add-reach.ensures) in
    let idle = c.is_idle.ensures in
    let yes = c.if-not-is_idle.false in
    record {
      passes = passes-short c.laws_of_characters.ensures c.laws_of_reordering.ensures.others c.laws_of_points.ensures.decomposed table pattern c.args.self.now c.args.front.piece.now c.as_slice-text.result.now held.0
          c.args.front.offset c.args.front.reach limit c.in_ok-held.held (c.args.front.offset - c.in_ok-held.held) c.in-Some.passed
          held.1 c.requires.open held.2 (c.as_slice-text.ensures.value ∙ held.3) refl far c.if-passed-held.false (idle.state yes) (idle.flag yes)
          skip.passes skip.apart skip.walked;
      letter = skip.passes.letter;
    }
