use Rattle.std.proofs.Common.{◌≡◌, ◌↔◌, ◌∙◌, ℕ, min, get_or, refl, sym, ap₂, bit_or}
use Rattle.byte_blocks.specs.Sets.{leads, trails}
use Rattle.byte_blocks.proofs.TwoByteLemmas.{lane-goes-on}
use Rattle.byte_blocks.proofs.two_bytes.stops_of_two.Goals as goal

pub returns : goal.returns
returns c = λ k less.
    let earlier = get_or c.args.earlier k 0 in
    let before = get_or c.args.before k 0 in
    let here = get_or c.args.here k 0 in
    let lead = c.high_halves-lead.ensures.each k less in
    let trail = c.high_halves-trail.ensures.each k less in
    let unlike = c.unlike.ensures k less in
    let form : (get_or c.unlike.result k 0 ≡ 0) ↔ (trails here ≡ leads before) = (
      λ none. sym trail ∙ unlike.0 none ∙ lead,
      λ same. unlike.1 (trail ∙ same ∙ sym lead),
    ) in
    let far = c.least.ensures.each k less ∙ ap₂ (λ (a b : ℕ). min a b) lead (c.members_of_both-far.ensures.each k less) in
    let waiting = c.either-waiting.ensures.each k less ∙ ap₂ bit_or (c.members_of_both-near.ensures.each k less) far in
    let keys = c.least-2.ensures.each k less ∙ ap₂ (λ (a b : ℕ). min a b) waiting (c.members_of_both-later.ensures.each k less) in
    let halt = c.members_of_both-halt.ensures.each k less in
    lane-goes-on c.args.sets.now earlier before here (get_or c.unlike.result k 0) _ form
    (c.either-2.ensures.each k less ∙ ap₂ bit_or (c.either.ensures.each k less ∙ ap₂ (λ (a b : ℕ). bit_or a b) halt refl) keys)
