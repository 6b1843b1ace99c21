use Rattle.std.proofs.Common.{◌≡◌, ◌∙◌, Bool, true, false, not, refl, subst}
use Rattle.std.proofs.lemmas.Bool.{true≢false}
use Rattle.collation_skip.specs.Blocks.{IsNotAt}
use Rattle.collation_skip.proofs.ClassLemmas.{kind-says}
use Rattle.collation_skip.proofs.kinds.kind_of.Goals as goal

is_so : (b : Bool) → not b ≡ false → b ≡ true
is_so true h = refl
is_so false h = absurd (true≢false h)

pub returns : goal.returns
returns c = λ table ch h.
    let l = c.args.letter.now in
    let top = c.most_matched-most.ensures in
    kind-says
    (record {
      borders = record { last = c.laws_of_borders.ensures.last; grow = c.laws_of_borders.ensures.grow; none = c.laws_of_symbols.ensures.none; one = c.laws_of_symbols.ensures.one; foreign = c.laws_of_symbols.ensures.foreign };
      shifted = c.laws_of_points.ensures.shifted;
      listed = c.laws_of_symbols.ensures.listed;
    })
    table c.args.pattern.now c.args.place ch l _ h c.requires c.must_halt.ensures.lone (λ going full. c.may_be-key.ensures (c.must_halt.ensures.last going (top ∙ full))) c.may_be-key.ensures
    (λ not_later. (c.may_come_later.ensures.some not_later, subst (IsNotAt c.args.pattern.now.keys l.symbols.third) top (c.may_come_later.ensures.other not_later))) (is_so l.is_closed) (is_so l.is_apart)
