use Rattle.std.proofs.Common.{false}
use Rattle.collation_letters.specs.declared.letter.Role.TheVariants.{Steps}
use Rattle.collation_letters.specs.declared.places.Kept.{Kept}
use Rattle.collation_letters.proofs.places.Places.keep_all.Goals as goal

pub loop-kept-preserved : goal.loop-kept-preserved
loop-kept-preserved c = λ table pattern mine theirs.
    let before = c.loop-kept.invariant table pattern mine theirs in
    let blank : Kept = record { code_point = 0; letter = record { role = Steps; is_closed = false; is_apart = false; points = 0; class = 0; symbols = record { first = 0; second = 0; third = 0 } } } in
    (c.keep_too.ensures table pattern before.0 (before.1 c.loop-kept.kept-index blank c.loop-kept-test.true), before.1)

pub returns : goal.returns
returns c = λ table pattern mine theirs. (c.loop-kept.invariant table pattern mine theirs).0
