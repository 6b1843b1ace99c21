-- A place more.
use Rattle.std.proofs.Common.{◌≤◌, ◌+◌, ◌-◌, ◌*◌, length, drop, ap, ◌∙◌, refl, arith}
use Rattle.std.proofs.lemmas.List.{length-drop, length-take}
use Rattle.circular_buffer.specs.Buffer.{Buffer}
use Rattle.collation_walk.specs.declared.walk.KeyPlace.{KeyPlace}
use Rattle.collation_walk.proofs.RestoredWalk.{kept-next}
use Rattle.collation_walk.proofs.resuming.keep_places.Goals as goal

pub loop-rest-preserved : goal.loop-rest-preserved
loop-rest-preserved c =
    let so_far = c.loop-rest.invariant in
    let kept = c.loop-rest.kept in
    let words = c.loop-rest.rest.now in
    let record_there = c.in-len4-up.len_at_least in
    let room : 4 * length kept.items + length words ≤ 4 * kept.capacity = omega (arith, so_far.many, so_far.capacity, c.requires) in
    let next = kept-next kept.capacity kept.items c.push_back.new.self.items words _ record_there refl room (ap (λ (b : Buffer KeyPlace). b.items) c.push_back.ensures.items) in
    record {
      places = next.0 ∙ so_far.places;
      many = omega (arith, next.1, so_far.many, record_there, length-take (length words - 4) (drop 4 words), length-drop 4 words);
      capacity = ap (λ (b : Buffer KeyPlace). b.capacity) c.push_back.ensures.items ∙ so_far.capacity;
    }
