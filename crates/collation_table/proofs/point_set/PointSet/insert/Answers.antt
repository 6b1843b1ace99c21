use Rattle.std.proofs.Common.{◌≡◌, ◌∙◌, ◌/◌, ◌%◌, ◌==◌, ◌||◌, get_or, sym, ap}
use Rattle.std.proofs.lemmas.Option.{get_or_from_slice_get}
use Rattle.std.specs.Int.{bit_at}
use Rattle.collation_table.proofs.PageLemmas.{get_or_get}
use Rattle.collation_table.proofs.UnsafeLemmas.{put-bit}
use Rattle.collation_table.proofs.point_set.PointSet.insert.Goals as goal

pub returns : goal.returns
returns c = λ q.
    let words = c.make_room.new.self.words.items in
    let cp = c.args.cp in
    let word = c.index_mut.result.now in
    let room = c.in_ok-make_room.ensures.room in
    let here : get_or words (cp / 64) 0 ≡ word = get_or_from_slice_get words (cp / 64) word 0 (get_or_get words (cp / 64) word word room (sym c.index_mut.ensures.value)) in
    put-bit words cp word room here q ∙ ap (λ n. (bit_at n (q % 64) == 1) || (q == cp)) (c.in_ok-make_room.ensures.same (q / 64))
