-- There was no room for one point more, so none for all of them.
use Rattle.std.proofs.Common.{◌≡◌, drop, length, vec_len, ap, arith}
use Rattle.std.proofs.lemmas.List.{length-append, length-drop}
use Rattle.collation_states.specs.State.{point_words}
use Rattle.collation_states.proofs.StateLemmas.{on_err}
use Rattle.collation_states.proofs.StateLaws.{point_words-length}
use Rattle.collation_states.proofs.saving.append_points.Goals as goal

pub returns-in_err-append_point-clause-full : goal.returns-in_err-append_point-clause-full
returns-in_err-append_point-clause-full c =
    let points = c.args.points.now in
    let before = c.args.words.now in
    let so_far = c.loop-point.words in
    let left = drop c.loop-point.point-index points in
    let many : vec_len before ≡ length before.items = omega arith in
    let now_many : vec_len so_far ≡ length so_far.items = omega arith in
    on_err c.from_residual.result _ (omega (
      arith,
      many,
      now_many,
      c.in_err-append_point.ensures.full,
      c.loop-point.invariant.capacity,
      ap length c.loop-point.invariant.saved,
      length-append so_far.items (point_words left),
      length-append before.items (point_words points),
      point_words-length left,
      length-drop c.loop-point.point-index points,
      c.loop-point-test.true,
    ))
