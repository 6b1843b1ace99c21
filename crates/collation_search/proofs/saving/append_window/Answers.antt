-- A point more.
use Rattle.std.proofs.Common.{◌≡◌, ◌+◌, ◌++◌, drop, length, vec_len, sym, ap, ◌∙◌, arith}
use Rattle.std.proofs.lemmas.List.{length-append}
use Rattle.collation_states.specs.State.{point_words, point_record}
use Rattle.collation_search.proofs.SavingLemmas.{drop-some, begins-more, record-first, on_err}
use Rattle.collation_search.proofs.saving.append_window.Goals as goal

pub loop-i-preserved : goal.loop-i-preserved
loop-i-preserved c =
    let points = c.args.window.now.points in
    let at = c.loop-i.i in
    let point = c.point.result in
    let split : point_words (drop at points) ≡ point_record point ++ point_words (drop (at + 1) points) = ap point_words (drop-some points at point c.point.ensures) in
    record {
      saved = record-first c.args.words.now.items c.loop-i.words.items c.append_point.new.words.items (point_record point) (point_words (drop (at + 1) points)) (point_words points)
          (ap (λ l. c.loop-i.words.items ++ l) (sym split) ∙ c.loop-i.invariant.saved) c.in_ok-append_point.ensures.saved;
      begun = begins-more c.args.words.now.items c.loop-i.words.items c.append_point.new.words.items (point_record point) c.loop-i.invariant.begun c.in_ok-append_point.ensures.saved;
      capacity = omega (arith, c.loop-i.invariant.capacity, c.in_ok-append_point.ensures.capacity);
    }

pub returns-in_err-append_point-clause-full : goal.returns-in_err-append_point-clause-full
returns-in_err-append_point-clause-full c =
    let points = c.args.window.now.points in
    let before = c.args.words.now in
    let so_far = c.loop-i.words in
    let one_more = ap (λ l. length (point_words l)) (drop-some points c.loop-i.i c.point.result c.point.ensures) in
    let many : vec_len before ≡ length before.items = omega arith in
    let now_many : vec_len so_far ≡ length so_far.items = omega arith in
    on_err c.from_residual.result _ (omega (
      arith,
      many,
      now_many,
      one_more,
      c.in_err-append_point.ensures.full,
      c.loop-i.invariant.capacity,
      ap length c.loop-i.invariant.saved,
      length-append so_far.items (point_words (drop c.loop-i.i points)),
      length-append before.items (point_words points),
    ))
