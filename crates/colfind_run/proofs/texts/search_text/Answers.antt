use Rattle.std.proofs.Common.{rules, ◌≡◌, ◌∙◌, ◌+◌, ◌≤◌, ◌++◌, [], length, take, ap, sym, arith, append-nil, length-append}
use Rattle.std.proofs.lemmas.List.{length-take}
use Rattle.collation_matches.specs.GoodPrefix.{is_good_so_far}
use Rattle.colfind_io.specs.Devices.{after_piece}
use Rattle.colfind_io.proofs.Pieces.{after_piece-then}
use Rattle.colfind_run.proofs.Searched.{answered, begun, open_short}
use Rattle.colfind_run.proofs.texts.search_text.Goals as goal

pub returns-then-has_failed-clause-searched : goal.returns-then-has_failed-clause-searched
returns-then-has_failed-clause-searched g c =
    let i = c.loop-count.invariant in
    let piece = take c.in-Ok.count c.read.new.buf in
    let fed = c.search_piece-answer.ensures.fed in
    let count : c.in-Ok.count ≤ 4096 = search rules in
    record {
      bytes = i.4.0 ++ piece;
      handed = i.4.1 ++ fed.0;
      from_reader = i.4.4 ∙ ap (after_piece i.4.0) c.in-Ok.ensures.bytes ∙ after_piece-then i.4.0 piece _;
      prints = fed.2 _ i.4.1 _ _ i.4.5;
      few = omega (arith, i.3, i.4.3, count, length-append i.4.0 piece, length-take c.in-Ok.count c.read.new.buf);
      ended = tt;
      begun = begun c.loop-count.search c.search_piece-answer.new.search piece i.4.0 i.4.1 fed.0 i.4.2 c.search_piece-answer.result fed.1 c.has_handed_out.ensures.begins;
      failed = sym c.has_failed.ensures ∙ c.if-has_failed.true;
    }

pub returns-in-Err-answer-clause-searched : goal.returns-in-Err-answer-clause-searched
returns-in-Err-answer-clause-searched g c =
    let i = c.loop-count.invariant in
    let piece = take c.in-Ok.count c.read.new.buf in
    let fed = c.in-Err-answer.ensures.fed in
    let count : c.in-Ok.count ≤ 4096 = search rules in
    record {
      bytes = i.4.0 ++ piece;
      handed = i.4.1 ++ fed.0;
      from_reader = i.4.4 ∙ ap (after_piece i.4.0) c.in-Ok.ensures.bytes ∙ after_piece-then i.4.0 piece _;
      prints = fed.2 _ i.4.1 _ _ i.4.5;
      few = omega (arith, i.3, i.4.3, count, length-append i.4.0 piece, length-take c.in-Ok.count c.read.new.buf);
      ended = (
        ap is_good_so_far (sym (append-nil (i.4.0 ++ piece))) ∙ fed.1.closed i.4.0 [] i.4.1 i.4.2,
        answered c.loop-count.search c.search_piece-answer.new.search piece i.4.0 i.4.1 fed.0 i.4.2 c.in-Err-answer.fault fed.1,
      );
      begun = tt;
      failed = sym c.has_failed.ensures ∙ c.if-has_failed.false;
    }

pub loop-count-preserved : goal.loop-count-preserved
loop-count-preserved g c =
    let i = c.loop-count.invariant in
    let piece = take c.in-Ok.count c.read.new.buf in
    let fed = c.in_default.ensures.fed in
    let stands = fed.1.stands i.4.0 i.4.1 i.4.2 in
    let within : c.in-Ok.count ≤ length c.read.new.buf = search rules in
    let counted : c.loop-count.taken + c.in-Ok.count ≡ length (i.4.0 ++ piece) =
    omega (arith, i.4.3, within, length-append i.4.0 piece, length-take c.in-Ok.count c.read.new.buf) in
    let short = open_short (i.4.0 ++ piece) stands.open_bytes in (
      grind (arith, c.in-Ok.ensures.count, i.0),
      fed.1.same_sought ∙ i.1,
      (sym c.has_failed.ensures ∙ c.if-has_failed.false, c.in_default.ensures.sent),
      omega (arith, short, counted),
      (
        i.4.0 ++ piece,
        i.4.1 ++ fed.0,
        stands,
        counted,
        i.4.4 ∙ ap (after_piece i.4.0) c.in-Ok.ensures.bytes ∙ after_piece-then i.4.0 piece _,
        fed.2 _ i.4.1 _ _ i.4.5,
      ),
    )
