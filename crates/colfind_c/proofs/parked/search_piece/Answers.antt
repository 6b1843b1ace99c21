use Rattle.std.proofs.Common.{◌∙◌, ◌++◌, [], refl, sym, append_assoc}
use Rattle.colfind_c.proofs.ParkedLemmas.{goes_nowhere, goes_further, goes_wrong, goes_to_the_end, parts_of}
use Rattle.colfind_c.proofs.QueueLemmas.{gets_none, gets_more}
use Rattle.colfind_c.proofs.parked.search_piece.Goals as goal

pub loop-rest-init : goal.loop-rest-init
loop-rest-init g c = ([], [], refl, goes_nowhere c.args.search.now, gets_none c.args.queue.now)

pub loop-rest-preserved : goal.loop-rest-preserved
loop-rest-preserved g c = let inv = c.loop-rest.invariant in let fed = c.in-Ok.ensures.fed in (
  inv.0 ++ c.split_at.result.0.now,
  inv.1 ++ fed.0,
  parts_of c.args.piece.now inv.0 c.loop-rest.rest.now c.split_at.result.0.now c.split_at.result.1.now 4096 inv.2 c.split_at.ensures.front c.split_at.ensures.back
      ∙ sym (append_assoc inv.0 c.split_at.result.0.now c.split_at.result.1.now),
  goes_further c.args.search.now c.loop-rest.search c.search_chunk.new.search inv.0 c.split_at.result.0.now inv.1 fed.0 inv.3 c.in-Ok.field-0 fed.1,
  gets_more c.args.queue.now c.loop-rest.queue c.search_chunk.new.queue inv.1 fed.0 inv.4 fed.2,
)

pub returns-in-Err : goal.returns-in-Err
returns-in-Err g c = let inv = c.loop-rest.invariant in let fed = c.in-Err.ensures.fed in record {
  fed = (
    inv.1 ++ fed.0,
    goes_wrong c.args.search.now c.loop-rest.search c.search_chunk.new.search inv.0 c.split_at.result.0.now inv.1 fed.0 inv.3 c.in-Err.fault c.split_at.result.1.now c.args.piece.now
        (parts_of c.args.piece.now inv.0 c.loop-rest.rest.now c.split_at.result.0.now c.split_at.result.1.now 4096 inv.2 c.split_at.ensures.front c.split_at.ensures.back) fed.1,
    gets_more c.args.queue.now c.loop-rest.queue c.search_chunk.new.queue inv.1 fed.0 inv.4 fed.2,
  );
}

pub returns : goal.returns
returns g c = let inv = c.loop-rest.invariant in let fed = c.search_chunk-2.ensures.fed in record {
  fed = (
    inv.1 ++ fed.0,
    goes_to_the_end c.args.search.now c.loop-rest.search c.search_chunk-2.new.search inv.0 c.loop-rest.rest.now inv.1 fed.0 inv.3 c.search_chunk-2.result c.args.piece.now inv.2 fed.1,
    gets_more c.args.queue.now c.loop-rest.queue c.search_chunk-2.new.queue inv.1 fed.0 inv.4 fed.2,
  );
}
