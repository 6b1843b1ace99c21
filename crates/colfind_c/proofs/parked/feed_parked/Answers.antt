use Rattle.colfind_c.proofs.ParkedLemmas.{fed, few_known}
use Rattle.colfind_c.proofs.parked.feed_parked.Goals as goal

pub returns-clause-fed : goal.returns-clause-fed
returns-clause-fed g c =
    let done = c.search_piece-fed.ensures.fed in (
      done.0,
      fed _ c.args.parked c.unpark-search.result c.unpark-search.ensures.sought c.unpark-search.ensures.stands c.park.result c.search_piece-fed.new.search
          c.args.piece.now c.search_piece-fed.result done.0 c.unpark-search.ensures.reported c.park.ensures.reported done.1
          (few_known c.unpark-search.result c.search_piece-fed.new.search (g.met.W.Weights.sizes c.unpark-search.result.query.table.now).string c.whole_characters_are_the_longest_text.ensures.text
          c.has_handed_out.ensures.in_time c.has_handed_out-2.ensures.begins c.args.piece.now c.search_piece-fed.result done.0 done.1)
          c.park.ensures.stands,
      done.2,
    )
