use Rattle.std.proofs.lemmas.Result.{IfErr-weaker, IfOk-weaker}
use Rattle.colfind_run.proofs.Stops.{search_stops}
use Rattle.colfind_run.proofs.program.count_matches.Goals as goal

pub returns-clause-found : goal.returns-clause-found
returns-clause-found g c =
    IfOk-weaker c.search.result _ _
    (λ count found. record {
      settings = c.in_ok-asked.asked;
      taken = c.in_ok-asked.ensures.taken;
      table = _;
      table_is = c.in_ok-table.ensures.table;
      unasked = c.search.ensures.file;
      found = found;
    })
    c.search.ensures.found

pub returns-clause-reason : goal.returns-clause-reason
returns-clause-reason g c =
    IfErr-weaker c.search.result _ _
    (λ stop stops. search_stops (g.D.Folder.bytes_at c.args.folder.now) _ _ c.in_ok-asked.asked _ stop _ _ c.in_ok-asked.ensures.taken c.search.ensures.file
    c.in_ok-table.ensures.table stops)
    c.search.ensures.reason
