use Rattle.std.proofs.Common.{◌≤◌, length, ◌≡◌, ◌∙◌, ◌++◌, sym, subst}
use Rattle.collation_matches.specs.Sought.{IsCompiledFrom, settled_in}
use Rattle.collation_matches.specs.GoodPrefix.{whole}
use Rattle.collation_walk.specs.declared.matching.TheConstants.{MOST_FOUND}
use Rattle.colfind_c.specs.Queues.{Gets}
use Rattle.colfind_c.proofs.ParkedLemmas.{taken_up}
use Rattle.colfind_c.proofs.parked.stop_parked.Goals as goal

pub returns : goal.returns
returns g c = record {
  settled =
      let same = c.unpark-search.ensures.sought in let up = taken_up _ c.args.parked c.unpark-search.result same c.unpark-search.ensures.stands in let found = c.stop.new.found.items in (
        found,
        (λ text u handed compiled h. subst (λ t. handed ++ found ≡ settled_in t text (whole u)) same (c.stop.ensures.settled text u handed (subst (λ t. IsCompiledFrom t text) (sym same) compiled) (up u handed h))),
        (λ f is. c.stop.ensures.again f (c.unpark-search.ensures.reported ∙ is)),
        subst (λ xs. Gets c.args.queue.now xs c.put_all.new.self) c.as_slice.ensures.value c.put_all.ensures,
        subst (λ xs. length xs ≤ MOST_FOUND) c.as_slice.ensures.value c.as_slice.ensures.fits,
      );
}
