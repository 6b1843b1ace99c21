use Rattle.std.proofs.Common.{◌≤◌, length, ◌∙◌, ◌≡◌, ◌++◌, sym, subst, Some, None}
use Rattle.std.specs.Prelude.{OnOk, IfErr}
use Rattle.collation_matches.specs.Sought.{IsCompiledFrom, answer_to}
use Rattle.collation_walk.specs.declared.matching.TheConstants.{MOST_FOUND}
use Rattle.colfind_c.specs.Queues.{Gets}
use Rattle.colfind_c.proofs.ParkedLemmas.{taken_up}
use Rattle.colfind_c.proofs.parked.finish_parked.Goals as goal

pub returns : goal.returns
returns g c = record {
  finished =
      let same = c.unpark-search.ensures.sought in let up = taken_up _ c.args.parked c.unpark-search.result same c.unpark-search.ensures.stands in let found = c.finish-ended.new.found.items in (
        found,
        record {
          good = λ text u handed compiled h. subst (λ t. OnOk c.finish-ended.result (answer_to t text u ≡ record { ranges = handed ++ found; fault = None })) same (c.finish-ended.ensures.ended.good text u handed (subst (λ t. IsCompiledFrom t text) (sym same) compiled) (up u handed h));
          bad = λ text u handed compiled h. subst (λ t. IfErr c.finish-ended.result (λ f. answer_to t text u ≡ record { ranges = handed ++ found; fault = Some f })) same (c.finish-ended.ensures.ended.bad text u handed (subst (λ t. IsCompiledFrom t text) (sym same) compiled) (up u handed h));
          again = λ f is. c.finish-ended.ensures.ended.again f (c.unpark-search.ensures.reported ∙ is);
        },
        subst (λ xs. Gets c.args.queue.now xs c.put_all.new.self) c.as_slice.ensures.value c.put_all.ensures,
        subst (λ xs. length xs ≤ MOST_FOUND) c.as_slice.ensures.value c.as_slice.ensures.fits,
      );
}
