use Rattle.std.proofs.Common.{◌∙◌, ◌≡◌, ◌++◌, ap, subst}
use Rattle.std.specs.Prelude.{OnOk}
use Rattle.collation_search.specs.Parking.{HasParked, parked_words}
use Rattle.collation_search.specs.Saving.{HasRecords, most_records}
use Rattle.collation_search.specs.Search.{sought}
use Rattle.colfind_c.proofs.ParkedLemmas.{taken_up}
use Rattle.colfind_c.proofs.parked.save_parked.Goals as goal

pub returns-clause-saved : goal.returns-clause-saved
returns-clause-saved g c = subst (λ xs. OnOk c.save-saved.result (c.save-saved.new.words.items ≡ c.args.words.now.items ++ xs))
    (c.unpark-search.ensures.words ∙ ap (λ z. parked_words z c.args.parked) c.unpark-search.ensures.sought) c.save-saved.ensures.saved

pub returns-clause-kept : goal.returns-clause-kept
returns-clause-kept g c = λ u handed h. subst (λ z. HasParked z c.park.result u handed) c.unpark-search.ensures.sought
    (c.park.ensures.stands u handed (taken_up _ c.args.parked c.unpark-search.result c.unpark-search.ensures.sought c.unpark-search.ensures.stands u handed h))

pub returns-clause-reported : goal.returns-clause-reported
returns-clause-reported g c = c.park.ensures.reported ∙ c.unpark-search.ensures.reported

pub returns-clause-few : goal.returns-clause-few
returns-clause-few g c = subst (λ z. HasRecords (parked_words z c.args.parked) (most_records z)) c.unpark-search.ensures.sought
    (subst (λ xs. HasRecords xs (most_records (sought c.unpark-search.result))) c.unpark-search.ensures.words c.save-saved.ensures.few)
