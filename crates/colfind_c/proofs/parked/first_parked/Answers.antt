use Rattle.std.proofs.Common.{◌∙◌, [], sym, subst}
use Rattle.collation_matches.specs.Sought.{IsCompiledFrom}
use Rattle.collation_search.specs.Parking.{HasParked}
use Rattle.colfind_c.specs.Parkings.{IsFirstFrom}
use Rattle.colfind_c.proofs.parked.first_parked.Goals as goal

pub returns-clause-first : goal.returns-clause-first
returns-clause-first g c = λ p compiled. subst (λ t. IsFirstFrom t p c.args.text.now c.args.from c.first_from-first.result) c.unpark-search.ensures.sought
    (c.first_from-first.ensures.first p (subst (λ t. IsCompiledFrom t p) (sym c.unpark-search.ensures.sought) compiled))

pub returns-clause-stands : goal.returns-clause-stands
returns-clause-stands g c = subst (λ t. HasParked t c.park.result [] []) (c.first_from-first.ensures.sought ∙ c.unpark-search.ensures.sought)
    (c.park.ensures.stands [] [] c.first_from-first.ensures.stands)
