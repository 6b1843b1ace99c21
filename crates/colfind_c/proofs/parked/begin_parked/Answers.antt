use Rattle.std.proofs.Common.{◌∙◌, [], subst}
use Rattle.collation_search.specs.Parking.{HasParked}
use Rattle.colfind_c.proofs.parked.begin_parked.Goals as goal

pub returns-clause-stands : goal.returns-clause-stands
returns-clause-stands g c = subst (λ t. HasParked t c.park.result [] []) (c.begin_again.ensures.sought ∙ c.unpark-search.ensures.sought)
    (c.park.ensures.stands [] [] c.begin_again.ensures.stands)
