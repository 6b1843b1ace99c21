use Rattle.std.proofs.Common.{◌∙◌, [], subst}
use Rattle.collation_search.specs.Parking.{HasParked}
use Rattle.colfind_c.specs.Parkings.{SearchesPart}
use Rattle.colfind_c.proofs.parked.part_parked.Goals as goal

pub returns-clause-part : goal.returns-clause-part
returns-clause-part g c = subst (λ t. SearchesPart t c.args.text.now c.args.from c.args.to c.args.queue.now c.search_part_into-ended.result c.search_part_into-ended.new.queue) c.unpark-search.ensures.sought c.search_part_into-ended.ensures.part

pub returns-clause-stands : goal.returns-clause-stands
returns-clause-stands g c = subst (λ t. HasParked t c.park.result [] []) (c.search_part_into-ended.ensures.sought ∙ c.unpark-search.ensures.sought)
    (c.park.ensures.stands [] [] c.search_part_into-ended.ensures.stands)
