use Rattle.std.proofs.Common.{◌∙◌, [], refl, sym, subst}
use Rattle.std.specs.Arc.{arc_value}
use Rattle.collation_search.specs.Parking.{HasParked}
use Rattle.colfind_c.specs.Queries.{sought_with}
use Rattle.colfind_c.proofs.SessionLemmas.{seen_with}
use Rattle.colfind_c.proofs.owned.Session.new.Goals as goal

pub returns-clause-begun : goal.returns-clause-begun
returns-clause-begun c = record {
  parked = c.park-parked.result;
  held = refl;
  kept = c.new.ensures.empty.0;
  stands = subst (λ xs. HasParked (sought_with (arc_value c.args.query) c.args.select) c.park-parked.result [] xs) (sym c.new.ensures.empty.1)
      (subst (λ z. HasParked z c.park-parked.result [] []) (c.in_ok-search.ensures.sought ∙ seen_with (arc_value c.args.query) c.deref-looked_for.result.now c.deref.result.now c.args.select c.deref-looked_for.ensures c.deref.ensures)
      (c.park-parked.ensures.stands [] [] c.in_ok-search.ensures.stands));
}
