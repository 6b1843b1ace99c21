use Rattle.std.proofs.Common.{◌≡◌, ◌∙◌, ◌++◌, append-nil, ap, refl, sym, subst, None}
use Rattle.std.specs.Arc.{arc_value}
use Rattle.collation_search.specs.Parking.{HasParked}
use Rattle.collation_search.specs.State.{sizes_of}
use Rattle.collation_states.specs.StateTests.{state_fault}
use Rattle.colfind_c.specs.Queries.{sought_with}
use Rattle.colfind_c.proofs.SessionLemmas.{seen_with}
use Rattle.colfind_c.proofs.owned.Session.resume.Goals as goal

pub returns-clause-goes_on : goal.returns-clause-goes_on
returns-clause-goes_on c =
    let seen = seen_with (arc_value c.args.query) c.deref-looked_for.result.now c.deref.result.now c.args.select c.deref-looked_for.ensures c.deref.ensures in let goes = c.in_ok-resumed.ensures.goes_on in record {
      accepted = subst (λ z. state_fault (sizes_of z) c.args.words.now ≡ None) seen c.in_ok-resumed.ensures.accepted;
      stands = λ saved u handed is. record {
        parked = c.park-parked.result;
        held = refl;
        kept = c.new.ensures.empty.0;
        stands = subst (λ xs. HasParked (sought_with (arc_value c.args.query) c.args.select) c.park-parked.result u xs) (sym (append-nil handed) ∙ ap (λ xs. handed ++ xs) (sym c.new.ensures.empty.1))
            (subst (λ z. HasParked z c.park-parked.result u handed) (goes.same ∙ seen) (c.park-parked.ensures.stands u handed (goes.stands saved u handed (is.0 ∙ sym seen, is.1, is.2))));
      };
      reported = λ saved f is. (c.park-parked.result, refl, c.park-parked.ensures.reported ∙ goes.reported saved f (is.0 ∙ sym seen, is.1, is.2));
      same = refl;
    }
