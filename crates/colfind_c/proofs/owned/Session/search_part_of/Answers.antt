use Rattle.std.proofs.Common.{rules, ap, refl, None, Some}
use Rattle.collation_search.specs.Feeding.{fault_of}
use Rattle.colfind_c.proofs.SessionLemmas.{fits_at, fits_again, begun_session, has_part, open_stays}
use Rattle.colfind_c.proofs.owned.Session.search_part_of.Goals as goal

pub part_parked-ended-requires : goal.part_parked-ended-requires
part_parked-ended-requires c = record { fits = fits_at c.args.self.now c.in-Some.parked c.deref-query.result.now c.deref.result.now (search rules) c.deref-query.ensures c.deref.ensures }

pub returns-then-self : goal.returns-then-self
returns-then-self c = record {
  part = record {
    part = (c.requires.part, begun_session c.args.self.now c.in-Some.parked c.deref-query.result.now c.deref.result.now (search rules) c.deref-query.ensures c.deref.ensures c.part_parked-ended.result.1 _ c.part_parked-ended.ensures.stands refl refl refl c.clear-then-self.ensures.kept c.clear-then-self.ensures.empty);
    ended = open_stays c.args.self.now _ c.requires.open;
    same = refl;
  };
}

pub returns-in-Ok : goal.returns-in-Ok
returns-in-Ok c = record {
  part = record {
    part = (
      c.requires.part,
      has_part c.args.self.now c.in-Some.parked c.deref-query.result.now c.deref.result.now (search rules) c.deref-query.ensures c.deref.ensures c.args.text.now c.args.from c.args.to
          c.part_parked-ended.result.0 c.clear.new.self c.part_parked-ended.new.queue c.part_parked-ended.result.1 _ c.part_parked-ended.ensures.part c.clear.ensures.empty c.part_parked-ended.ensures.stands (search rules)
          refl refl refl refl None (ap fault_of c.in-Ok.is),
    );
    ended = open_stays c.args.self.now _ c.requires.open;
    same = refl;
  };
}

pub returns-in-Err : goal.returns-in-Err
returns-in-Err c = record {
  part = record {
    part = (
      c.requires.part,
      has_part c.args.self.now c.in-Some.parked c.deref-query.result.now c.deref.result.now (search rules) c.deref-query.ensures c.deref.ensures c.args.text.now c.args.from c.args.to
          c.part_parked-ended.result.0 c.clear.new.self c.part_parked-ended.new.queue c.part_parked-ended.result.1 _ c.part_parked-ended.ensures.part c.clear.ensures.empty c.part_parked-ended.ensures.stands (search rules)
          refl refl refl refl (Some c.in-Err.fault) (ap fault_of c.in-Err.is),
    );
    ended = open_stays c.args.self.now _ c.requires.open;
    same = refl;
  };
}
