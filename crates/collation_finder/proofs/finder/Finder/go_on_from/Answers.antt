use Rattle.std.proofs.Common.{rules}
use Rattle.collation_finder.proofs.finder.Finder.go_on_from.Goals as goal

pub returns : goal.returns
returns c = record {
  restored = record {
    held = search rules depth 4;
    window = search rules depth 4;
    weigher = search rules;
    state = c.go_on_from.ensures.state;
    start = c.go_on_from.ensures.start;
    has_keys = c.go_on_from.ensures.has_keys;
    places = c.go_on_from.ensures.places;
    last_end = c.go_on_from.ensures.last_end;
    setup = search rules;
  };
}
