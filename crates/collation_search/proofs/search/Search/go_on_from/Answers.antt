-- A search at what a state says.
use Rattle.std.proofs.Common.{◌≡◌, ◌∙◌, ◌+◌, Bool, false, List, refl, sym, ap, ap₂}
use Rattle.nfd_points.specs.declared.limits.TheConstants.{MOST_GIVEN}
use Rattle.nfd_points.specs.declared.points.Point.{Point}
use Rattle.collation_elements.specs.Weighing.{weigher}
use Rattle.collation_elements.specs.Windows.{Held}
use Rattle.collation_finder.specs.declared.finder.Finder.{Finder}
use Rattle.collation_matches.specs.declared.select.Select.{Select}
use Rattle.collation_matches.specs.Sought.{Sought}
use Rattle.collation_states.specs.Reading.{state_in}
use Rattle.collation_search.specs.Resuming.{IsRestored}
use Rattle.collation_search.specs.Search.{sought}
use Rattle.collation_search.proofs.SavedState.{SavedLaws}
use Rattle.collation_search.proofs.FinderLemmas.{made}
use Rattle.collation_search.proofs.ResumeLemmas.{new-window, goes-on}
use Rattle.collation_search.proofs.search.Search.go_on_from.Goals as goal

pub go_on_from-requires-clause-empty : goal.go_on_from-requires-clause-empty
go_on_from-requires-clause-empty g c = ap (λ (f : Finder). f.window.points) c.deref_mut.ensures.value ∙ new-window c.args.self.now c.requires.new

pub returns-clause-goes_on : goal.returns-clause-goes_on
returns-clause-goes_on g c = λ words says.
    let s = sought c.args.self.now in
    let old = c.args.self.now in
    let f = c.go_on_from.ensures.restored in
    let there = c.deref_mut.ensures.value in
    let room = ap (λ (f : Finder). f.window.capacity) there ∙ (made old).longest in
    let restored : IsRestored s (state_in s.select words) c.go_on_from.new.self = record {
      held = f.held ∙ says.waiting;
      window = f.window ∙ ap₂ (λ (l : List Point) n. let w : Held = record { points = l; capacity = n; has_ended = false } in w) says.window room;
      weigher = f.weigher ∙ ap (λ (b : Bool). weigher s.pattern.strength s.pattern.variable b) says.after_variable;
      matched = f.state;
      start = f.start ∙ says.start;
      has_keys = f.has_keys ∙ says.has_keys;
      places = f.places ∙ says.places;
      capacity = f.setup.pattern_len ∙ ap (λ (x : Finder). x.matcher.walk.places.capacity) there ∙ c.requires.new.found.matched.went.walked.capacity;
      select = f.setup.select ∙ ap (λ (x : Finder). x.matcher.walk.select) there;
      last_end = f.last_end ∙ says.last_end;
    } in
    let laws : SavedLaws = record {
      boundaries = c.clusters_are_parts.ensures.boundaries;
      text = c.whole_characters_are_the_longest_text.ensures.text;
      within = c.whole_characters_are_the_longest_text.ensures.within;
      offsets = c.laws_of_points.ensures.offsets;
      others = c.laws_of_reordering.ensures.others;
      decomposed = c.laws_of_points.ensures.decomposed;
      accepted = c.laws_of_states.ensures.accepted;
      back = c.laws_of_states.ensures.back;
    } in
    let same = ap (λ (x : Select). let u : Sought = record { table = s.table; pattern = s.pattern; select = x } in u) (f.setup.select ∙ ap (λ (x : Finder). x.matcher.walk.select) there) in
    let value : c.as_slice.result.now ≡ c.args.state.now.held.items = c.as_slice.ensures.value in
    goes-on laws _ s words (state_in s.select words) refl same says.fault restored
    (λ cut bytes given stands good held count. c.restore-self.ensures.stands_for cut bytes given stands good (held ∙ sym says.held ∙ sym value) (count ∙ sym says.taken))
