use Rattle.std.specs.Prelude.{◌||◌, nat_lt, nat_le}
use Rattle.std.proofs.Common.{◌≡◌, ◌∙◌, ◌≤◌, Bool, true, false, ◌&&◌, List, [], ◌∷◌, ◌++◌, length, drop, refl, sym, ap, subst, arith}
use Rattle.unicode_normalization.specs.StreamSafe.{has_short_runs}
use Rattle.nfd_points.specs.declared.points.Point.{Point}
use Rattle.nfd_points.specs.Points.{is_starter}
use Rattle.nfd_points.specs.Reordering.{IsSoundPoint, code_points, is_closed}
use Rattle.collation_table.specs.Table.{longest_mapped}
use Rattle.collation_elements.specs.Units.{prefix_length}
use Rattle.collation_elements.specs.Decided.{left_points}
use Rattle.collation_elements.specs.Weighing.{value_items}
use Rattle.collation_elements.specs.Windows.{is_decided, next_cut}
use Rattle.std.proofs.lemmas.Bool.{false≢true, false_from_ne_true, ltb-false}
use Rattle.std.proofs.lemmas.List.{nil_from_length}
use Rattle.std.proofs.lemmas.List.Elements.{All-contains_itself}
use Rattle.std.specs.List.{All, Contains, list_any}
use Rattle.collation_finder.specs.Matching.{HasMatched}
use Rattle.collation_finder.proofs.MatchingLemmas.{all-among, among-through}
use Rattle.collation_walk.proofs.WalkSteps.{keeps-on}
use Rattle.collation_finder.proofs.cutting.cut_units.Goals as goal

pub take_unit-requires-clause-room : goal.take_unit-requires-clause-room
take_unit-requires-clause-room g c =
    omega (arith, c.loop-unit.invariant.few, c.requires.room, c.in-Some.ensures.fewer)

pub loop-unit-preserved : goal.loop-unit-preserved
loop-unit-preserved g c =
    let table = g.W.Weights.table c.args.table.now in
    record {
      stands = λ points ranges h.
          let before = c.loop-unit.invariant.stands points ranges h in
          let went = before.went in
          let unit = (next_cut table c.loop-unit.window.points).unit in
          record {
            units = before.units ++ unit ∷ [];
            cut = c.in-Some.ensures.stands points before.units before.cut;
            went = record {
              items = went.items ++ value_items c.loop-unit.matcher.weigher c.in-Some.unit;
              weighed = c.take_unit.ensures.taken.weighed table unit before.units went.items c.in-Some.ensures.unit went.weighed;
              walked = c.take_unit.ensures.taken.walked went.items ranges went.walked;
              strength = ap (λ w. w.strength) c.take_unit.ensures.taken.after ∙ went.strength;
              variable = ap (λ w. w.variable) c.take_unit.ensures.taken.after ∙ went.variable;
            };
            kept = among-through points c.loop-unit.window.points c.next_unit.new.self.points before.kept c.in-Some.ensures.kept;
          };
      few = omega (arith, c.loop-unit.invariant.few, c.take_unit.ensures.few, c.in-Some.ensures.fewer);
      kept = among-through c.args.window.now.points c.loop-unit.window.points c.next_unit.new.self.points c.loop-unit.invariant.kept c.in-Some.ensures.kept;
      short = λ sound runs.
          c.in-Some.ensures.short (all-among IsSoundPoint c.args.window.now.points c.loop-unit.window.points sound c.loop-unit.invariant.kept)
          (c.loop-unit.invariant.short sound runs);
      capacity = ap (λ w. w.capacity) c.in-Some.ensures.rest ∙ c.loop-unit.invariant.capacity;
      ended = ap (λ w. w.has_ended) c.in-Some.ensures.rest ∙ c.loop-unit.invariant.ended;
      last = λ open_window starts. c.in-Some.ensures.last (c.loop-unit.invariant.ended ∙ open_window) (c.loop-unit.invariant.last open_window starts);
      left = λ goes_on.
          let here = c.loop-unit.invariant.ended ∙ goes_on in
          ap (λ w. left_points table w.points) c.in-Some.ensures.rest
          ∙ sym (c.decided_units_stay.ensures.cut table c.loop-unit.window here (c.in-Some.ensures.decided.0 refl))
          ∙ c.loop-unit.invariant.left goes_on;
      keeps = keeps-on c.args.pattern.now _ _ _ c.loop-unit.invariant.keeps c.take_unit.ensures.keeps;
    }

pub loop-unit-init : goal.loop-unit-init
loop-unit-init g c = record {
  stands = λ points ranges h. h;
  kept = All-contains_itself c.args.window.now.points;
  short = λ sound runs. runs;
  few = omega arith;
  capacity = refl;
  ended = refl;
  last = λ open_window starts. starts;
  left = λ goes_on. refl;
  keeps = record { state = c.requires.state; select = refl; room = refl };
}

pub returns-clause-stands : goal.returns-clause-stands
returns-clause-stands g c = λ points ranges h.
    subst (λ w. HasMatched (g.W.Weights.table c.args.table.now) c.args.pattern.now w c.loop-unit.matcher points (ranges ++ c.loop-unit.found.items))
    (sym c.in_default.ensures.unchanged) (c.loop-unit.invariant.stands points ranges h)

any-none : (ended any other : Bool) → ended ≡ true → ((ended && any) || other) ≡ false → any ≡ false
any-none true true other e h = absurd cc
any-none true false other e h = refl
any-none false any other e h = absurd cc

none-held : (ps : List Point) → nat_lt 0 (length ps) ≡ false → ps ≡ []
none-held ps h = nil_from_length ps (let few = ltb-false 0 (length ps) h in omega (arith, few))

pub returns-clause-leaves : goal.returns-clause-leaves
returns-clause-leaves g c =
    let table = g.W.Weights.table c.args.table.now in
    let w = c.loop-unit.window in
    let same = c.in_default.ensures.unchanged in
    let back = sym same in
    let i = c.loop-unit.invariant in
    let none = false_from_ne_true (is_decided table w) (λ decided. false≢true (c.in_default.ensures.decided.1 decided)) in
    record {
      kept = subst (λ v. All (Contains c.args.window.now.points) v.points) back i.kept;
      short = λ sound runs. subst (λ v. has_short_runs 0 (code_points v.points) ≡ true) back (i.short sound runs);
      capacity = ap (λ v. v.capacity) same ∙ i.capacity;
      ended = ap (λ v. v.has_ended) same ∙ i.ended;
      rest = λ goes_on starts. subst (λ v. length v.points ≤ longest_mapped table) back (c.in_default.ensures.room (i.ended ∙ goes_on) (i.last goes_on starts));
      last = λ goes_on starts. subst (λ v. is_closed v.points ≡ true) back (i.last goes_on starts);
      all = λ over.
          let holds_longest = nat_le (longest_mapped table) (length w.points) in
          let following = drop (prefix_length table w.points) w.points in
          ap (λ v. v.points) same
          ∙ none-held w.points (any-none w.has_ended (nat_lt 0 (length w.points)) (holds_longest && list_any is_starter following) (i.ended ∙ over) none);
      undecided = ap (is_decided table) same ∙ none;
      left = λ goes_on. ap (λ v. v.points) same ∙ sym (c.decided_units_stay.ensures.left table w none) ∙ i.left goes_on;
    }
