use Rattle.std.proofs.Common.{◌≡◌, ◌∙◌, ◌<◌, ◌+◌, ◌++◌, [], List, ℕ, suc, length, take, drop, false, sym, ap, subst, arith}
use Rattle.std.proofs.lemmas.List.{take_all}
use Rattle.std.specs.Option.{is_some}
use Rattle.nfd_points.specs.declared.points.Point.{Point}
use Rattle.nfd_points.specs.declared.limits.TheConstants.{MOST_GIVEN}
use Rattle.nfd_points.specs.PointFaults.{point_fault}
use Rattle.nfd_points.specs.Points.{points}
use Rattle.nfd_points.specs.Reordering.{HasReordered}
use Rattle.collation_elements.specs.declared.keys.Item.{Item}
use Rattle.collation_elements.specs.Items.{items}
use Rattle.collation_elements.specs.Texts.{Gives}
use Rattle.collation_elements.specs.Units.{units}
use Rattle.collation_elements.specs.Weighing.{WeigherStandsFor}
use Rattle.nfd_points.specs.Reordering.{is_closed}
use Rattle.collation_elements.proofs.Cutting.{is_closed-both}
use Rattle.collation_elements.proofs.TextLemmas.{next_prefix, next_bytes, around, prefix_bytes, gives_all}
use Rattle.collation_elements.proofs.PointLaws.{byte_len-nil}
use Rattle.collation_elements.proofs.texts.items_of_characters.Goals as goal

pub loop-c-init : goal.loop-c-init
unfolding is_closed
loop-c-init g c =
    let table = g.W.Weights.table c.args.table.now in
    let holds_none = ap (λ w. w.points) c.in_ok-window.ensures.empty in record {
      read = (
        [],
        c.new-reorder.ensures.starts,
        record {
          units = [];
          cut = c.in_ok-window.ensures.stands table;
          weighed = subst (λ (given : List Item). WeigherStandsFor table c.new-weigher.result [] given) (sym c.in_ok-items.ensures.items) (c.new-weigher.ensures.stands table);
        },
      );
      offset = sym byte_len-nil;
      strength = ap (λ w. w.strength) c.new-weigher.ensures.value;
      variable = ap (λ w. w.variable) c.new-weigher.ensures.value;
      capacity = ap (λ w. w.capacity) c.in_ok-window.ensures.empty ∙ ap (λ n. n + MOST_GIVEN) c.longest_key.ensures;
      not_ended = ap (λ w. w.has_ended) c.in_ok-window.ensures.empty;
      last = ap is_closed holds_none;
      small = let none = ap length holds_none in omega (arith, none);
    }

pub returns-in-Err-clause-bad : goal.returns-in-Err-clause-bad
returns-in-Err-clause-bad g c =
    let i = c.loop-c.c-index in
    let cs = c.args.characters.now in
    let below : i < length cs = omega arith in
    let read = c.loop-c.invariant.read in
    let reported = c.in-Err.ensures.stops (take i cs) read.0 (drop (suc i) cs) read.1 in
    ap (λ t. is_some (point_fault t)) (around cs i c.c-item.result below c.c-item.is) ∙ ap is_some reported

pub overflow_add-offset : goal.overflow_add-offset
overflow_add-offset g c =
    let i = c.loop-c.c-index in
    let cs = c.args.characters.now in
    let below : i < length cs = omega arith in
    let prefix = prefix_bytes cs i c.c-item.result below c.c-item.is in
    omega (arith, c.loop-c.invariant.offset, c.len_utf8.ensures.value, prefix)

pub loop-c-preserved : goal.loop-c-preserved
loop-c-preserved g c =
    let table = g.W.Weights.table c.args.table.now in
    let i = c.loop-c.c-index in
    let cs = c.args.characters.now in
    let below : i < length cs = omega arith in
    let old = c.loop-c.invariant.read in
    let value = c.as_slice.ensures.value in
    let carried = c.in_default.ensures.carries (take i cs) old.0 old.1 c.loop-c.invariant.offset in
    let fronted = subst (λ (taken : List ℕ). HasReordered c.push.new.self taken (old.0 ++ c.push.new.out.items)) (sym (next_prefix cs i c.c-item.result below c.c-item.is)) carried in
    let reordered = subst (λ (out : List Point). HasReordered c.push.new.self (take (i + 1) cs) (old.0 ++ out)) (sym value) fronted in
    let before : Gives table c.push_all.new.self c.loop-c.weigher c.loop-c.items.items (old.0 ++ c.as_slice.result.now) =
    record { units = old.2.units; cut = c.push_all.ensures.stands table old.0 old.2.units old.2.cut; weighed = old.2.weighed } in
    let not_ended = ap (λ w. w.has_ended) c.push_all.ensures.points ∙ c.loop-c.invariant.not_ended in
    let closed = is_closed-both c.loop-c.window.points c.push.new.out.items c.loop-c.invariant.last c.in_default.ensures.closed in
    let starter = ap is_closed (ap (λ w. w.points) c.push_all.ensures.points ∙ ap (λ out. c.loop-c.window.points ++ out) value) ∙ closed in
    record {
      read = (old.0 ++ c.as_slice.result.now, reordered, c.in_ok-cut_units.ensures.stands (old.0 ++ c.as_slice.result.now) before);
      offset = let next = next_bytes cs i c.c-item.result below c.c-item.is in omega (arith, c.loop-c.invariant.offset, c.len_utf8.ensures.value, next);
      strength = c.in_ok-cut_units.ensures.settings.strength ∙ c.loop-c.invariant.strength;
      variable = c.in_ok-cut_units.ensures.settings.variable ∙ c.loop-c.invariant.variable;
      capacity = c.in_ok-cut_units.ensures.capacity ∙ ap (λ w. w.capacity) c.push_all.ensures.points ∙ c.loop-c.invariant.capacity;
      not_ended = c.in_ok-cut_units.ensures.ended ∙ not_ended;
      last = c.in_ok-cut_units.ensures.last not_ended starter;
      small = c.in_ok-cut_units.ensures.room not_ended starter;
    }

pub returns-clause-items : goal.returns-clause-items
returns-clause-items g c =
    let table = g.W.Weights.table c.args.table.now in
    let i = c.loop-c.c-index in
    let cs = c.args.characters.now in
    let old = c.loop-c.invariant.read in
    let all : take i cs ≡ cs = take_all i cs (omega arith) in
    let value = c.as_slice-2.ensures.value in
    let read = ap points (sym all) ∙ c.finish.ensures.rest (take i cs) old.0 old.1 ∙ ap (λ out. old.0 ++ out) (sym value) in
    let before : Gives table c.end.new.self c.loop-c.weigher c.loop-c.items.items (old.0 ++ c.as_slice-2.result.now) = record {
      units = old.2.units;
      cut = c.end.ensures.stands table (old.0 ++ c.as_slice-2.result.now) old.2.units (c.push_all-2.ensures.stands table old.0 old.2.units old.2.cut);
      weighed = old.2.weighed;
    } in
    let ended = ap (λ w. w.has_ended) c.end.ensures.ended in
    let gives = c.in_ok-cut_units-2.ensures.stands (old.0 ++ c.as_slice-2.result.now) before in
    let none = c.in_ok-cut_units-2.ensures.all ended in
    gives_all table c.cut_units-2.new.window c.cut_units-2.new.weigher c.cut_units-2.new.items.items (old.0 ++ c.as_slice-2.result.now) c.args.strength c.args.variable gives none
    (c.in_ok-cut_units-2.ensures.settings.strength ∙ c.loop-c.invariant.strength) (c.in_ok-cut_units-2.ensures.settings.variable ∙ c.loop-c.invariant.variable)
    ∙ ap (λ ps. items table c.args.strength c.args.variable false (units table ps)) (sym read)
