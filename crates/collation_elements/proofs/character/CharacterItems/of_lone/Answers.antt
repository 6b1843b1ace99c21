use Rattle.std.proofs.Common.{◌≤◌, ◌∙◌, length, Some, refl, arith}
use Rattle.collation_elements.specs.CharacterItems.{character_items}
use Rattle.collation_elements.proofs.CharacterLaws.{are_items}
use Rattle.collation_elements.proofs.LonePoints.{items-more, after-more, items-end, after-end}
use Rattle.collation_elements.proofs.character.CharacterItems.of_lone.Goals as goal

pub loop-point-preserved : goal.loop-point-preserved
loop-point-preserved g c =
    let T = g.W.Weights.table c.args.table.now in
    let l = c.loop-point in
    let unit = c.of_one-unit in
    record {
      items = items-more T l.weigher c.take_short.new.self c.args.points.now l.point-index _ unit.result c.in_ok-short.short l.all c.in_ok-all.all _ c.loop-point-test.true c.in_ok-row.ensures.alone unit.ensures.first_point unit.ensures.elements c.in_ok-short.ensures.after
          c.in_ok-short.ensures.items c.in_ok-all.ensures l.invariant.items;
      after = after-more T l.weigher c.take_short.new.self c.args.points.now l.point-index _ unit.result _ c.loop-point-test.true c.in_ok-row.ensures.alone unit.ensures.first_point unit.ensures.elements c.in_ok-short.ensures.after l.invariant.after;
    }

pub returns : goal.returns
returns g c =
    let T = g.W.Weights.table c.args.table.now in
    let l = c.loop-point in
    let past : length c.args.points.now ≤ l.point-index = omega (arith, c.loop-point-test.false) in
    record {
      items = are_items T c.args.weigher c.args.points.now (Some (record l.all { after_variable = c.after_variable.result })) (character_items l.all 0) c.after_variable.result (items-end T l.weigher c.args.points.now l.point-index l.all _ past l.invariant.items)
          (c.after_variable.ensures ∙ after-end T l.weigher c.args.points.now l.point-index _ past l.invariant.after) refl refl;
    }
