use Rattle.std.proofs.Common.{◌≡◌, ◌<◌, ◌≤◌, false, ◌||◌, length, drop, sym, ◌∙◌, arith}
use Rattle.std.specs.List.{list_any}
use Rattle.std.proofs.lemmas.Bool.{true≢false, ltb-false}
use Rattle.nfd_points.specs.Points.{is_starter}
use Rattle.collation_table.specs.Table.{longest_mapped}
use Rattle.collation_elements.specs.Windows.{Held}
use Rattle.collation_elements.proofs.Deciding.{decided_by, or_first, or_second}
use Rattle.collation_elements.proofs.window.decided_front.Goals as goal
use Rattle.collation_elements.proofs.window.decided_front.Goals.{then-has_ended, else-has_ended, then-not-has_ended, else-not-has_ended}

pub returns-then-has_starter_from-clause-decided : goal.returns-then-has_starter_from-clause-decided
returns-then-has_starter_from-clause-decided g c =
    let T = g.W.Weights.table c.args.table.now in
    let held : Held = record { points = c.args.points.now.items; capacity = c.args.points.now.capacity; has_ended = c.args.has_ended } in
    let n = c.prefix_length-taken.result in
    let some : 0 < length held.points = omega (arith, c.if-len-eq0.false, c.len.ensures.len) in
    let long : c.args.has_ended ≡ false → longest_mapped T ≤ length held.points = λ unreported. elim c.if-not-has_ended.branch [ then-not-has_ended w ↦ omega (arith, w.len-then-not-has_ended.ensures.len, w.longest_key.ensures, ltb-false w.len-then-not-has_ended.result w.longest_key.result (sym w.value-is ∙ c.if-len-longest_key.false)) | else-not-has_ended w ↦ absurd (true≢false (sym w.if-not-has_ended.false ∙ unreported)) ] in
    let value : c.if-has_ended.value ≡ (c.args.has_ended || list_any is_starter (drop n held.points)) = elim c.if-has_ended.branch [ then-has_ended w ↦ or_first c.if-has_ended.value c.args.has_ended (list_any is_starter (drop n held.points)) w.value-is w.if-has_ended.true | else-has_ended w ↦ or_second c.if-has_ended.value c.args.has_ended (list_any is_starter (drop n held.points)) (w.value-is ∙ w.has_starter_from.ensures) w.if-has_ended.false ] in
    sym (decided_by T held n some long c.prefix_length-taken.ensures ∙ sym value ∙ c.if-has_starter_from.true)

pub returns-else-has_starter_from-clause-decided : goal.returns-else-has_starter_from-clause-decided
returns-else-has_starter_from-clause-decided g c =
    let T = g.W.Weights.table c.args.table.now in
    let held : Held = record { points = c.args.points.now.items; capacity = c.args.points.now.capacity; has_ended = c.args.has_ended } in
    let n = c.prefix_length-taken.result in
    let some : 0 < length held.points = omega (arith, c.if-len-eq0.false, c.len.ensures.len) in
    let long : c.args.has_ended ≡ false → longest_mapped T ≤ length held.points = λ unreported. elim c.if-not-has_ended.branch [ then-not-has_ended w ↦ omega (arith, w.len-then-not-has_ended.ensures.len, w.longest_key.ensures, ltb-false w.len-then-not-has_ended.result w.longest_key.result (sym w.value-is ∙ c.if-len-longest_key.false)) | else-not-has_ended w ↦ absurd (true≢false (sym w.if-not-has_ended.false ∙ unreported)) ] in
    let value : c.if-has_ended.value ≡ (c.args.has_ended || list_any is_starter (drop n held.points)) = elim c.if-has_ended.branch [ then-has_ended w ↦ or_first c.if-has_ended.value c.args.has_ended (list_any is_starter (drop n held.points)) w.value-is w.if-has_ended.true | else-has_ended w ↦ or_second c.if-has_ended.value c.args.has_ended (list_any is_starter (drop n held.points)) (w.value-is ∙ w.has_starter_from.ensures) w.if-has_ended.false ] in
    sym (decided_by T held n some long c.prefix_length-taken.ensures ∙ sym value ∙ c.if-has_starter_from.false)
