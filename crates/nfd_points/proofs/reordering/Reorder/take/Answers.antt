use Rattle.std.proofs.Common.{◌≡◌, length, sym, ap, subst, ◌∙◌, arith, ◌+◌, [], ◌∷◌, ◌++◌, nat_le}
use Rattle.std.specs.List.{take_while}
use Rattle.unicode_normalization.specs.StreamSafe.{has_short_runs}
use Rattle.nfd_points.specs.Points.{ordered}
use Rattle.nfd_points.specs.Reordering.{IsHeld}
use Rattle.nfd_points.proofs.ReorderingLemmas.{starter-moved, starter-closed, starter-sound, IsHeld-nil, IsHeld-insert, mark-moved}
use Rattle.nfd_points.proofs.StepLemmas.{run-one_starter, run-one_mark, room-one_mark}
use Rattle.nfd_points.proofs.reordering.Reorder.take.Goals as goal

pub insert-requires : goal.insert-requires
insert-requires c =
    let same : c.self.inside.waiting.items ≡ c.args.self.now.held = ap (λ w. w.held) c.self.view_is in
    let room = room-one_mark (length c.args.self.now.held) c.args.point c.requires.sound c.if-point-eq0.false c.requires.short in (
      omega arith,
      (omega (arith, ap length c.as_slice.ensures.value), omega (arith, ap length same, room)),
    )

pub invariant_of-self : goal.invariant_of-self
invariant_of-self c =
    let same : c.self.inside.waiting.items ≡ c.args.self.now.held = ap (λ w. w.held) c.self.view_is in
    let at : c.place_after-place.result ≡ length (take_while (λ q. nat_le q.ccc c.args.point.ccc) c.self.inside.waiting.items) =
    c.place_after-place.ensures.value ∙ ap (λ l. length (take_while (λ q. nat_le q.ccc c.args.point.ccc) l)) c.as_slice.ensures.value in
    subst IsHeld (sym c.insert.ensures.items)
    (IsHeld-insert c.self.inside.waiting.items c.args.point c.place_after-place.result c.self.invariant c.requires.sound at c.if-point-eq0.false
    (ap (λ l. has_short_runs (length l) (c.args.point.cp ∷ [])) same ∙ c.requires.short))

pub returns-else-point-eq0-clause-held : goal.returns-else-point-eq0-clause-held
returns-else-point-eq0-clause-held c =
    let same : c.self.inside.waiting.items ≡ c.args.self.now.held = ap (λ w. w.held) c.self.view_is in
    let at : c.place_after-place.result ≡ length (take_while (λ q. nat_le q.ccc c.args.point.ccc) c.self.inside.waiting.items) =
    c.place_after-place.ensures.value ∙ ap (λ l. length (take_while (λ q. nat_le q.ccc c.args.point.ccc) l)) c.as_slice.ensures.value in
    subst IsHeld (sym c.insert.ensures.items)
    (IsHeld-insert c.self.inside.waiting.items c.args.point c.place_after-place.result c.self.invariant c.requires.sound at c.if-point-eq0.false
    (ap (λ l. has_short_runs (length l) (c.args.point.cp ∷ [])) same ∙ c.requires.short))

pub returns-then-point-eq0-clause-moved : goal.returns-then-point-eq0-clause-moved
returns-then-point-eq0-clause-moved c =
    starter-moved _ _ _ _ _ c.args.point c.release.ensures.was.in_order c.if-point-eq0.true c.release.ensures.given c.push.ensures.items c.release.ensures.held

pub returns-then-point-eq0-clause-closed : goal.returns-then-point-eq0-clause-closed
returns-then-point-eq0-clause-closed c = λ _. starter-closed _ _ c.args.point c.if-point-eq0.true c.push.ensures.items

pub returns-then-point-eq0-clause-sound : goal.returns-then-point-eq0-clause-sound
returns-then-point-eq0-clause-sound c =
    starter-sound _ _ _ _ c.args.point c.release.ensures.was c.requires.sound c.release.ensures.given c.push.ensures.items

pub returns-then-point-eq0-clause-run : goal.returns-then-point-eq0-clause-run
returns-then-point-eq0-clause-run c =
    ap length c.release.ensures.held ∙ sym (run-one_starter (length c.args.self.now.held) c.args.point c.requires.sound c.if-point-eq0.true)

pub returns-then-point-eq0-clause-held : goal.returns-then-point-eq0-clause-held
returns-then-point-eq0-clause-held c = subst IsHeld (sym c.release.ensures.held) IsHeld-nil

pub returns-else-point-eq0-clause-moved : goal.returns-else-point-eq0-clause-moved
returns-else-point-eq0-clause-moved c =
    λ rest.
    let same : c.self.inside.waiting.items ≡ c.args.self.now.held = ap (λ w. w.held) c.self.view_is in
    let at : c.place_after-place.result ≡ length (take_while (λ q. nat_le q.ccc c.args.point.ccc) c.self.inside.waiting.items) =
    c.place_after-place.ensures.value ∙ ap (λ l. length (take_while (λ q. nat_le q.ccc c.args.point.ccc) l)) c.as_slice.ensures.value in
    ap (λ l. c.args.out.now.items ++ ordered (l ++ c.args.point ∷ rest)) (sym same)
    ∙ mark-moved c.args.out.now.items c.self.inside.waiting.items c.insert.new.self.items c.args.point c.place_after-place.result c.self.invariant at c.if-point-eq0.false c.insert.ensures.items rest

pub returns-else-point-eq0-clause-run : goal.returns-else-point-eq0-clause-run
returns-else-point-eq0-clause-run c =
    let same : c.self.inside.waiting.items ≡ c.args.self.now.held = ap (λ w. w.held) c.self.view_is in
    let more : length c.insert.new.self.items ≡ length c.args.self.now.held + 1 = omega (arith, c.insert.ensures.len, ap length same) in
    more ∙ sym (run-one_mark (length c.args.self.now.held) c.args.point c.requires.sound c.if-point-eq0.false)
