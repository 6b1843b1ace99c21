use Rattle.std.proofs.Common.{◌≡◌, ◌<◌, ◌≤◌, false, true, List, [], ◌∷◌, ◌++◌, length, is_some, refl, sym, ◌∙◌, ap, subst, arith}
use Rattle.std.proofs.lemmas.List.Elements.{All-same, All-contains_itself}
use Rattle.std.specs.List.{All, Contains}
use Rattle.unicode_normalization.specs.StreamSafe.{has_short_runs}
use Rattle.nfd_points.specs.Reordering.{IsSoundPoint, code_points, is_closed}
use Rattle.nfd_points.specs.declared.points.Point.{Point}
use Rattle.circular_buffer.specs.Buffer.{Buffer}
use Rattle.collation_table.specs.Table.{longest_mapped}
use Rattle.collation_elements.specs.Windows.{Held, is_decided, next_cut, WindowStandsFor}
use Rattle.collation_elements.proofs.Cutting.{decided-some, length-next_cut, length-undecided, is_closed-decided}
use Rattle.collation_elements.proofs.Cuts.{IfNone-from, WindowStandsFor-cut}
use Rattle.collation_elements.proofs.LeftPoints.{all-next_cut, short-next_cut}
use Rattle.collation_elements.proofs.window.Window.next_unit.Goals as goal

pub returns-in_err-front-clause-room : goal.returns-in_err-front-clause-room
returns-in_err-front-clause-room g c =
    let T = g.W.Weights.table c.args.table.now in
    let held : Held = record { points = c.self.inside.queue.items; capacity = c.self.inside.queue.capacity; has_ended = c.self.inside.has_ended } in
    let undecided : is_decided T held ≡ false = sym c.decided_front.ensures.decided ∙ ap is_some c.in_err-front.was in
    let few : held.has_ended ≡ false → is_closed held.points ≡ true → length held.points ≤ longest_mapped T = λ unreported ends. length-undecided T held (g.met.W.Weights.sizes c.args.table.now).some_mapped undecided ends in
    IfNone-from c.from_residual.result (subst (λ (h : Held). h.has_ended ≡ false → is_closed h.points ≡ true → length h.points ≤ longest_mapped T) c.self.view_is few)

pub returns-clause-stands : goal.returns-clause-stands
returns-clause-stands g c =
    let T = g.W.Weights.table c.args.table.now in
    let held : Held = record { points = c.self.inside.queue.items; capacity = c.self.inside.queue.capacity; has_ended = c.self.inside.has_ended } in
    let new : Held = record { points = c.cut.new.points.items; capacity = c.cut.new.points.capacity; has_ended = c.self.inside.has_ended } in
    let decided : is_decided T held ≡ true = sym c.in_ok-front.ensures.decided in
    let rest : c.cut.new.points.items ≡ (next_cut T held.points).rest = ap (λ (q : Buffer Point). q.items) c.cut.ensures.rest in
    subst (λ (h : Held). (taken : List Point) (given : List (List Point)) → WindowStandsFor T h taken given → WindowStandsFor T new taken (given ++ (next_cut T h.points).unit ∷ [])) c.self.view_is
    (λ taken given stands. WindowStandsFor-cut T held new taken given decided rest refl stands)

pub returns-clause-fewer : goal.returns-clause-fewer
returns-clause-fewer g c =
    let T = g.W.Weights.table c.args.table.now in
    let held : Held = record { points = c.self.inside.queue.items; capacity = c.self.inside.queue.capacity; has_ended = c.self.inside.has_ended } in
    let decided : is_decided T held ≡ true = sym c.in_ok-front.ensures.decided in
    let rest : length c.cut.new.points.items ≡ length (next_cut T held.points).rest = ap (λ (q : Buffer Point). length q.items) c.cut.ensures.rest in
    let fewer : length c.cut.new.points.items < length held.points = omega (arith, length-next_cut T held.points (decided-some T held decided)) in
    subst (λ (h : Held). length c.cut.new.points.items < length h.points) c.self.view_is fewer

pub returns-clause-last : goal.returns-clause-last
returns-clause-last g c =
    let T = g.W.Weights.table c.args.table.now in
    let held : Held = record { points = c.self.inside.queue.items; capacity = c.self.inside.queue.capacity; has_ended = c.self.inside.has_ended } in
    let decided : is_decided T held ≡ true = sym c.in_ok-front.ensures.decided in
    let rest : c.cut.new.points.items ≡ (next_cut T held.points).rest = ap (λ (q : Buffer Point). q.items) c.cut.ensures.rest in
    subst (λ (h : Held). h.has_ended ≡ false → is_closed h.points ≡ true → is_closed c.cut.new.points.items ≡ true) c.self.view_is
    (λ unreported ends. ap is_closed rest ∙ is_closed-decided T held decided unreported ends)

pub returns-clause-kept : goal.returns-clause-kept
returns-clause-kept g c =
    let T = g.W.Weights.table c.args.table.now in
    let held : Held = record { points = c.self.inside.queue.items; capacity = c.self.inside.queue.capacity; has_ended = c.self.inside.has_ended } in
    let rest : c.cut.new.points.items ≡ (next_cut T held.points).rest = ap (λ (q : Buffer Point). q.items) c.cut.ensures.rest in
    subst (λ (h : Held). All (Contains h.points) c.cut.new.points.items) c.self.view_is
    (All-same (Contains held.points) _ _ rest (all-next_cut (Contains held.points) T held.points (All-contains_itself held.points)))

pub returns-clause-short : goal.returns-clause-short
returns-clause-short g c =
    let T = g.W.Weights.table c.args.table.now in
    let held : Held = record { points = c.self.inside.queue.items; capacity = c.self.inside.queue.capacity; has_ended = c.self.inside.has_ended } in
    let rest : c.cut.new.points.items ≡ (next_cut T held.points).rest = ap (λ (q : Buffer Point). q.items) c.cut.ensures.rest in
    subst (λ (h : Held). All IsSoundPoint h.points → has_short_runs 0 (code_points h.points) ≡ true → has_short_runs 0 (code_points c.cut.new.points.items) ≡ true) c.self.view_is
    (λ sound short. ap (λ l. has_short_runs 0 (code_points l)) rest ∙ short-next_cut T held.points sound short)
