use Rattle.std.proofs.Common.{◌≡◌, ℕ, ◌+◌, ◌<◌, ◌≤◌, false, true, List, [], ◌∷◌, ◌++◌, length, remove, sym, ◌∙◌, ap, subst, arith, rules}
use Rattle.std.proofs.lemmas.Bool.{ne_eqb, eq-eqb}
use Rattle.std.proofs.lemmas.List.Edits.{length-remove}
use Rattle.arrayvec.specs.ArrayVec.{ArrayVec}
use Rattle.nfd_points.specs.declared.points.Point.{Point}
use Rattle.nfd_points.specs.Points.{is_starter}
use Rattle.circular_buffer.specs.Buffer.{Buffer, buffer}
use Rattle.collation_table.specs.Table.{is_mapped}
use Rattle.collation_elements.proofs.Joining.{IsHighest, JoinsSoFar, JoinsSoFar-taken, JoinsSoFar-left, IsHighest-taken, IsHighest-left, IsDone-starter}
use Rattle.collation_elements.proofs.window.take_joining.Goals as goal
use Rattle.collation_elements.proofs.window.take_joining.Goals.{else-highest_left-c-via-then-highest_left-c+else-lengthen, else-highest_left-c-via-else-highest_left-c}

pub loop-left-preserved-then-lengthen : goal.loop-left-preserved-then-lengthen
loop-left-preserved-then-lengthen g c =
    let T = g.W.Weights.table c.args.table.now in
    let ps : List Point = c.loop-left.points.items in
    let left : ℕ = c.loop-left.left in
    let p : Point = c.point-c.result in
    let inv = c.loop-left.invariant in
    let within : left < length ps = omega (arith, c.loop-left-test.true, c.len.ensures.len) in
    let starter : is_starter p ≡ false = ne_eqb p.ccc 0 c.if-c-eq0.false in
    let some : 1 ≤ p.ccc = omega (arith, c.if-c-eq0.false) in
    let found : is_mapped T (c.loop-left.string.items ++ p.cp ∷ []) ≡ true = sym c.lengthen.ensures.value ∙ c.if-lengthen.true in
    let after : c.remove.new.self ≡ buffer (remove ps left) c.loop-left.points.capacity = c.remove.ensures in
    let now : JoinsSoFar T c.args.string.now.items c.args.points.now.items c.lengthen.new.string.items (remove ps left) left = JoinsSoFar-taken T c.args.string.now.items c.args.points.now.items c.loop-left.string.items c.lengthen.new.string.items ps left c.loop-left.highest_left p inv.so_far inv.highest c.point-c.ensures.point starter some c.if-highest_left-c.true found c.if-lengthen.ensures.string in
    let few : length c.remove.new.self.items ≡ length (remove ps left) = ap (λ (q : Buffer Point). length q.items) after in
    record {
      within = omega (arith, length-remove ps left within);
      capacity = ap (λ (q : Buffer Point). q.capacity) after ∙ inv.capacity;
      highest = subst (λ (q : Buffer Point). IsHighest q.items left c.loop-left.highest_left) (sym after) (IsHighest-taken ps left c.loop-left.highest_left within inv.highest);
      so_far = subst (λ (q : Buffer Point). JoinsSoFar T c.args.string.now.items c.args.points.now.items c.lengthen.new.string.items q.items left) (sym after) now;
    }

pub loop-left-smaller-then-lengthen : goal.loop-left-smaller-then-lengthen
loop-left-smaller-then-lengthen g c =
    let ps : List Point = c.loop-left.points.items in
    let left : ℕ = c.loop-left.left in
    let within : left < length ps = omega (arith, c.loop-left-test.true, c.len.ensures.len) in
    let few : length c.remove.new.self.items ≡ length (remove ps left) = ap (λ (q : Buffer Point). length q.items) c.remove.ensures in
    omega (arith, few, length-remove ps left within)

pub loop-left-preserved : goal.loop-left-preserved
loop-left-preserved g c =
    let T = g.W.Weights.table c.args.table.now in
    let ps : List Point = c.loop-left.points.items in
    let left : ℕ = c.loop-left.left in
    let p : Point = c.point-c.result in
    let inv = c.loop-left.invariant in
    let starter : is_starter p ≡ false = ne_eqb p.ccc 0 c.if-c-eq0.false in
    let some : 1 ≤ p.ccc = omega (arith, c.if-c-eq0.false) in
    let within : left + 1 ≤ length ps = omega (arith, c.loop-left-test.true, c.len.ensures.len) in
    let high : IsHighest ps (left + 1) c.max-highest_left.result = subst (λ (h : ℕ). IsHighest ps (left + 1) h) (sym c.max-highest_left.ensures) (IsHighest-left ps left c.loop-left.highest_left p inv.highest c.point-c.ensures.point starter) in
    let stays : (c.loop-left.highest_left < p.ccc → is_mapped T (c.loop-left.string.items ++ p.cp ∷ []) ≡ false) → JoinsSoFar T c.args.string.now.items c.args.points.now.items c.loop-left.string.items ps (left + 1) = JoinsSoFar-left T c.args.string.now.items c.args.points.now.items c.loop-left.string.items ps left c.loop-left.highest_left p inv.so_far inv.highest c.point-c.ensures.point starter some in
    elim c.else-highest_left-c.branch [
      | else-highest_left-c-via-then-highest_left-c+else-lengthen w ↦
          let string : c.else-highest_left-c.string.items ≡ c.loop-left.string.items = ap (λ (k : ArrayVec ℕ). k.items) w.string-is ∙ w.if-lengthen.ensures.string in
          let none : is_mapped T (c.loop-left.string.items ++ p.cp ∷ []) ≡ false = sym w.lengthen.ensures.value ∙ w.if-lengthen.false in
          record {
            within = within;
            capacity = inv.capacity;
            highest = high;
            so_far = subst (λ (k : List ℕ). JoinsSoFar T c.args.string.now.items c.args.points.now.items k ps (left + 1)) (sym string) (stays (λ _. none));
          }
      | else-highest_left-c-via-else-highest_left-c w ↦
          let string : c.else-highest_left-c.string.items ≡ c.loop-left.string.items = ap (λ (k : ArrayVec ℕ). k.items) w.string-is in
          let below : p.ccc ≤ c.loop-left.highest_left = w.if-highest_left-c.false in
          record {
            within = within;
            capacity = inv.capacity;
            highest = high;
            so_far = subst (λ (k : List ℕ). JoinsSoFar T c.args.string.now.items c.args.points.now.items k ps (left + 1)) (sym string) (stays (λ above. absurd (omega arith)));
          }
    ]

pub returns-then-c-eq0-clause-string : goal.returns-then-c-eq0-clause-string
returns-then-c-eq0-clause-string g c unit is =
    (IsDone-starter (g.W.Weights.table c.args.table.now) c.args.string.now.items c.args.points.now.items c.loop-left.string.items c.loop-left.points.items c.loop-left.left c.point-c.result c.loop-left.invariant.so_far c.point-c.ensures.point (eq-eqb c.point-c.result.ccc 0 c.if-c-eq0.true) unit is).0

pub returns-then-c-eq0-clause-rest : goal.returns-then-c-eq0-clause-rest
returns-then-c-eq0-clause-rest g c unit is =
    let rest = (IsDone-starter (g.W.Weights.table c.args.table.now) c.args.string.now.items c.args.points.now.items c.loop-left.string.items c.loop-left.points.items c.loop-left.left c.point-c.result c.loop-left.invariant.so_far c.point-c.ensures.point (eq-eqb c.point-c.result.ccc 0 c.if-c-eq0.true) unit is).1 in
    ap (λ (n : ℕ). buffer c.loop-left.points.items n) c.loop-left.invariant.capacity ∙ ap (λ (ps : List Point). buffer ps c.args.points.now.capacity) rest

pub loop-left-init : goal.loop-left-init
loop-left-init g c = search rules depth 4
