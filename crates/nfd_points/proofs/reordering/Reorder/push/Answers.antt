use Rattle.std.proofs.Common.{◌≡◌, ℕ, List, [], ◌∷◌, ◌++◌, length, true, sym, ap, ap₂, ◌∙◌, subst, arith}
use Rattle.unicode_normalization.specs.Decompose.{decompose}
use Rattle.ucd_normal.specs.declared.forms.Form.TheVariants.{Nfd}
use Rattle.unicode_normalization.specs.StreamSafe.{has_short_runs}
use Rattle.nfd_points.specs.declared.points.Point.{Point}
use Rattle.nfd_points.specs.Points.{ordered}
use Rattle.nfd_points.specs.PointFaults.{run_after, fault_of_code_point, part_fault}
use Rattle.nfd_points.specs.Reordering.{code_points, IsHeld, IsSoundPoint, is_closed}
use Rattle.nfd_points.proofs.DecompositionLemmas.{decomposition-decompose}
use Rattle.nfd_points.proofs.RunLemmas.{fault_of_code_point-parts, part_fault-none, short-nil}
use Rattle.nfd_points.proofs.ReorderingLemmas.{is_closed-nil, stops}
use Rattle.nfd_points.proofs.PushLemmas.{PushGives, IsPushed-parts, IsPushed-all, IsPushed-carries, plain-pushed, plain-given, plain-short, plain-fault, plain-sound}
use Rattle.nfd_points.proofs.AfreshLemmas.{afresh, first-good}
use Rattle.nfd_points.proofs.GivenRunLemmas.{short-given}
use Rattle.nfd_points.proofs.reordering.Reorder.push.Goals as goal

-- ---- starters that are their own decomposition

pub take-requires-clause-short : goal.take-requires-clause-short
take-requires-clause-short c =
    ap (λ (p : Point). has_short_runs (length c.args.self.now.held) (p.cp ∷ [])) c.plain.ensures
    ∙ plain-short _ c.args.c (c.is_plain.ensures.plain c.if-is_plain.true)

pub take-requires-clause-sound : goal.take-requires-clause-sound
take-requires-clause-sound c =
    subst IsSoundPoint (sym c.plain.ensures)
    (plain-sound c.args.c c.args.offset c.ranges.c.0 (c.is_plain.ensures.plain c.if-is_plain.true))

pub returns-then-is_plain-clause-fault : goal.returns-then-is_plain-clause-fault
returns-then-is_plain-clause-fault c = plain-fault _ c.args.c (c.is_plain.ensures.plain c.if-is_plain.true)

plain_pushed : (c : goal.After-take) → PushGives c.args.self.now.held c.args.offset c.args.c c.take.new.self.held c.take.new.out.items
plain_pushed c =
    let plain = c.is_plain.ensures.plain c.if-is_plain.true in
    plain-pushed c.args.self.now.held c.take.new.self.held c.empty.new.out.items c.take.new.out.items c.args.offset c.args.c plain
    c.empty.ensures c.take.ensures.held
    (λ rest. ap (λ p. c.empty.new.out.items ++ ordered (c.args.self.now.held ++ p ∷ rest)) (sym c.plain.ensures) ∙ c.take.ensures.moved rest)
    c.take.ensures.closed (c.take.ensures.run ∙ ap (λ (p : Point). run_after (length c.args.self.now.held) (p.cp ∷ [])) c.plain.ensures)

pub returns-then-is_plain-clause-ascii_given : goal.returns-then-is_plain-clause-ascii_given
returns-then-is_plain-clause-ascii_given c low =
    plain-given c.args.self.now.held c.take.new.self.held c.take.new.out.items c.args.offset c.args.c (c.is_plain.ensures.plain c.if-is_plain.true) (subst (λ w. IsHeld w.held) c.self.view_is c.self.invariant) (plain_pushed c)

pub returns-then-is_plain-clause-pushed : goal.returns-then-is_plain-clause-pushed
returns-then-is_plain-clause-pushed c = IsPushed-all _ _ _ _ _ (plain_pushed c)

pub returns-then-is_plain-clause-closed : goal.returns-then-is_plain-clause-closed
returns-then-is_plain-clause-closed c = (plain_pushed c).closed

pub returns-then-is_plain-clause-carries : goal.returns-then-is_plain-clause-carries
returns-then-is_plain-clause-carries c =
    IsPushed-carries c.args.self.now c.take.new.self c.take.new.out.items c.args.offset c.args.c (plain_pushed c)
    (plain-fault (length c.args.self.now.held) c.args.c (c.is_plain.ensures.plain c.if-is_plain.true))

pub returns-then-is_plain-clause-short : goal.returns-then-is_plain-clause-short
returns-then-is_plain-clause-short c =
    short-given c.args.self.now.held c.take.new.self.held c.take.new.out.items c.args.offset c.args.c (subst (λ w. IsHeld w.held) c.self.view_is c.self.invariant) (plain_pushed c)
    (plain-fault (length c.args.self.now.held) c.args.c (c.is_plain.ensures.plain c.if-is_plain.true))

pub returns-then-is_plain-clause-afresh : goal.returns-then-is_plain-clause-afresh
returns-then-is_plain-clause-afresh c = afresh c.args.self.now c.take.new.self c.take.new.out.items c.args.offset c.args.c (plain_pushed c)

-- ---- any other code point

-- what the code finds of its decomposition is what stands at the code point
at_code_point : (run held c : ℕ) (parts : List ℕ) → run ≡ held → parts ≡ decompose Nfd c → part_fault run parts ≡ fault_of_code_point held c
at_code_point run held c parts same made = ap₂ part_fault same (made ∙ sym (decomposition-decompose c)) ∙ sym (fault_of_code_point-parts held c)

pub returns-in-Some-clause-fault : goal.returns-in-Some-clause-fault
returns-in-Some-clause-fault c =
    sym (at_code_point c.len-run.result (length c.args.self.now.held) c.args.c c.decomposition-parts.result.now (c.len-run.ensures.value ∙ ap (λ w. length w.held) c.self.view_is) c.decomposition-parts.ensures.value)
    ∙ sym c.in-Some.ensures

pub returns-in-Some-clause-none_waits : goal.returns-in-Some-clause-none_waits
returns-in-Some-clause-none_waits c none = let clash = sym (returns-in-Some-clause-fault c) ∙ first-good c.args.self.now.held c.args.c none in cc

pub returns-in-Some-clause-closed : goal.returns-in-Some-clause-closed
returns-in-Some-clause-closed c = ap is_closed c.empty.ensures ∙ is_closed-nil

pub returns-in-Some-clause-short : goal.returns-in-Some-clause-short
returns-in-Some-clause-short c = ap (λ l. has_short_runs 0 (code_points l)) c.empty.ensures ∙ short-nil 0

pub returns-in-Some-clause-stops : goal.returns-in-Some-clause-stops
returns-in-Some-clause-stops c taken given rest h =
    stops c.args.self.now taken given c.args.c c.in-Some.fault.kind rest h (returns-in-Some-clause-fault c)

pub returns-clause-fault : goal.returns-clause-fault
returns-clause-fault c =
    sym (at_code_point c.len-run.result (length c.args.self.now.held) c.args.c c.decomposition-parts.result.now (c.len-run.ensures.value ∙ ap (λ w. length w.held) c.self.view_is) c.decomposition-parts.ensures.value)
    ∙ sym c.in_default.ensures

pub returns-clause-pushed : goal.returns-clause-pushed
returns-clause-pushed c =
    IsPushed-all _ _ _ _ _
    (IsPushed-parts c.args.self.now.held c.take_all.new.self.held c.empty.new.out.items c.take_all.new.out.items c.decomposition-parts.result.now c.args.offset c.args.c
    c.empty.ensures (c.decomposition-parts.ensures.value ∙ sym (decomposition-decompose c.args.c)) c.take_all.ensures.held c.take_all.ensures.moved c.take_all.ensures.closed c.take_all.ensures.run)

pub returns-clause-closed : goal.returns-clause-closed
returns-clause-closed c = c.take_all.ensures.closed (ap is_closed c.empty.ensures ∙ is_closed-nil)

pub returns-clause-short : goal.returns-clause-short
returns-clause-short c =
    short-given c.args.self.now.held c.take_all.new.self.held c.take_all.new.out.items c.args.offset c.args.c (subst (λ w. IsHeld w.held) c.self.view_is c.self.invariant)
    (IsPushed-parts c.args.self.now.held c.take_all.new.self.held c.empty.new.out.items c.take_all.new.out.items c.decomposition-parts.result.now c.args.offset c.args.c
    c.empty.ensures (c.decomposition-parts.ensures.value ∙ sym (decomposition-decompose c.args.c)) c.take_all.ensures.held c.take_all.ensures.moved c.take_all.ensures.closed c.take_all.ensures.run)
    (returns-clause-fault c)

pub returns-clause-carries : goal.returns-clause-carries
returns-clause-carries c =
    IsPushed-carries c.args.self.now c.take_all.new.self c.take_all.new.out.items c.args.offset c.args.c
    (IsPushed-parts c.args.self.now.held c.take_all.new.self.held c.empty.new.out.items c.take_all.new.out.items c.decomposition-parts.result.now c.args.offset c.args.c
    c.empty.ensures (c.decomposition-parts.ensures.value ∙ sym (decomposition-decompose c.args.c)) c.take_all.ensures.held c.take_all.ensures.moved c.take_all.ensures.closed c.take_all.ensures.run)
    (returns-clause-fault c)

pub returns-clause-afresh : goal.returns-clause-afresh
returns-clause-afresh c =
    afresh c.args.self.now c.take_all.new.self c.take_all.new.out.items c.args.offset c.args.c
    (IsPushed-parts c.args.self.now.held c.take_all.new.self.held c.empty.new.out.items c.take_all.new.out.items c.decomposition-parts.result.now c.args.offset c.args.c
    c.empty.ensures (c.decomposition-parts.ensures.value ∙ sym (decomposition-decompose c.args.c)) c.take_all.ensures.held c.take_all.ensures.moved c.take_all.ensures.closed c.take_all.ensures.run)

pub take_all-requires-clause-room : goal.take_all-requires-clause-room
take_all-requires-clause-room c =
    let fits = part_fault-none c.len-run.result c.decomposition-parts.result.now (sym c.in_default.ensures) in
    let held = subst (λ w. IsHeld w.held) c.self.view_is c.self.invariant in
    omega (arith, fits.0, held.few, ap length c.empty.ensures)

pub take_all-requires-clause-short : goal.take_all-requires-clause-short
take_all-requires-clause-short c =
    let fits = part_fault-none c.len-run.result c.decomposition-parts.result.now (sym c.in_default.ensures) in
    subst (λ n. has_short_runs n c.decomposition-parts.result.now ≡ true) (c.len-run.ensures.value ∙ ap (λ w. length w.held) c.self.view_is) fits.1

pub returns-clause-few : goal.returns-clause-few
returns-clause-few c =
    let fits = part_fault-none c.len-run.result c.decomposition-parts.result.now (sym c.in_default.ensures) in
    let held = subst (λ w. IsHeld w.held) c.self.view_is c.self.invariant in
    omega (arith, fits.0, held.few, ap length c.empty.ensures, c.take_all.ensures.len)

pub returns-then-is_plain-clause-held : goal.returns-then-is_plain-clause-held
returns-then-is_plain-clause-held c = c.take.ensures.held

pub returns-clause-held : goal.returns-clause-held
returns-clause-held c = c.take_all.ensures.held
