use Rattle.std.proofs.Common.{rules, ◌++◌, take, arith, [], ap, ◌∙◌, sym, refl}
use Rattle.colfind_io.proofs.Pieces.{prefix-stays, write-step, prefix-all, split-after, le-sub-add, with_piece-nil}
use Rattle.colfind_io.proofs.writing.write_all.Goals as goal

pub loop-rest-init : goal.loop-rest-init
loop-rest-init g c = (refl, (record { prefix = []; rest = c.args.bytes.now; whole = refl; written = sym (with_piece-nil (g.O.Target.held c.args.out.now)) }, refl))

pub returns-clause-ok : goal.returns-clause-ok
returns-clause-ok g c = prefix-all _ _ _ _ c.loop-rest.invariant.1.0 c.loop-rest.invariant.1.1 c.loop-rest-test.ensures

pub returns-in_err-count-clause-err : goal.returns-in_err-count-clause-err
returns-in_err-count-clause-err g c =
    let prefix = prefix-stays _ _ _ _ c.loop-rest.invariant.1.0 c.in_err-count.ensures.bytes in
    search rules

pub returns-in-0-clause-err : goal.returns-in-0-clause-err
returns-in-0-clause-err g c =
    prefix-stays _ _ _ _ c.loop-rest.invariant.1.0 (rw c.in-0.is at c.in_ok-count.ensures.bytes)

pub loop-rest-preserved : goal.loop-rest-preserved
loop-rest-preserved g c =
    let prefix = c.loop-rest.invariant.1.0 in
    let whole = prefix.whole ∙ ap (λ xs. prefix.prefix ++ xs) c.loop-rest.invariant.1.1 in (
      grind (arith, c.in_ok-count.ensures.count),
      (
        record {
          prefix = prefix.prefix ++ take c.in_ok-count.count c.loop-rest.rest.now;
          rest = _;
          whole = split-after prefix.prefix c.loop-rest.rest.now _ c.in_ok-count.count _ whole (le-sub-add _ _);
          written = write-step _ _ _ prefix.prefix _ prefix.written c.in_ok-count.ensures.bytes;
        },
        refl,
      ),
    )
