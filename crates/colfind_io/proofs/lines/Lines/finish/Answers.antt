use Rattle.std.proofs.Common.{◌∙◌, ◌+◌, ap, arith, sym}
use Rattle.colfind_io.specs.Devices.{one_if}
use Rattle.colfind_io.proofs.Gathered.{failed-prefix, whole-at_end, prefix-at_end}
use Rattle.colfind_io.proofs.lines.Lines.finish.Goals as goal

pub returns-then-self-clause-err : goal.returns-then-self-clause-err
returns-then-self-clause-err g c = λ form ranges before f few p.
    failed-prefix form c.send.new.self ranges before _ f _ (c.send.ensures.prints form ranges before f p)

pub returns-then-self-clause-count : goal.returns-then-self-clause-count
returns-then-self-clause-count g c = λ form ranges before f p.
    (c.send.ensures.prints form ranges before f p).failed ∙ ap (λ b. f + one_if b) c.if-self.true

pub returns-clause-ok : goal.returns-clause-ok
returns-clause-ok g c = λ form ranges before f few p.
    whole-at_end form c.send.new.self ranges before _ _ f _ (c.send.ensures.prints form ranges before f p) (sym c.if-self.false) c.send.ensures.sent few c.write_end.result c.write_end.ensures.ok

pub returns-clause-err : goal.returns-clause-err
returns-clause-err g c = λ form ranges before f few p.
    prefix-at_end form c.send.new.self ranges before _ _ f _ (c.send.ensures.prints form ranges before f p) (sym c.if-self.false) c.send.ensures.sent few c.write_end.result c.write_end.ensures.err

pub returns-clause-count : goal.returns-clause-count
returns-clause-count g c = λ form ranges before f p.
    let sent = (c.send.ensures.prints form ranges before f p).failed in
    let good = ap one_if c.if-self.false in
    let count = c.write_end.ensures.count in
    omega (arith, sent, good, count)
