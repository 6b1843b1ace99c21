use Rattle.std.proofs.Common.{◌∙◌, refl, sym, rules}
use Rattle.colfind_io.proofs.Gathered.{sent, unsent}
use Rattle.colfind_io.proofs.lines.Lines.send.Goals as goal

pub returns-then-self-clause-prints : goal.returns-then-self-clause-prints
returns-then-self-clause-prints g c = λ form ranges before f p.
    unsent form c.args.self.now _ ranges before _ f _ p (sym c.if-self.true) refl refl refl

pub returns-clause-prints : goal.returns-clause-prints
returns-clause-prints g c = λ form ranges before f p.
    sent form c.args.self.now _ ranges before _ _ f _ _ c.as_bytes.result.now c.write_all.result p (sym c.if-self.false)
    (c.as_bytes.ensures.value ∙ c.as_str.ensures.value) c.write_all.ensures.ok c.write_all.ensures.err c.write_all.ensures.count refl refl c.clear-2.ensures c.is_err-self.ensures.value

pub returns-clause-ready : goal.returns-clause-ready
returns-clause-ready g c = search rules depth 6 steps 300000
