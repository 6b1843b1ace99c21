use Rattle.std.proofs.Common.{rules, refl}
use Rattle.colfind_io.proofs.Gathered.{grown}
use Rattle.colfind_io.proofs.lines.Lines.put.Goals as goal

pub returns-clause-prints : goal.returns-clause-prints
returns-clause-prints g c = λ form ranges before f p.
    grown form c.make_room.new.self _ ranges (c.args.start, c.args.end) before _ f _ (c.make_room.ensures.prints form ranges before f p) refl
    (λ h. search rules)
    c.print.ensures refl
