use Rattle.std.proofs.Common.{◌∙◌, ap}
use Rattle.collation_safe.specs.Safe.{is_safe_character}
use Rattle.collation_safe.proofs.Standing.{spelled-none, stands-same}
use Rattle.collation_safe.proofs.offsets.is_safe_at.Goals as goal

pub returns-in-Some-clause-known : goal.returns-in-Some-clause-known
returns-in-Some-clause-known g c = λ safe.
    let same = stands-same c.args.bytes.now c.split_at.result.1.now c.args.at c.in-Some.c safe.character c.split_at.ensures.back c.in-Some.ensures.some.1 safe.whole in
    c.is_safe.ensures ∙ ap (is_safe_character (g.W.Weights.table c.args.table.now)) same ∙ safe.safe

pub returns-in-None-clause-known : goal.returns-in-None-clause-known
returns-in-None-clause-known g c = λ safe.
    absurd (spelled-none c.args.bytes.now c.split_at.result.1.now c.args.at safe.character c.split_at.ensures.back safe.whole c.in-None.ensures.none)
