use Rattle.std.proofs.Common.{◌∷◌, sym, ap, ◌∙◌}
use Rattle.std.specs.Str.Lines.{lines}
use Rattle.collation_table.proofs.LinesOfFile.{lines-cut, lines-uncut}
use Rattle.collation_table.proofs.pieces.first_line.Goals as goal

pub returns-in-Some-clause-lines : goal.returns-in-Some-clause-lines
returns-in-Some-clause-lines c =
    lines-cut c.args.bytes.now c.in-Some.line.now c.in-Some.following.now (sym c.in-Some.ensures) ∙ ap (λ line. line ∷ lines c.in-Some.following.now) (sym c.without_carriage_return.ensures)

pub returns-in-None-clause-lines : goal.returns-in-None-clause-lines
returns-in-None-clause-lines c = lines-uncut c.args.bytes.now c.requires (sym c.in-None.ensures)
