use Rattle.std.proofs.Common.{rules, ◌∙◌, ◌∷◌, ◌++◌, ap, sym}
use Rattle.std.specs.Fmt.{decimal}
use Rattle.std.proofs.Math.ListN.{drop_of_length-le}
use Rattle.colfind_io.proofs.Texts.{mark_lines-by_signs, mark_lines-is_text}
use Rattle.colfind_io.proofs.output.write_marks.Goals as goal

pub returns-clause-lines : goal.returns-clause-lines
returns-clause-lines c =
    c.write_sign.ensures.written
    ∙ ap (λ xs. 91 ∷ xs) (c.write_number-at-2.ensures.written
    ∙ ap (λ xs. decimal c.args.start ++ xs) (c.write_sign-at-3.ensures.written
    ∙ ap (λ xs. 10 ∷ xs) (c.write_sign-at-2.ensures.written
    ∙ ap (λ xs. 93 ∷ xs) (c.write_number-at.ensures.written
    ∙ ap (λ xs. decimal c.args.end ++ xs) (c.write_sign-at.ensures.written
    ∙ ap (λ xs. 10 ∷ xs) (drop_of_length-le c.args.room.now {i = 64} (search rules)))))))
    ∙ sym (mark_lines-by_signs c.args.start c.args.end)

pub returns-clause-text : goal.returns-clause-text
returns-clause-text c = mark_lines-is_text c.args.start c.args.end c.ranges.start.fits c.ranges.end.fits
