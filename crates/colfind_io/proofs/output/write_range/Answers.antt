use Rattle.std.proofs.Common.{rules, ◌∙◌, ◌∷◌, ◌++◌, ap, sym}
use Rattle.std.specs.Fmt.{decimal}
use Rattle.std.proofs.Math.ListN.{drop_of_length-le}
use Rattle.colfind_io.proofs.Texts.{range_line-by_signs, range_line-is_text}
use Rattle.colfind_io.proofs.output.write_range.Goals as goal

pub returns-clause-line : goal.returns-clause-line
returns-clause-line c =
    c.write_number.ensures.written
    ∙ ap (λ xs. decimal c.args.start ++ xs) (c.write_sign-at-2.ensures.written
    ∙ ap (λ xs. 58 ∷ xs) (c.write_number-at.ensures.written
    ∙ ap (λ xs. decimal c.args.end ++ xs) (c.write_sign-at.ensures.written
    ∙ ap (λ xs. 10 ∷ xs) (drop_of_length-le c.args.room.now {i = 64} (search rules)))))
    ∙ sym (range_line-by_signs c.args.start c.args.end)

pub returns-clause-text : goal.returns-clause-text
returns-clause-text c = range_line-is_text c.args.start c.args.end c.ranges.start.fits c.ranges.end.fits
