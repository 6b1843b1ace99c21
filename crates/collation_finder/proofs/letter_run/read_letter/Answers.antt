use Rattle.std.proofs.Common.{sym, subst}
use Rattle.collation_letters.specs.Store.{AreLetters}
use Rattle.collation_finder.proofs.letter_run.read_letter.Goals.{then-len-len_utf8+in_ok-get-2+in_ok-all, else-len-len_utf8+in_ok-all-2}
use Rattle.collation_finder.proofs.letter_run.read_letter.Goals as goal

-- one mark more
pub marks-preserved : goal.marks-preserved
marks-preserved g c =
    let Right = AreLetters (g.W.Weights.table c.args.query.now.table.now) c.args.query.now.pattern.now in
    elim c.if-len-len_utf8.branch [
      | then-len-len_utf8+in_ok-get-2+in_ok-all w ↦ subst Right (sym w.letters-is) w.in_ok-all.ensures.right
      | else-len-len_utf8+in_ok-all-2 w ↦ subst Right (sym w.letters-is) c.letter-following.ensures.right
    ]
