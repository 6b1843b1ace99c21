use Rattle.std.specs.Str.{chars}
use Rattle.std.proofs.Common.{◌≡◌, ◌+◌, ◌≤◌, ℕ, suc, max, List, ◌++◌, true, length}
use Rattle.collation_table.specs.Table.{longest_mapped}
use Rattle.collation_letters.specs.Store.{AreLetters}
use Rattle.collation_matches.specs.GoodPrefix.{is_good_so_far, whole}
use Rattle.collation_search.specs.Early.{starters_from}
use Rattle.collation_search.proofs.feed.reach.Given as goal

-- with those that are left, enough characters that begin with a starter stand from here on, whatever stands before the piece
abbrev pub invariant-loop-at : goal.invariant-loop-at
invariant-loop-at g l = record {
  within : l.at ≤ length l.piece;
  right : AreLetters (g.W.Weights.table l.query.table.now) l.query.pattern.now l.letters;
  enough : (u : List ℕ) → is_good_so_far (u ++ l.piece) ≡ true
      → max 2 (longest_mapped (g.W.Weights.table l.query.table.now)) ≤ suc l.left + starters_from (length u + l.at) (chars (whole (u ++ l.piece)));
}

abbrev pub decreases-loop-at : goal.decreases-loop-at
decreases-loop-at g l = l.at
