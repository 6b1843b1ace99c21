-- What a comparison says of a text, where its end or its first fault was reached, or the pattern's keys were completed.
use Rattle.std.specs.Str.{chars}
use Rattle.std.proofs.Common.{◌≡◌, ◌≤◌, ◌∙◌, ℕ, true, false, List, ◌++◌, length, take, Option, Some, None, is_some, sym, ap, refl}
use Rattle.std.proofs.lemmas.List.{take-append-le}
use Rattle.utf8_cut.specs.Characters.{characters_end}
use Rattle.nfd_points.specs.Points.{points, points_from, byte_len, ordered}
use Rattle.collation_table.specs.Table.{TableMap}
use Rattle.collation_pattern.specs.Compiled.{Compiled}
use Rattle.collation_matches.specs.declared.faults.TextFault.{TextFault}
use Rattle.collation_matches.specs.GoodPrefix.{fault, good_prefix, prefix_at, whole}
use Rattle.collation_matches.proofs.LagTexts.{TextLaws}
use Rattle.collation_anchored.specs.declared.comparison.Comparison.{Comparison}
use Rattle.collation_anchored.specs.Compared.{completed}
use Rattle.collation_anchored.specs.Comparing.{HasComparedBytes}
use Rattle.collation_anchored.proofs.GoodTexts.{codes_go_on}
use Rattle.collation_anchored.proofs.KeysSoFar.{completed_stays}

-- where a fault stands, the text before it is the whole characters of the bytes so far
pub good_at_fault : (text u rest : List ℕ) (f : TextFault) → text ≡ u ++ rest → characters_end u ≤ length u → fault text ≡ Some f → f.offset ≡ characters_end u → good_prefix text ≡ whole u
good_at_fault text u rest f parts within faulty offset =
    ap (prefix_at text) faulty ∙ ap (λ n. take n text) offset ∙ ap (take (characters_end u)) parts ∙ take-append-le (characters_end u) u rest within

-- once the pattern's keys are completed, they are so in the text, however it goes on
pub completed_text : TextLaws → (table : TableMap) (pattern : Compiled) (comparison : Comparison) (u later : List ℕ) → HasComparedBytes table pattern comparison u → comparison.window.has_ended ≡ false →
    is_some comparison.progress.completed ≡ true → comparison.progress.completed ≡ completed table pattern (points (chars (good_prefix (u ++ later))))
completed_text laws table pattern comparison u later h open_window found = go comparison.progress.completed refl found
  where
    never : comparison.window.has_ended ≡ true → ⊥
    never ended = let both : true ≡ false = sym ended ∙ open_window in cc

    go : (end : Option ℕ) → comparison.progress.completed ≡ end → is_some end ≡ true → comparison.progress.completed ≡ completed table pattern (points (chars (good_prefix (u ++ later))))
    go None is some = cc
    go (Some end) is some =
        let on = codes_go_on laws u later h.open_bytes in
        let compared = h.compared in
        let rest = ordered (comparison.reorder.held ++ points_from (byte_len (chars (whole u))) on.rest) in
        completed_stays table pattern comparison.window comparison.weigher comparison.progress compared.points rest end compared.came (λ ended. absurd (never ended)) is
        ∙ ap (completed table pattern) (sym (ap points on.codes ∙ compared.reordered.continues on.rest))
