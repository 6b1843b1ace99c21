-- What a search answers.
use Rattle.std.specs.Prelude.{ℕ, List, Option, Some, None}
use Rattle.collation_table.specs.Table.{TableMap}
use Rattle.collation_elements.specs.declared.settings.Variable.{Variable}
use Rattle.collation_elements.specs.declared.settings.Strength.{Strength}
use Rattle.collation_matches.specs.Matches.{matches, settled}
use Rattle.collation_matches.specs.declared.faults.TextFault.{TextFault}
use Rattle.collation_matches.specs.GoodPrefix.{fault, good_prefix}

-- the ranges that are handed out, and the fault that ends them
pub record Answer : Type 0 where
  pub ranges : List (ℕ × ℕ)
  pub fault : Option TextFault

-- All minimal matches of bytes without a fault. At a fault the text counts as ended: those that are settled by then.
abbrev pub answer_at : TableMap → Strength → Variable → List ℕ → List ℕ → Option TextFault → Answer
answer_at table strength variable pattern bytes None =
    record { ranges = matches table strength variable pattern bytes; fault = None }
answer_at table strength variable pattern bytes (Some at) =
    record { ranges = settled table strength variable pattern (good_prefix bytes); fault = Some at }

abbrev pub answer : TableMap → Strength → Variable → List ℕ → List ℕ → Answer
answer table strength variable pattern bytes = answer_at table strength variable pattern bytes (fault bytes)
