-- What stands in a list of words that an append left unfinished.
use Rattle.std.specs.Prelude.{◌≡◌, ℕ, List, ◌++◌}

-- the words before, and some after them
abbrev pub AreWordsAppended : List ℕ → List ℕ → Type 0
AreWordsAppended before after = (more : List ℕ) × (after ≡ before ++ more)
