-- Worked states over the worked table: what is held and reported after some bytes, however they are cut.
use Rattle.std.specs.Prelude.{◌≡◌, ℕ, List, [], ◌∷◌, codes}
use Rattle.collation_elements.specs.declared.settings.Variable.TheVariants.{NonIgnorable}
use Rattle.collation_elements.specs.declared.settings.Strength.TheVariants.{Three}
use Rattle.collation_elements.specs.WorkedTable.{worked_table}
use Rattle.collation_pattern.specs.Levels.{text_keys}
use Rattle.collation_matches.specs.declared.select.Select.{Select}
use Rattle.collation_matches.specs.declared.select.Select.TheVariants.{All, Chain}
use Rattle.collation_matches.specs.Sought.{Sought}
use Rattle.collation_states.specs.State.{words}
use Rattle.collation_states.specs.WorkedStates.{at_begin, after_a, after_aa, after_aaa, in_character, accent_waits, after_fault, chain_after_aaaa, chain_after_fault}
use Rattle.collation_search.specs.State.{sizes_of}
use Rattle.collation_search.specs.StateAfter.{reported_after, state_after}

-- a pattern under the worked table, at strength three with variable elements kept
abbrev pub worked_sought : Select → List ℕ → Sought
worked_sought select pattern = record {
  table = worked_table;
  pattern = record { keys = text_keys worked_table Three NonIgnorable pattern; strength = Three; variable = NonIgnorable };
  select = select;
}

abbrev pub words_after : Select → List ℕ → List ℕ → List ℕ
words_after select pattern u = let s = worked_sought select pattern in words (sizes_of s) (state_after s u)

-- the words after some bytes, in a search for `aa`
pub record StatesAfter : Type 0 where
  pub begin : words_after All (codes "aa") [] ≡ at_begin
  pub a : words_after All (codes "aa") (codes "a") ≡ after_a
  pub aa : words_after All (codes "aa") (codes "aa") ≡ after_aa
  pub aaa : words_after All (codes "aa") (codes "aaa") ≡ after_aaa
  -- after the byte c3 alone
  pub in_character : words_after All (codes "aa") (0xC3 ∷ []) ≡ in_character
  -- after U+00E9
  pub accent : words_after All (codes "aa") (0xC3 ∷ 0xA9 ∷ []) ≡ accent_waits
  -- after the byte ff
  pub fault : words_after All (codes "aa") (0xFF ∷ []) ≡ after_fault
  pub chain : words_after Chain (codes "aa") (codes "aaaa") ≡ chain_after_aaaa
  pub chain_fault : words_after Chain (codes "aa") (0xFF ∷ []) ≡ chain_after_fault

-- `a` in `abb`: the range is reported once the unit at 1 is cut
pub record RangesInTime : Type 0 where
  pub ab : reported_after (worked_sought All (codes "a")) (codes "ab") ≡ []
  pub abb : reported_after (worked_sought All (codes "a")) (codes "abb") ≡ (0, 1) ∷ []
