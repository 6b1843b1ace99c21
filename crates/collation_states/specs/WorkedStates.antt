-- Worked lists of words: what the tests of a state answer, where the pattern has two keys, the table's longest key two code
-- points and its largest row two elements, at strength three with variable elements kept.
use Rattle.std.specs.Prelude.{◌≡◌, ℕ, ◌+◌, ◌^◌, List, ◌++◌, take, slice_set, Option, None, Some}
use Rattle.collation_elements.specs.declared.settings.Variable.TheVariants.{NonIgnorable}
use Rattle.collation_elements.specs.declared.settings.Strength.TheVariants.{Three}
use Rattle.collation_matches.specs.declared.select.Select.TheVariants.{All, Chain}
use Rattle.collation_states.specs.State.{four}
use Rattle.collation_states.specs.declared.states.Sizes.{Sizes}
use Rattle.collation_states.specs.StateTests.{state_fault}

abbrev pub worked : Sizes
worked = record { pattern_len = 2; longest_key = 2; most_elements = 2; strength = Three; variable = NonIgnorable; select = All }

abbrev pub worked_chain : Sizes
worked_chain = record { pattern_len = 2; longest_key = 2; most_elements = 2; strength = Three; variable = NonIgnorable; select = Chain }

abbrev pub at_begin : List ℕ
at_begin = four 1 2 2 2 ++ four 3 0 0 0 ++ four 0 0 0 0 ++ four 0 0 0 0 ++ four 0 0 0 0

abbrev pub after_a : List ℕ
after_a = four 1 2 2 2 ++ four 3 0 1 0 ++ four 0 0 0 0 ++ four 0 0 0 0 ++ four 1 0 0 0 ++ four 97 0 1 0

abbrev pub after_aa : List ℕ
after_aa = four 1 2 2 2 ++ four 3 0 2 0 ++ four 0 0 0 0 ++ four 0 1 0 1 ++ four 1 0 0 0 ++ four 0 1 0 0 ++ four 97 1 1 0

abbrev pub after_aaa : List ℕ
after_aaa = four 1 2 2 2 ++ four 3 0 3 0 ++ four 0 0 0 0 ++ four 1 1 1 2 ++ four 1 0 0 0 ++ four 0 1 0 0 ++ four 1 1 0 0 ++ four 97 2 1 0

-- after the byte c3 alone
abbrev pub in_character : List ℕ
in_character = four 1 2 2 2 ++ four 3 0 1 0 ++ four 0 1 195 0 ++ four 0 0 0 0 ++ four 0 0 0 0

-- after U+00E9, whose accent waits
abbrev pub accent_waits : List ℕ
accent_waits = four 1 2 2 2 ++ four 3 0 2 0 ++ four 0 0 0 0 ++ four 0 0 0 0 ++ four 1 1 0 0 ++ four 101 0 1 0 ++ four 769 0 0 0

-- after the byte ff
abbrev pub after_fault : List ℕ
after_fault = four 1 2 2 2 ++ four 3 0 0 31 ++ four 0 0 0 0 ++ four 0 0 0 0 ++ four 0 0 0 0

-- of a chain after `aaaa`, where the range from 0 to 2 was handed out
abbrev pub chain_after_aaaa : List ℕ
chain_after_aaaa =
    four 2 2 2 2 ++ four 3 0 4 0 ++ four 0 0 0 0 ++ four 2 1 1 2 ++ four 1 0 0 0 ++ four 2 0 0 0 ++ four 1 1 0 0 ++ four 2 1 0 0 ++ four 97 3 1 0

-- of a chain after the byte ff
abbrev pub chain_after_fault : List ℕ
chain_after_fault = four 2 2 2 2 ++ four 3 0 0 31 ++ four 0 0 0 0 ++ four 0 0 0 0 ++ four 0 0 0 0 ++ four 0 0 0 0

-- the state after `a` with one word, counted from 0, changed
abbrev pub changed : ℕ → ℕ → Option ℕ
changed index word = state_fault worked (slice_set after_a index word)

pub record AcceptedStates : Type 0 where
  pub begin : state_fault worked at_begin ≡ None
  pub a : state_fault worked after_a ≡ None
  pub aa : state_fault worked after_aa ≡ None
  pub aaa : state_fault worked after_aaa ≡ None
  pub in_character : state_fault worked in_character ≡ None
  pub accent_waits : state_fault worked accent_waits ≡ None
  pub fault : state_fault worked after_fault ≡ None

pub record ChangedStates : Type 0 where
  pub short : state_fault worked (take 23 after_a) ≡ Some 51
  pub form : changed 0 2 ≡ Some 51
  pub pattern_len : changed 1 3 ≡ Some 52
  pub strength : changed 4 4 ≡ Some 52
  pub too_long : changed 6 (2 ^ 62 + 1) ≡ Some 51
  pub longest : changed 6 (2 ^ 62) ≡ None
  pub kind : changed 7 31 ≡ Some 51
  pub window_len : changed 16 2 ≡ Some 51
  pub non_starter : changed 20 769 ≡ Some 51
  pub surrogate : changed 20 55296 ≡ Some 51
  pub other_letter : changed 20 98 ≡ None
  -- U+0344 is not its own decomposition, and so it counts as a starter
  pub decomposed_accent : changed 20 836 ≡ None
  pub decomposed_accent_waits : state_fault worked (slice_set accent_waits 24 836) ≡ Some 51
  pub offset : changed 21 1 ≡ Some 51
  pub zero_word : changed 23 1 ≡ Some 51

pub record ChainStates : Type 0 where
  pub aaaa : state_fault worked_chain chain_after_aaaa ≡ None
  pub under_all : state_fault worked chain_after_aaaa ≡ Some 51
  pub first_form : state_fault worked_chain (slice_set chain_after_aaaa 0 1) ≡ Some 51
  pub of_all_ranges : state_fault worked_chain after_aaa ≡ Some 51
  pub without_the_sixth_record : state_fault worked_chain (slice_set at_begin 0 2) ≡ Some 51
  pub late_end : state_fault worked_chain (slice_set chain_after_aaaa 20 3) ≡ Some 51
  pub not_zero : state_fault worked_chain (slice_set chain_after_aaaa 21 1) ≡ Some 51
  pub fault : state_fault worked_chain chain_after_fault ≡ None
  pub end_at_a_fault : state_fault worked_chain (slice_set chain_after_fault 20 1) ≡ Some 51
