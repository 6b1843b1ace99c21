-- Which lists of words are states for a pattern and a table, test by test, and which kind of fault the others have.
use Rattle.std.specs.Prelude.{ℕ, ◌+◌, ◌-◌, ◌*◌, ◌/◌, ◌%◌, ◌^◌, Bool, true, false, ◌&&◌, ◌||◌, not, nat_le, nat_lt, ◌==◌, List, [], ◌∷◌, length, take, drop, slice_index, Option, None, Some, if◌then◌else◌, bytes_eq}
use Rattle.std.specs.List.{list_all}
use lib.Utf8.{scalar}
use Rattle.unicode_normalization.specs.Lookups.{canonical_combining_class}
use Rattle.unicode_normalization.specs.StreamSafe.{has_short_runs}
use Rattle.utf8_cut.specs.Characters.{is_incomplete_or_empty}
use Rattle.nfd_points.specs.declared.limits.TheConstants.{MOST_WAITING}
use Rattle.nfd_points.specs.declared.points.Point.{Point}
use Rattle.nfd_points.specs.Points.{decomposition, is_in_order}
use Rattle.nfd_points.specs.Reordering.{code_points, is_non_starter, is_closed}
use Rattle.collation_matches.specs.declared.select.Select.{Select}
use Rattle.collation_matches.specs.declared.select.Select.TheVariants.{All, Chain}
use Rattle.collation_states.specs.declared.states.Sizes.{Sizes}
use Rattle.collation_states.specs.declared.states.Head.{Head}
use Rattle.collation_states.specs.State.{form_word, strength_word, variable_word}

abbrev pub head : List ℕ → Head
head words = record {
  taken = slice_index words 6;
  kind = slice_index words 7;
  fault_offset = slice_index words 8;
  held_len = slice_index words 9;
  held = slice_index words 10;
  after_variable = slice_index words 11;
  start = slice_index words 12;
  has_keys = slice_index words 13;
  waits = slice_index words 14;
  state = slice_index words 15;
  window_len = slice_index words 16;
  waiting_len = slice_index words 17;
}

abbrev pub is_flag : ℕ → Bool
is_flag word = nat_le word 1

-- ---- the first test: whole records, five at least, or six of a chain, of the right form

-- how many words a state has at least
abbrev pub head_len : Select → ℕ
head_len All = 20
head_len Chain = 24

abbrev pub has_form : Select → List ℕ → Bool
has_form select words = nat_le (head_len select) (length words) && (length words % 4 == 0 && slice_index words 0 == form_word select)

-- ---- the second test: the same sizes and settings

abbrev pub is_for : Sizes → List ℕ → Bool
is_for r words =
    slice_index words 1 == r.pattern_len
    && (slice_index words 2 == r.longest_key
    && (slice_index words 3 == r.most_elements
    && (slice_index words 4 == strength_word r.strength && slice_index words 5 == variable_word r.variable)))

-- ---- the third test: numbers that a search can hold

-- so many bytes that a number spells, the first one the most significant
abbrev pub bytes_in : ℕ → ℕ → List ℕ
bytes_in len held =
    let more = if len == 2 then held / 256 ∷ held % 256 ∷ [] else (held / 65536 ∷ held / 256 % 256 ∷ held % 256 ∷ []) in
    if len == 0 then [] else (if len == 1 then held ∷ [] else more)

-- none, or some that properly begin a character
abbrev pub may_be_held : ℕ → ℕ → Bool
may_be_held len held = nat_le len 3 && (is_incomplete_or_empty (bytes_in len held) && (not (len == 0) || held == 0))

-- the places of keys: their clusters' starts do not fall, and none is after the current cluster's
abbrev pub are_places : ℕ → ℕ → List ℕ → Bool
are_places least most [] = true
are_places least most (start ∷ is_first ∷ a ∷ b ∷ words) =
    nat_le least start && (nat_le start most && (is_flag is_first && (a == 0 && (b == 0 && are_places start most words))))
are_places least most _ = false

-- points: scalar values, each with an offset before the end of the whole characters
abbrev pub are_points : ℕ → List ℕ → Bool
are_points end [] = true
are_points end (cp ∷ offset ∷ is_first ∷ a ∷ words) =
    scalar cp && (nat_lt offset end && (is_flag is_first && (a == 0 && are_points end words)))
are_points end _ = false

-- a code point, or U+0000 in place of one that is not its own decomposition: no text has such a point, and it counts as a starter
abbrev pub decomposed : ℕ → ℕ
decomposed cp = if bytes_eq (decomposition cp) (cp ∷ []) then cp else 0

abbrev pub points_in : List ℕ → List Point
points_in (cp ∷ offset ∷ is_first ∷ a ∷ words) =
    record { cp = decomposed cp; ccc = canonical_combining_class (decomposed cp); offset = offset; first = is_first == 1 } ∷ points_in words
points_in _ = []

-- the points of a window end in a starter, and no 31 non-starters stand in a row
abbrev pub may_be_in_window : List Point → Bool
may_be_in_window points = is_closed points && has_short_runs 0 (code_points points)

-- the points that wait are non-starters in canonical order
abbrev pub may_wait : List Point → Bool
may_wait points = list_all is_non_starter points && is_in_order points

-- a match waits only where the whole pattern ends the keys so far, the first of them is the first of its cluster, and the
-- current cluster has keys
abbrev pub may_match_wait : Sizes → Head → List ℕ → Bool
may_match_wait r h words =
    h.waits == 0 || (h.state == r.pattern_len && (slice_index words (head_len r.select + 1) == 1 && h.has_keys == 1))

-- as many records as the head says, no more of each kind than a search can hold
abbrev pub has_records : Sizes → Head → List ℕ → Bool
has_records r h words =
    nat_le h.state r.pattern_len && (nat_le h.window_len r.longest_key && (nat_le h.waiting_len MOST_WAITING
    && length words == head_len r.select + 4 * (h.state + (h.window_len + h.waiting_len))))

-- a search that has met no fault
abbrev pub is_open_head : Sizes → Head → List ℕ → Bool
is_open_head r h words =
    h.fault_offset == 0
    && (is_flag h.after_variable && (is_flag h.has_keys && (is_flag h.waits
    && (nat_le h.held_len h.taken && (may_be_held h.held_len h.held
    && (has_records r h words && nat_le h.start (h.taken - h.held_len)))))))

-- of a chain the end of the last range that was handed out: it is not after the current cluster's start
abbrev pub is_chain_end : Select → Head → List ℕ → Bool
is_chain_end All h words = true
is_chain_end Chain h words =
    nat_le (slice_index words 20) h.start && (slice_index words 21 == 0 && (slice_index words 22 == 0 && slice_index words 23 == 0))

-- ---- the records after these: the places of the last keys, the points in the window and those that wait

abbrev pub place_part : Head → List ℕ → List ℕ
place_part h words = take (4 * h.state) words

abbrev pub window_part : Head → List ℕ → List ℕ
window_part h words = take (4 * h.window_len) (drop (4 * h.state) words)

abbrev pub waiting_part : Head → List ℕ → List ℕ
waiting_part h words = drop (4 * h.window_len) (drop (4 * h.state) words)

abbrev pub has_open_tail : Head → List ℕ → Bool
has_open_tail h words =
    let end = h.taken - h.held_len in
    are_places 0 h.start (place_part h words)
    && (are_points end (window_part h words) && (are_points end (waiting_part h words)
    && (may_be_in_window (points_in (window_part h words)) && may_wait (points_in (waiting_part h words)))))

-- ---- the whole

-- a search that has reported a fault, and holds nothing else
abbrev pub is_reported : Select → Head → List ℕ → Bool
is_reported select h words =
    nat_le 31 h.kind && (nat_le h.kind 35 && (h.fault_offset == h.taken
    && (length words == head_len select && list_all (λ word. word == 0) (drop 9 words))))

abbrev pub is_state : Sizes → List ℕ → Bool
is_state r words =
    let h = head words in
    let tail = drop (head_len r.select) words in
    let whole = is_open_head r h words && (may_match_wait r h words && (is_chain_end r.select h words && has_open_tail h tail)) in
    nat_le h.taken (2 ^ 62)
    && (slice_index words 18 == 0 && (slice_index words 19 == 0
    && (if h.kind == 0 then whole else is_reported r.select h words)))

-- ---- the kind of the fault

-- 51 is a malformed state, 52 one of another pattern, table or setting
abbrev pub state_fault : Sizes → List ℕ → Option ℕ
state_fault r words =
    if not (has_form r.select words) then Some 51 else (if not (is_for r words) then Some 52 else (if is_state r words then None else Some 51))
