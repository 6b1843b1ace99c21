-- What a status says, in words.
use Rattle.std.specs.Prelude.{ℕ, Bool, ◌==◌, ◌-◌, ◌&&◌, nat_le, List, [], ◌∷◌, ◌++◌, length, take, drop, min, codes, if◌then◌else◌}
use Rattle.std.specs.Fmt.{decimal}
use Rattle.colfind_c.specs.declared.outcome.Status.{Status}

-- of a table file
abbrev pub table_words : ℕ → List ℕ
table_words kind =
    if kind == 1 then codes "a line of the table file is malformed" else
    if kind == 2 then codes "a code point is above 10FFFF" else
    if kind == 3 then codes "the same string of code points stands in an earlier line" else
    if kind == 4 then codes "a string of more than 64 code points, or more than 128 elements" else
    if kind == 5 then codes "an element has a weight at one level and zero at the next" else
    if kind == 6 then codes "a weight of an accent or of a third level is not above those of the levels before" else
    if kind == 7 then codes "an element is marked variable, and its first weight is zero" else
    if kind == 8 then codes "a weight between two variable ones is not variable" else
    if kind == 9 then codes "a string of three or more code points ends in a combining mark, and without the mark it has no row" else
    if kind == 10 then codes "a lead without a follower, a follower without a lead, or a variable first weight of FB00 or more" else
    if kind == 11 then codes "a range of implicit weights has a wrong end or base, is too wide, or overlaps an earlier one" else
    if kind == 12 then codes "the table has no row" else
    if kind == 13 then codes "more than 1,048,576 rows or 256 ranges" else
    codes "a request for memory was refused while the table was read"

-- of a pattern
abbrev pub pattern_words : ℕ → List ℕ
pattern_words kind =
    if kind == 21 then codes "the pattern has more than 65,536 bytes" else
    if kind == 22 then codes "the pattern has nothing that counts at this strength" else
    if kind == 23 then codes "the pattern has more than 30 combining marks in a row" else
    codes "a request for memory was refused for the pattern"

-- of a text
abbrev pub text_words : ℕ → List ℕ
text_words kind =
    if kind == 31 then codes "the text is not UTF-8 here, or ends amid a character" else
    if kind == 32 then codes "the thirty-first combining mark in a row" else
    if kind == 33 then codes "a character is decomposed into more than 4 code points" else
    if kind == 34 then codes "the text has more than 2^62 bytes" else
    if kind == 35 then codes "a request for memory was refused for a decomposition" else
    codes "a request for memory was refused for the search"

-- of the words of a search
abbrev pub state_words : ℕ → List ℕ
state_words kind =
    if kind == 51 then codes "the words are no saved search, or one of the other selection" else
    if kind == 52 then codes "the words are of another pattern, table, strength or weighting" else
    codes "a request for memory was refused for the saved search"

-- of a call
abbrev pub call_words : ℕ → List ℕ
call_words kind =
    if kind == 81 then codes "a request for memory was refused" else
    if kind == 82 then codes "the handle holds something else, or nothing" else
    if kind == 83 then codes "the search was finished or stopped" else
    if kind == 84 then codes "the buffer has room for fewer" else
    if kind == 85 then codes "an argument is none that the call takes" else
    codes "no fault has this number"

-- between two numbers, both included
abbrev pub is_among : ℕ → ℕ → ℕ → Bool
is_among low high kind = nat_le low kind && nat_le kind high

-- what is wrong, by the number of a fault
abbrev pub words : ℕ → List ℕ
words kind =
    if kind == 0 then codes "all is well" else
    if is_among 1 14 kind then table_words kind else
    if is_among 21 24 kind then pattern_words kind else
    if is_among 31 36 kind then text_words kind else
    if is_among 51 53 kind then state_words kind else
    if is_among 61 73 kind then table_words (kind - 60) else
    call_words kind

abbrev pub before_words : ℕ → List ℕ
before_words kind = if is_among 61 73 kind then codes ": in the tailor, " else codes ": "

-- the line of the program without its name, and words
abbrev pub message : Status → List ℕ
message s = codes "fault " ++ decimal s.kind ++ codes " at " ++ decimal s.at ++ before_words s.kind ++ words s.kind

-- a text in a buffer: as much of it as has room, a zero byte, and what stood behind that before; an empty buffer takes none
abbrev pub as_text : List ℕ → List ℕ → List ℕ
as_text text [] = []
as_text text (b ∷ before) = let n = min (length text) (length before) in take n text ++ 0 ∷ drop n before
