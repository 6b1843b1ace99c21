-- How a table file spells its lines: the file form of allkeys.txt (UTS #10, "Allkeys File Format"), with
-- the blanks and comments that this crate takes. A byte is a number below 256.
use Rattle.std.specs.Prelude.{ℕ, ◌+◌, ◌-◌, ◌*◌, Bool, true, false, ◌&&◌, ◌||◌, not, nat_le, nat_eq, ◌==◌, if◌then◌else◌, List, [], ◌∷◌, length, take, drop, map, filter, codes, Option, Some, None, option_map}
use Rattle.std.specs.Option.{option_map_or, option_or}
use Rattle.std.specs.List.{list_all, prefix_len, suffix_len, position, before_first, slice_split, starts_with}
use Rattle.collation_table.specs.declared.elements.Element.{Element}
use Rattle.collation_table.specs.declared.ranges.ImplicitRange.{ImplicitRange}

infixl 10 ◌>>=◌
-- nothing, if the first step gives nothing
abbrev pub ◌>>=◌ : {A B : Type 0} → Option A → (A → Option B) → Option B
None >>= f = None
(Some x) >>= f = f x

-- the value, where the condition holds
abbrev pub only_if : {A : Type 0} → Bool → A → Option A
only_if b x = if b then Some x else None

-- what each of the options has, where each has something
abbrev pub all_some : {A : Type 0} → List (Option A) → Option (List A)
all_some [] = Some []
all_some (None ∷ more) = None
all_some (Some x ∷ more) = option_map (λ xs. x ∷ xs) (all_some more)

-- The bytes between parts

abbrev pub full_stop : ℕ
full_stop = 46

abbrev pub semicolon : ℕ
semicolon = 59

abbrev pub asterisk : ℕ
asterisk = 42

abbrev pub closing_bracket : ℕ
closing_bracket = 93

abbrev pub number_sign : ℕ
number_sign = 35

-- Blanks and parts

-- a blank is a space or a tab
abbrev pub is_blank : ℕ → Bool
is_blank b = b == 32 || b == 9

abbrev pub begins_with_blank : List ℕ → Bool
begins_with_blank [] = false
begins_with_blank (b ∷ bytes) = is_blank b

-- without the blanks at the start
abbrev pub trim_start : List ℕ → List ℕ
trim_start bytes = drop (prefix_len is_blank bytes) bytes

-- without the blanks at the end
abbrev pub trim_end : List ℕ → List ℕ
trim_end bytes = take (length bytes - suffix_len is_blank bytes) bytes

-- without the blanks at both ends
abbrev pub trim : List ℕ → List ℕ
trim bytes = trim_end (trim_start bytes)

-- the words that stand between blanks
abbrev pub words : List ℕ → List (List ℕ)
words bytes = filter (λ word. not (length word == 0)) (slice_split is_blank bytes)

-- what stands before the first c and what stands after it, where there is one
abbrev pub split_once : ℕ → List ℕ → Option (List ℕ × List ℕ)
split_once c bytes = option_map (λ i. (take i bytes, drop (i + 1) bytes)) (position (λ b. b == c) bytes)

-- what stands after the text that the bytes begin with
abbrev pub after : List ℕ → List ℕ → Option (List ℕ)
after text bytes = only_if (starts_with nat_eq bytes text) (drop (length text) bytes)

-- Digits

-- a digit is one of `0` to `9` and `A` to `F`
abbrev pub hex_digit : ℕ → Option ℕ
hex_digit b =
    if nat_le 48 b && nat_le b 57 then Some (b - 48) else
    (if nat_le 65 b && nat_le b 70 then Some (b - 55) else None)

-- the number that digits spell which stand after the number n
abbrev pub hex_after : ℕ → List ℕ → Option ℕ
hex_after n [] = Some n
hex_after n (b ∷ bytes) = hex_digit b >>= λ d. hex_after (n * 16 + d) bytes

-- a code point is four to six digits
abbrev pub code_point_of : List ℕ → Option ℕ
code_point_of bytes = if nat_le 4 (length bytes) && nat_le (length bytes) 6 then hex_after 0 bytes else None

-- a weight is four digits
abbrev pub weight_of : List ℕ → Option ℕ
weight_of bytes = if length bytes == 4 then hex_after 0 bytes else None

-- Elements

-- `*` marks a variable element, `.` one that is not
abbrev pub mark_of : ℕ → Option Bool
mark_of b = if b == asterisk then Some true else (if b == full_stop then Some false else None)

-- three weights with `.` between them
unfoldable pub weights_of : Bool → List ℕ → Option Element
weights_of is_variable bytes = do
  first ← split_once full_stop bytes
  second ← split_once full_stop first.1
  w1 ← weight_of first.0
  w2 ← weight_of second.0
  w3 ← weight_of second.1
  Some (record { is_variable = is_variable; w1 = w1; w2 = w2; w3 = w3 })

-- what stands between the brackets of an element: a mark and the weights
abbrev pub element_of : List ℕ → Option Element
element_of [] = None
element_of (mark ∷ weights) = mark_of mark >>= λ is_variable. weights_of is_variable weights

-- what stands before the `]` of an element: blanks, `[` and the element
unfoldable pub bracketed_of : List ℕ → Option Element
bracketed_of bytes = after (codes "[") (trim_start bytes) >>= λ inside. element_of inside

-- each part but the last is an element without its `]`; after the last `]` are only blanks
abbrev pub elements_of_parts : List (List ℕ) → Option (List Element)
elements_of_parts [] = None
elements_of_parts (following ∷ []) = only_if (list_all is_blank following) []
elements_of_parts (part ∷ next ∷ parts) = bracketed_of part >>= λ e. option_map (λ es. e ∷ es) (elements_of_parts (next ∷ parts))

-- what is not empty
abbrev pub some_of : {A : Type 0} → List A → Option (List A)
some_of xs = if length xs == 0 then None else Some xs

-- one or more elements
abbrev pub elements_of : List ℕ → Option (List Element)
elements_of bytes = elements_of_parts (slice_split (λ b. b == closing_bracket) bytes) >>= λ es. some_of es

-- one or more code points, with blanks between them
abbrev pub string_of : List ℕ → Option (List ℕ)
string_of bytes = all_some (map code_point_of (words bytes)) >>= λ string. some_of string

-- Lines

-- what a line says
pub data Form : Type 0 where
  Empty : Form
  Version : Form
  Range : ImplicitRange → Form
  Entry : List ℕ → List Element → Form

-- nothing, or a blank and any bytes
abbrev pub ends_word : List ℕ → Bool
ends_word [] = true
ends_word (b ∷ bytes) = is_blank b

-- whether a line is `@version`, then nothing, or a blank and any bytes
unfoldable pub is_version : List ℕ → Bool
is_version bytes = option_map_or ends_word (after (codes "@version") (trim_start bytes)) false

-- `@implicitweights`, a blank, and `FIRST..LAST; BASE`
unfoldable pub range_of : List ℕ → Option ImplicitRange
range_of bytes = do
  following ← after (codes "@implicitweights") (trim_start bytes)
  text ← only_if (begins_with_blank following) following
  parts ← split_once semicolon text
  ends ← split_once full_stop parts.0
  second ← after (codes ".") ends.1
  first ← code_point_of (trim ends.0)
  last ← code_point_of (trim second)
  base ← weight_of (trim parts.1)
  Some (record { first = first; last = last; base = base })

-- a mapped string, `;` and elements
unfoldable pub entry_of : List ℕ → Option Form
entry_of bytes = do
  parts ← split_once semicolon bytes
  string ← string_of parts.0
  elements ← elements_of parts.1
  Some (Entry string elements)

-- what a line says whose end and comment were taken away, where it has one of the four forms
unfoldable pub form_of : List ℕ → Option Form
form_of bytes =
    if list_all is_blank bytes then Some Empty else
    (if is_version bytes then Some Version else option_or (option_map Range (range_of bytes)) (entry_of bytes))

-- what a line says, whose comment begins at the first `#`
abbrev pub line_form : List ℕ → Option Form
line_form line = form_of (before_first (λ b. b == number_sign) line)

-- opens all of the above, to compute what a line says
unfoldable pub the_spelling : Unit {0}
unfolding weights_of bracketed_of is_version range_of entry_of form_of
the_spelling = tt
