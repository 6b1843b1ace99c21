-- What a saved state says, and its words: records of four words.
use Rattle.std.specs.Prelude.{ℕ, ◌+◌, ◌*◌, Bool, true, false, List, [], ◌∷◌, ◌++◌, length, Option, None, Some}
use Rattle.nfd_points.specs.declared.points.Point.{Point}
use Rattle.collation_elements.specs.declared.settings.Strength.{Strength}
use Rattle.collation_elements.specs.declared.settings.Strength.TheVariants.{One, Two, Three}
use Rattle.collation_elements.specs.declared.settings.Variable.{Variable}
use Rattle.collation_elements.specs.declared.settings.Variable.TheVariants.{NonIgnorable, Shifted}
use Rattle.collation_matches.specs.declared.faults.TextFault.{TextFault}
use Rattle.collation_matches.specs.declared.select.Select.{Select}
use Rattle.collation_matches.specs.declared.select.Select.TheVariants.{All, Chain}
use Rattle.collation_states.specs.declared.states.Sizes.{Sizes}
use Rattle.collation_states.specs.declared.states.Head.{Head}

-- ---- what a state says

-- where a key stands: the start of its cluster, and whether it is that cluster's first key
pub record SavedPlace : Type 0 where
  pub start : ℕ
  pub is_first : Bool

-- What a search holds between two bytes, beside the sizes and the settings.
--   taken: how many bytes it took
--   fault: what it reported; the text counts as ended there
--   held: the bytes that begin a character
--   after_variable: whether the last element that was variable or primary was variable, under shifted weighting
--   start, has_keys: where the current cluster starts, and whether it has keys
--   waits: whether a match waits for the end of that cluster
--   last_end: of a chain where the last range ends that was handed out, else 0
--   places: where the last keys stand, as many as have matched, oldest first
--   window, waiting: the points of which no unit was cut, and the non-starters that wait
pub record State : Type 0 where
  pub taken : ℕ
  pub fault : Option TextFault
  pub held : List ℕ
  pub after_variable : Bool
  pub start : ℕ
  pub has_keys : Bool
  pub waits : Bool
  pub last_end : ℕ
  pub places : List SavedPlace
  pub window : List Point
  pub waiting : List Point

-- after a fault: where it stands, and nothing else
abbrev pub reported : TextFault → State
reported f = record {
  taken = f.offset;
  fault = Some f;
  held = [];
  after_variable = false;
  start = 0;
  has_keys = false;
  waits = false;
  last_end = 0;
  places = [];
  window = [];
  waiting = [];
}

-- ---- single words and records

abbrev pub four : ℕ → ℕ → ℕ → ℕ → List ℕ
four a b c d = a ∷ b ∷ c ∷ d ∷ []

abbrev pub flag_word : Bool → ℕ
flag_word false = 0
flag_word true = 1

abbrev pub strength_word : Strength → ℕ
strength_word One = 1
strength_word Two = 2
strength_word Three = 3

abbrev pub variable_word : Variable → ℕ
variable_word NonIgnorable = 0
variable_word Shifted = 1

-- the form of a state: 1 where all ranges are handed out, 2 where a chain of them is
abbrev pub form_word : Select → ℕ
form_word All = 1
form_word Chain = 2

abbrev pub kind_word : Option TextFault → ℕ
kind_word None = 0
kind_word (Some f) = f.kind

abbrev pub fault_offset_word : Option TextFault → ℕ
fault_offset_word None = 0
fault_offset_word (Some f) = f.offset

-- bytes after a number, as one number: the first byte is the most significant
abbrev pub number_from : ℕ → List ℕ → ℕ
number_from before [] = before
number_from before (byte ∷ bytes) = number_from (before * 256 + byte) bytes

abbrev pub number_of : List ℕ → ℕ
number_of bytes = number_from 0 bytes

abbrev pub place_record : SavedPlace → List ℕ
place_record place = four place.start (flag_word place.is_first) 0 0

abbrev pub point_record : Point → List ℕ
point_record point = four point.cp point.offset (flag_word point.first) 0

abbrev pub place_words : List SavedPlace → List ℕ
place_words [] = []
place_words (place ∷ places) = place_record place ++ place_words places

abbrev pub point_words : List Point → List ℕ
point_words [] = []
point_words (point ∷ points) = point_record point ++ point_words points

-- ---- the words

-- the numbers of the first five records, beside the sizes and the settings
abbrev pub head_of : State → Head
head_of s = record {
  taken = s.taken;
  kind = kind_word s.fault;
  fault_offset = fault_offset_word s.fault;
  held_len = length s.held;
  held = number_of s.held;
  after_variable = flag_word s.after_variable;
  start = s.start;
  has_keys = flag_word s.has_keys;
  waits = flag_word s.waits;
  state = length s.places;
  window_len = length s.window;
  waiting_len = length s.waiting;
}

-- the five records that each state has
abbrev pub head_words : Sizes → Head → List ℕ
head_words r h =
    four (form_word r.select) r.pattern_len r.longest_key r.most_elements
    ++ four (strength_word r.strength) (variable_word r.variable) h.taken h.kind
    ++ four h.fault_offset h.held_len h.held h.after_variable
    ++ four h.start h.has_keys h.waits h.state
    ++ four h.window_len h.waiting_len 0 0

-- the record after them of a search for a chain
abbrev pub chain_record : Select → ℕ → List ℕ
chain_record All end = []
chain_record Chain end = four end 0 0 0

-- the records after these: the places of the last keys, the points in the window and those that wait
abbrev pub tail_words : State → List ℕ
tail_words s = place_words s.places ++ point_words s.window ++ point_words s.waiting

abbrev pub words : Sizes → State → List ℕ
words r s = head_words r (head_of s) ++ chain_record r.select s.last_end ++ tail_words s
