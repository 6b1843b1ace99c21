-- The worked rows, proved by computing both sides.
use Rattle.std.specs.Char.{encode_utf8}
use Rattle.std.specs.Str.{chars}
use Rattle.std.proofs.Common.{refl}
use Rattle.unicode_normalization.proofs.Computing.{unicode_normalization}
use Rattle.nfd_points.specs.Points.{byte_len, points_at, points_from, is_reorderable, is_in_order, sink, ordered}
use Rattle.collation_safe.specs.WorkedRows.{CharactersWithoutRows, ContractionOfLetters, EachLetterContinuesAString, IgnorableString, MarksAndIgnorables, OffsetsOfText, VowelsBeforeConsonants}

-- `unfolding rows` lets `refl` compute a row
unfoldable rows : Unit {0}
unfolding unicode_normalization byte_len points_at points_from is_reorderable is_in_order sink ordered chars encode_utf8
rows = tt

pub contraction_of_letters_lem : ContractionOfLetters
unfolding rows
contraction_of_letters_lem = record { first = refl; letter = refl; blank = refl; second = refl }

pub marks_and_ignorables_lem : MarksAndIgnorables
unfolding rows
marks_and_ignorables_lem = record { acute = refl; cedilla = refl; circle = refl; soft_hyphen = refl; virama = refl; composed = refl }

pub characters_without_rows_lem : CharactersWithoutRows
unfolding rows
characters_without_rows_lem = record { syllable = refl; leading = refl; vowel = refl; ideograph = refl; consonant = refl }

pub vowels_before_consonants_lem : VowelsBeforeConsonants
unfolding rows
vowels_before_consonants_lem = record { thai_vowel = refl; thai_consonant = refl; later_vowel = refl; lao_vowel = refl; lao_consonant = refl }

pub each_letter_continues_a_string_lem : EachLetterContinuesAString
unfolding rows
each_letter_continues_a_string_lem = refl

pub ignorable_string_lem : IgnorableString
unfolding rows
ignorable_string_lem = refl

pub offsets_of_text_lem : OffsetsOfText
unfolding rows
offsets_of_text_lem = record {
  first = record { character = 0x61; whole = (refl, refl); safe = refl };
  second = record { character = 0x63; whole = (refl, refl); safe = refl };
  boundaries_are = refl;
}
