-- The first word of bytes, and the words after it.
use Rattle.std.proofs.Common.{◌≡◌, ℕ, ◌+◌, ◌<◌, Bool, true, false, not, cond, ltb, eqb, List, [], ◌∷◌, ◌++◌, length, take, drop, get_or, Option, Some, None, option_map, refl, sym, ap, ◌∙◌, arith, suc, add-one, drop-cons}
use Rattle.std.specs.List.{position_or_len}
use Rattle.std.proofs.lemmas.Bool.{ltb-true, ltb-false, ne_eqb, true≢false}
use Rattle.std.proofs.lemmas.Option.{none-some}
use Rattle.std.proofs.lemmas.List.{drop_all, take_all}
use Rattle.std.proofs.lemmas.List.Splits.{slice_split_first, slice_split_none, slice_split-cons_yes}
use Rattle.std.proofs.lemmas.List.Sums.{fails_before_first, passes_at_first}
use Rattle.collation_table.specs.Spelling.{is_blank, begins_with_blank, trim_start, code_point_of, string_of, some_of, ◌>>=◌}
use Rattle.collation_table.proofs.LineForms.{trim_start-blank, trim_start-other}
use Rattle.collation_table.proofs.Parsed.{joined, joined-push, points_in, pieces, points_in-empty, points_in-none, points_in-some}

trimmed_by : (t : Bool) (b : ℕ) (bytes : List ℕ) → is_blank b ≡ t → points_in (pieces (trim_start bytes)) ≡ points_in (pieces bytes) → points_in (pieces (trim_start (b ∷ bytes))) ≡ points_in (pieces (b ∷ bytes))
trimmed_by true b bytes e more =
    ap (λ bytes. points_in (pieces bytes)) (trim_start-blank b bytes e) ∙ more ∙ sym (ap points_in (slice_split-cons_yes is_blank b bytes e) ∙ points_in-empty (pieces bytes) [] refl)
trimmed_by false b bytes e more = ap (λ bytes. points_in (pieces bytes)) (trim_start-other b bytes e)

-- blanks before the first word change no code point
pub points_in-trimmed : (bytes : List ℕ) → points_in (pieces (trim_start bytes)) ≡ points_in (pieces bytes)
points_in-trimmed [] = refl
points_in-trimmed (b ∷ bytes) = trimmed_by (is_blank b) b bytes refl (points_in-trimmed bytes)

-- the first word and what stands from its end on
record FirstWord (bytes word following : List ℕ) : Type 0 where
  rest : List (List ℕ)
  pieces_are : pieces bytes ≡ word ∷ rest
  same_points : points_in rest ≡ points_in (pieces following)

abbrev place : List ℕ → ℕ
place bytes = position_or_len is_blank bytes

first_by : (t : Bool) (bytes : List ℕ) → ltb (place bytes) (length bytes) ≡ t → FirstWord bytes (take (place bytes) bytes) (drop (place bytes) bytes)
first_by true bytes h =
    let within = ltb-true (place bytes) (length bytes) h in
    let at : drop (place bytes) bytes ≡ get_or bytes (place bytes) 0 ∷ drop (place bytes + 1) bytes = rw (add-one, drop-cons bytes (place bytes) 0) refl in
    record {
      rest = pieces (drop (place bytes + 1) bytes);
      pieces_are = slice_split_first is_blank bytes 0 within;
      same_points = sym (ap (λ bytes. points_in (pieces bytes)) at
          ∙ ap points_in (slice_split-cons_yes is_blank (get_or bytes (place bytes) 0) (drop (place bytes + 1) bytes) (passes_at_first is_blank bytes 0 within))
          ∙ points_in-empty (pieces (drop (place bytes + 1) bytes)) [] refl);
    }
first_by false bytes h =
    let past = ltb-false (place bytes) (length bytes) h in
    record {
      rest = [];
      pieces_are = slice_split_none is_blank bytes (λ k d below. fails_before_first is_blank bytes k d (omega arith)) ∙ ap (λ w. w ∷ []) (sym (take_all (place bytes) bytes past));
      same_points = sym (ap (λ bytes. points_in (pieces bytes)) (drop_all (place bytes) bytes past));
    }

first_word : (bytes : List ℕ) → FirstWord bytes (take (place bytes) bytes) (drop (place bytes) bytes)
first_word bytes = first_by (ltb (place bytes) (length bytes)) bytes refl

full_from_some : (word : List ℕ) (cp : ℕ) → code_point_of word ≡ Some cp → eqb (length word) 0 ≡ false
full_from_some [] cp e = absurd (none-some cp e)
full_from_some (b ∷ word) cp e = ne_eqb (length (b ∷ word)) 0 (λ none. omega arith)

-- one more code point was found, and the blanks behind its word are passed over
pub points_on : (string : List ℕ) (cp : ℕ) (all : Option (List ℕ)) (bytes : List ℕ) → code_point_of (take (place bytes) bytes) ≡ Some cp → joined string (points_in (pieces bytes)) ≡ all → joined (string ++ cp ∷ []) (points_in (pieces (trim_start (drop (place bytes) bytes)))) ≡ all
points_on string cp all bytes found before =
    let w = first_word bytes in
    joined-push string cp (points_in (pieces (trim_start (drop (place bytes) bytes))))
    ∙ ap (λ more. joined string (option_map (λ string. cp ∷ string) more)) (points_in-trimmed (drop (place bytes) bytes) ∙ sym w.same_points)
    ∙ ap (joined string) (sym (ap points_in w.pieces_are ∙ points_in-some w.rest (take (place bytes) bytes) cp (full_from_some (take (place bytes) bytes) cp found) found))
    ∙ before

full_by : (t : Bool) (b : ℕ) (bytes : List ℕ) → is_blank b ≡ t → t ≡ false → eqb (length (take (place (b ∷ bytes)) (b ∷ bytes))) 0 ≡ false
full_by true b bytes h e = absurd (true≢false e)
full_by false b bytes h e =
    let one : cond (not (is_blank b)) (1 + place bytes) 0 ≡ suc (place bytes) = ap (λ t. cond (not t) (1 + place bytes) 0) h ∙ omega arith in
    ap (λ n. eqb (length (take n (b ∷ bytes))) 0) one ∙ ne_eqb (length (b ∷ take (place bytes) bytes)) 0 (λ none. omega arith)

full_word : (bytes : List ℕ) → 0 < length bytes → begins_with_blank bytes ≡ false → eqb (length (take (place bytes) bytes)) 0 ≡ false
full_word [] some blank = absurd (omega arith)
full_word (b ∷ bytes) some blank = full_by (is_blank b) b bytes refl blank

-- a word is no code point
pub points_none : (string text bytes : List ℕ) → 0 < length bytes → begins_with_blank bytes ≡ false → code_point_of (take (place bytes) bytes) ≡ None → joined string (points_in (pieces bytes)) ≡ points_in (pieces text) → string_of text ≡ None
points_none string text bytes some blank none before =
    let w = first_word bytes in
    ap (λ o. o >>= λ string. some_of string) (sym before ∙ ap (joined string) (ap points_in w.pieces_are ∙ points_in-none w.rest (take (place bytes) bytes) (full_word bytes some blank) none))
