-- A line told by its first byte that is no blank.
use Rattle.std.proofs.Common.{◌≡◌, ◌≢◌, ℕ, suc, codes, ◌+◌, ◌<◌, Bool, true, false, ◌&&◌, cond, nat_eq, List, [], ◌∷◌, length, take, drop, get_or, Option, Some, None, option_map, refl, sym, ap, ◌∙◌, arith, length-drop}
use Rattle.std.specs.List.{list_all, prefix_len}
use Rattle.std.specs.Cmp.Lexicographic.{pointwise}
use Rattle.std.specs.Option.{option_or, option_map_or}
use Rattle.std.proofs.lemmas.Bool.{ne_eqb}
use Rattle.std.proofs.lemmas.Option.{none-some}
use Rattle.std.proofs.lemmas.List.Folds.{list_all_at}
use Rattle.std.proofs.lemmas.List.Sums.{prefix_len_stops}
use Rattle.collation_table.specs.declared.ranges.ImplicitRange.{ImplicitRange}
use Rattle.collation_table.specs.Spelling.{Form, Empty, Version, Range, is_blank, begins_with_blank, trim_start, after, ends_word, is_version, range_of, entry_of, form_of}

drop_one_more : (n b : ℕ) (bytes : List ℕ) → drop (1 + n) (b ∷ bytes) ≡ drop n bytes
drop_one_more n b bytes =
    let e : 1 + n ≡ suc n = omega arith in
    ap (λ k. drop k (b ∷ bytes)) e

pub trim_start-blank : (b : ℕ) (bytes : List ℕ) → is_blank b ≡ true → trim_start (b ∷ bytes) ≡ trim_start bytes
trim_start-blank b bytes e = ap (λ t. drop (cond t (1 + prefix_len is_blank bytes) 0) (b ∷ bytes)) e ∙ drop_one_more (prefix_len is_blank bytes) b bytes

pub trim_start-other : (b : ℕ) (bytes : List ℕ) → is_blank b ≡ false → trim_start (b ∷ bytes) ≡ b ∷ bytes
trim_start-other b bytes e = ap (λ t. drop (cond t (1 + prefix_len is_blank bytes) 0) (b ∷ bytes)) e

begins_by : (t : Bool) (b : ℕ) (bytes : List ℕ) → is_blank b ≡ t → begins_with_blank (trim_start bytes) ≡ false → begins_with_blank (trim_start (b ∷ bytes)) ≡ false
begins_by true b bytes e more = ap begins_with_blank (trim_start-blank b bytes e) ∙ more
begins_by false b bytes e more = ap begins_with_blank (trim_start-other b bytes e) ∙ e

-- no blank is left in front
pub begins_with_blank-trimmed : (bytes : List ℕ) → begins_with_blank (trim_start bytes) ≡ false
begins_with_blank-trimmed [] = refl
begins_with_blank-trimmed (b ∷ bytes) = begins_by (is_blank b) b bytes refl (begins_with_blank-trimmed bytes)

blank_by : (t : Bool) (b : ℕ) (bytes : List ℕ) → is_blank b ≡ t → (length (trim_start bytes) ≡ 0 → list_all is_blank bytes ≡ true) → length (trim_start (b ∷ bytes)) ≡ 0 → list_all is_blank (b ∷ bytes) ≡ true
blank_by true b bytes e more none =
    let rest = ap (λ t. length (drop (cond t (1 + prefix_len is_blank bytes) 0) (b ∷ bytes))) e in
    ap (λ t. t && list_all is_blank bytes) e ∙ more (sym (ap length (drop_one_more (prefix_len is_blank bytes) b bytes)) ∙ sym rest ∙ none)
blank_by false b bytes e more none =
    absurd (omega (arith, sym (ap (λ t. length (drop (cond t (1 + prefix_len is_blank bytes) 0) (b ∷ bytes))) e) ∙ none))

-- nothing stands behind the blanks
all_blank : (bytes : List ℕ) → length (trim_start bytes) ≡ 0 → list_all is_blank bytes ≡ true
all_blank [] none = refl
all_blank (b ∷ bytes) none = blank_by (is_blank b) b bytes refl (all_blank bytes) none

pub form_of-empty : (bytes : List ℕ) → length (trim_start bytes) ≡ 0 → form_of bytes ≡ Some Empty
unfolding form_of
form_of-empty bytes none = rw (all_blank bytes none) refl

-- something does
some_not_blank : (bytes : List ℕ) → 0 < length (trim_start bytes) → list_all is_blank bytes ≡ false
some_not_blank bytes some =
    let within : prefix_len is_blank bytes < length bytes = omega (arith, length-drop (prefix_len is_blank bytes) bytes) in
    list_all_at is_blank bytes (prefix_len is_blank bytes) 0 within (prefix_len_stops is_blank bytes 0 within)

-- what a directive is, if the line is one
abbrev directive : Bool → Option ImplicitRange → Option Form
directive version range = cond version (Some Version) (option_map Range range)

some_by : (version : Bool) (range : Option ImplicitRange) (entry : Option Form) (found : Form) → directive version range ≡ Some found → cond version (Some Version) (option_or (option_map Range range) entry) ≡ Some found
some_by true range entry found e = e
some_by false (Some range) entry found e = e
some_by false None entry found e = absurd (none-some found e)

none_by : (version : Bool) (range : Option ImplicitRange) (entry : Option Form) → directive version range ≡ None → cond version (Some Version) (option_or (option_map Range range) entry) ≡ entry
none_by true range entry e = absurd (none-some Version (sym e))
none_by false (Some range) entry e = absurd (none-some (Range range) (sym e))
none_by false None entry e = refl

pub form_of-directive : (bytes : List ℕ) (found : Form) → 0 < length (trim_start bytes) → directive (is_version bytes) (range_of bytes) ≡ Some found → form_of bytes ≡ Some found
unfolding form_of
form_of-directive bytes found some e = rw (some_not_blank bytes some) (some_by (is_version bytes) (range_of bytes) (entry_of bytes) found e)

pub form_of-no_directive : (bytes : List ℕ) → 0 < length (trim_start bytes) → directive (is_version bytes) (range_of bytes) ≡ None → form_of bytes ≡ entry_of bytes
unfolding form_of
form_of-no_directive bytes some e = rw (some_not_blank bytes some) (none_by (is_version bytes) (range_of bytes) (entry_of bytes) e)

-- another first byte begins no directive
after_other : (text bytes : List ℕ) → get_or bytes 0 0 ≢ 64 → after (64 ∷ text) bytes ≡ None
after_other text [] other = refl
after_other text (b ∷ bytes) other =
    ap (λ t. cond (t && pointwise nat_eq text (take (length text) bytes)) (Some (drop (length text) bytes)) None) (ne_eqb 64 b (λ same. other (sym same)))

no_version : (bytes : List ℕ) → get_or (trim_start bytes) 0 0 ≢ 64 → is_version bytes ≡ false
unfolding is_version
no_version bytes other = ap (λ o. option_map_or ends_word o false) (after_other (codes "version") (trim_start bytes) other)

no_range : (bytes : List ℕ) → get_or (trim_start bytes) 0 0 ≢ 64 → range_of bytes ≡ None
unfolding range_of
no_range bytes other = rw (after_other (codes "implicitweights") (trim_start bytes) other) refl

pub no_directive : (bytes : List ℕ) → get_or (trim_start bytes) 0 0 ≢ 64 → directive (is_version bytes) (range_of bytes) ≡ None
no_directive bytes other = ap (λ t. directive t (range_of bytes)) (no_version bytes other) ∙ ap (λ r. directive false r) (no_range bytes other)
