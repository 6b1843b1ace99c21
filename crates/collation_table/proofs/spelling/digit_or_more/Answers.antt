-- The table, byte by byte.
use Rattle.std.proofs.Common.{◌≡◌, ℕ, ◌<◌, Bool, true, ◌&&◌, leb, eqb, get_or, ◌≤◌, refl, ap, sym, subst, ◌∙◌}
use Rattle.std.specs.Option.{unwrap_or}
use Rattle.std.proofs.lemmas.Bool.{agree_below_at, and_parts, eqb-true, leb-true}
use Rattle.collation_table.specs.declared.spelling.TheConstants.{DIGIT_VALUES}
use Rattle.collation_table.specs.Spelling.{hex_digit}
use Rattle.collation_table.proofs.spelling.digit_or_more.Goals as goal

abbrev is_right : ℕ → Bool
is_right b = eqb (get_or DIGIT_VALUES b 0) (unwrap_or (hex_digit b) 65536) && leb (get_or DIGIT_VALUES b 0) 65536

right_at : (b : ℕ) → b < 256 → is_right b ≡ true
right_at b below = agree_below_at is_right (λ _. true) 256 b refl below

pub returns-clause-value : goal.returns-clause-value
returns-clause-value c =
    let below : c.args.byte < 256 = c.ranges.byte.fits in
    ap (λ b. get_or DIGIT_VALUES b 0) c.from.ensures ∙ eqb-true _ _ (and_parts (eqb (get_or DIGIT_VALUES c.args.byte 0) (unwrap_or (hex_digit c.args.byte) 65536)) _ (right_at c.args.byte below)).0

pub returns-clause-within : goal.returns-clause-within
returns-clause-within c =
    let below : c.args.byte < 256 = c.ranges.byte.fits in
    let within : get_or DIGIT_VALUES c.args.byte 0 ≤ 65536 = leb-true _ _ (and_parts (eqb (get_or DIGIT_VALUES c.args.byte 0) (unwrap_or (hex_digit c.args.byte) 65536)) _ (right_at c.args.byte below)).1 in
    subst (λ b. get_or DIGIT_VALUES b 0 ≤ 65536) (sym c.from.ensures) within
