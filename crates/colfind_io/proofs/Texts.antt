-- The lines of a range, sign by sign, and that they are text.
use Rattle.std.proofs.Common.{◌≡◌, ℕ, ◌<◌, ◌^◌, List, [], ◌∷◌, ◌++◌, ◌∙◌, append_assoc, subst, sym, arith}
use Rattle.std.specs.Prelude.{codes}
use Rattle.std.specs.Str.{IsUtf8}
use Rattle.std.specs.Fmt.{decimal}
use Rattle.std.proofs.lemmas.Fmt.{IsAscii-decimal}
use Rattle.std.proofs.lemmas.Str.{IsUtf8-append, IsUtf8-from_ascii}
use Rattle.std.proofs.lemmas.Str.Ascii.{IsAscii-cons, IsAscii-nil}
use Rattle.colfind_io.specs.Printing.{range_line, mark_lines}

pub range_line-by_signs : (start end : ℕ) → range_line (start, end) ≡ decimal start ++ 58 ∷ (decimal end ++ 10 ∷ [])
range_line-by_signs start end =
    append_assoc (decimal start ++ codes ":") (decimal end) (codes "\n")
    ∙ append_assoc (decimal start) (codes ":") (decimal end ++ codes "\n")

pub mark_lines-by_signs : (start end : ℕ) → mark_lines (start, end) ≡ 91 ∷ (decimal start ++ 10 ∷ 93 ∷ (decimal end ++ 10 ∷ []))
mark_lines-by_signs start end =
    append_assoc (codes "[" ++ decimal start ++ codes "\n]") (decimal end) (codes "\n")
    ∙ append_assoc (codes "[" ++ decimal start) (codes "\n]") (decimal end ++ codes "\n")

with_number : (n : ℕ) (rest : List ℕ) → n < 2 ^ 64 → IsUtf8 rest → IsUtf8 (decimal n ++ rest)
with_number n rest small text = IsUtf8-append (decimal n) rest (IsUtf8-from_ascii (decimal n) (IsAscii-decimal n small)) text

with_sign : (sign : ℕ) (rest : List ℕ) → sign < 128 → IsUtf8 rest → IsUtf8 (sign ∷ rest)
with_sign sign rest small text = IsUtf8-append (sign ∷ []) rest (IsUtf8-from_ascii (sign ∷ []) (IsAscii-cons sign [] small IsAscii-nil)) text

newline : IsUtf8 (10 ∷ [])
newline = IsUtf8-from_ascii (10 ∷ []) (IsAscii-cons 10 [] (omega arith) IsAscii-nil)

pub range_line-is_text : (start end : ℕ) → start < 2 ^ 64 → end < 2 ^ 64 → IsUtf8 (range_line (start, end))
range_line-is_text start end s e =
    subst IsUtf8 (sym (range_line-by_signs start end)) (with_number start _ s (with_sign 58 _ (omega arith) (with_number end _ e newline)))

pub mark_lines-is_text : (start end : ℕ) → start < 2 ^ 64 → end < 2 ^ 64 → IsUtf8 (mark_lines (start, end))
mark_lines-is_text start end s e =
    subst IsUtf8 (sym (mark_lines-by_signs start end))
    (with_sign 91 _ (omega arith) (with_number start _ s (with_sign 10 _ (omega arith) (with_sign 93 _ (omega arith) (with_number end _ e newline)))))
