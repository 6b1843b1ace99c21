-- The first line of a file, and the lines after it.
use Rattle.std.proofs.Common.{◌≡◌, ℕ, ◌<◌, cond, List, [], ◌∷◌, length, Some, None, refl, sym, ap, ◌∙◌, subst, arith}
use Rattle.std.proofs.lemmas.Bool.{ne_eqb}
use Rattle.std.specs.Str.Lines.{lines, lines_of_parts, strip_carriage_return}
use Rattle.collation_table.specs.Spelling.{split_once}
use Rattle.collation_table.proofs.Cuts.{parts, IsCut-from_some, parts-from_none, some_part}

-- a part before another one ends with a line's end
lines_of_parts-cons : (line : List ℕ) (ps : List (List ℕ)) (first : List ℕ) (more : List (List ℕ)) → ps ≡ first ∷ more → lines_of_parts (line ∷ ps) ≡ strip_carriage_return line ∷ lines_of_parts ps
lines_of_parts-cons line ps first more e =
    let P : List (List ℕ) → Type 0 = λ qs. lines_of_parts (line ∷ qs) ≡ strip_carriage_return line ∷ lines_of_parts qs in
    subst P (sym e) refl

pub lines-cut : (bytes line following : List ℕ) → split_once 10 bytes ≡ Some (line, following) → lines bytes ≡ strip_carriage_return line ∷ lines following
lines-cut bytes line following e =
    let some = some_part 10 following in
    ap lines_of_parts (IsCut-from_some 10 bytes line following e).parts_are ∙ lines_of_parts-cons line (parts 10 following) some.0 some.1 some.2

-- a last line with no end
last_of : (line : List ℕ) → 0 < length line → lines_of_parts (line ∷ []) ≡ line ∷ []
last_of [] h = absurd (omega arith)
last_of (b ∷ bytes) h = ap (λ t. cond t [] ((b ∷ bytes) ∷ [])) (ne_eqb (length (b ∷ bytes)) 0 (λ none. omega arith))

pub lines-uncut : (bytes : List ℕ) → 0 < length bytes → split_once 10 bytes ≡ None → lines bytes ≡ bytes ∷ []
lines-uncut bytes h e = ap lines_of_parts (parts-from_none 10 bytes e) ∙ last_of bytes h
