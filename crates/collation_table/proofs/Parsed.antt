-- The elements and the code points so far, and those of the parts that are left.
use Rattle.std.proofs.Common.{◌≡◌, ℕ, true, false, not, cond, eqb, List, [], ◌∷◌, ◌++◌, length, map, filter, Option, Some, None, option_map, refl, sym, ap, ◌∙◌, subst, append_assoc}
use Rattle.std.specs.List.{list_all, slice_split}
use Rattle.collation_table.specs.declared.elements.Element.{Element}
use Rattle.collation_table.specs.Spelling.{◌>>=◌, only_if, all_some, is_blank, split_once, some_of, bracketed_of, elements_of_parts, elements_of, code_point_of}
use Rattle.collation_table.proofs.Cuts.{parts, IsCut-from_some, parts-from_none, some_part}

-- the list of what is left after what was found
abbrev pub joined : {A : Type 0} → List A → Option (List A) → Option (List A)
joined xs more = option_map (λ ys. xs ++ ys) more

pub joined-push : {A : Type 0} (xs : List A) (x : A) (more : Option (List A)) → joined (xs ++ x ∷ []) more ≡ joined xs (option_map (λ ys. x ∷ ys) more)
joined-push xs x None = refl
joined-push xs x (Some ys) = ap Some (append_assoc xs (x ∷ []) ys)

pub joined-none : {A : Type 0} (more : Option (List A)) → joined [] more ≡ more
joined-none None = refl
joined-none (Some ys) = refl

-- Elements

-- the first element, and those after it
elements_of_parts-cons : (part : List ℕ) (ps : List (List ℕ)) (first : List ℕ) (more : List (List ℕ)) → ps ≡ first ∷ more → elements_of_parts (part ∷ ps) ≡ (bracketed_of part >>= λ e. option_map (λ es. e ∷ es) (elements_of_parts ps))
elements_of_parts-cons part ps first more e =
    let P : List (List ℕ) → Type 0 = λ qs. elements_of_parts (part ∷ qs) ≡ (bracketed_of part >>= λ e. option_map (λ es. e ∷ es) (elements_of_parts qs)) in
    subst P (sym e) refl

elements_of_parts-cut : (bytes part following : List ℕ) → split_once 93 bytes ≡ Some (part, following) → elements_of_parts (parts 93 bytes) ≡ (bracketed_of part >>= λ e. option_map (λ es. e ∷ es) (elements_of_parts (parts 93 following)))
elements_of_parts-cut bytes part following e =
    let some = some_part 93 following in
    ap elements_of_parts (IsCut-from_some 93 bytes part following e).parts_are ∙ elements_of_parts-cons part (parts 93 following) some.0 some.1 some.2

-- one more element was found
pub elements_more : (xs : List Element) (x : Element) (all : Option (List Element)) (bytes part following : List ℕ) → split_once 93 bytes ≡ Some (part, following) → bracketed_of part ≡ Some x → joined xs (elements_of_parts (parts 93 bytes)) ≡ all → joined (xs ++ x ∷ []) (elements_of_parts (parts 93 following)) ≡ all
elements_more xs x all bytes part following cut found before =
    joined-push xs x (elements_of_parts (parts 93 following))
    ∙ ap (λ o. joined xs (o >>= λ e. option_map (λ es. e ∷ es) (elements_of_parts (parts 93 following)))) (sym found)
    ∙ ap (joined xs) (sym (elements_of_parts-cut bytes part following cut)) ∙ before

-- a part is no element
pub elements_stop : (xs : List Element) (text bytes part following : List ℕ) → split_once 93 bytes ≡ Some (part, following) → bracketed_of part ≡ None → joined xs (elements_of_parts (parts 93 bytes)) ≡ elements_of_parts (parts 93 text) → elements_of text ≡ None
elements_stop xs text bytes part following cut found before =
    ap (λ o. o >>= λ es. some_of es) (sym before ∙ ap (joined xs) (elements_of_parts-cut bytes part following cut ∙ ap (λ o. o >>= λ e. option_map (λ es. e ∷ es) (elements_of_parts (parts 93 following))) found))

-- after the last element stand other bytes than blanks
pub elements_trail : (xs : List Element) (text bytes : List ℕ) → split_once 93 bytes ≡ None → joined xs (elements_of_parts (parts 93 bytes)) ≡ elements_of_parts (parts 93 text) → list_all is_blank bytes ≡ false → elements_of text ≡ None
elements_trail xs text bytes cut before blank =
    ap (λ o. o >>= λ es. some_of es) (sym before ∙ ap (λ ps. joined xs (elements_of_parts ps)) (parts-from_none 93 bytes cut) ∙ ap (λ t. joined xs (only_if t [])) blank)

-- Code points

-- the code points of the words among the parts
abbrev pub points_in : List (List ℕ) → Option (List ℕ)
points_in ps = all_some (map code_point_of (filter (λ word. not (eqb (length word) 0)) ps))

-- the parts of a mapped string between its blanks
abbrev pub pieces : List ℕ → List (List ℕ)
pieces bytes = slice_split is_blank bytes

pub points_in-empty : (ps : List (List ℕ)) (w : List ℕ) → eqb (length w) 0 ≡ true → points_in (w ∷ ps) ≡ points_in ps
points_in-empty ps w e = ap (λ t. all_some (map code_point_of (cond (not t) (w ∷ filter (λ word. not (eqb (length word) 0)) ps) (filter (λ word. not (eqb (length word) 0)) ps)))) e

pub points_in-none : (ps : List (List ℕ)) (w : List ℕ) → eqb (length w) 0 ≡ false → code_point_of w ≡ None → points_in (w ∷ ps) ≡ None
points_in-none ps w e none =
    ap (λ t. all_some (map code_point_of (cond (not t) (w ∷ filter (λ word. not (eqb (length word) 0)) ps) (filter (λ word. not (eqb (length word) 0)) ps)))) e
    ∙ ap (λ o. all_some (o ∷ map code_point_of (filter (λ word. not (eqb (length word) 0)) ps))) none

pub points_in-some : (ps : List (List ℕ)) (w : List ℕ) (cp : ℕ) → eqb (length w) 0 ≡ false → code_point_of w ≡ Some cp → points_in (w ∷ ps) ≡ option_map (λ string. cp ∷ string) (points_in ps)
points_in-some ps w cp e some =
    ap (λ t. all_some (map code_point_of (cond (not t) (w ∷ filter (λ word. not (eqb (length word) 0)) ps) (filter (λ word. not (eqb (length word) 0)) ps)))) e
    ∙ ap (λ o. all_some (o ∷ map code_point_of (filter (λ word. not (eqb (length word) 0)) ps))) some
