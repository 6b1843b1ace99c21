-- Where the units of a letter's characters end.
use Rattle.std.specs.Char.{len_utf8}
use Rattle.std.proofs.lemmas.Bool.{false≢true}
use Rattle.std.proofs.Common.{◌≡◌, ◌≢◌, ◌∙◌, ◌⊎◌, ℕ, ◌+◌, Bool, true, false, List, [], ◌∷◌, ◌++◌, length, map, flat_map, Option, inl, inr, refl, sym, ap, subst, arith, length-append}
use Rattle.nfd_points.specs.declared.points.Point.{Point}
use Rattle.nfd_points.specs.Points.{decomposition, byte_len, points_of, points_from, shifted, ordered, is_starter, begins_with_starter}
use Rattle.nfd_points.specs.Laws.{OrderingIsShifted, PointsAreShifted}
use Rattle.nfd_points.proofs.OrderingLemmas.{length-ordered}
use Rattle.collation_table.specs.Table.{TableMap, ContinuesNoString}
use Rattle.collation_elements.specs.Units.{units}
use Rattle.collation_pattern.specs.Compiled.{Compiled}
use Rattle.collation_letters.specs.declared.letter.Letter.{Letter}
use Rattle.collation_letters.specs.declared.letter.Role.{Role}
use Rattle.collation_letters.specs.declared.letter.Role.TheVariants.{Steps, Plain, Base, VariableBase, Silent, PrimaryMark, Mark}
use Rattle.collation_letters.specs.Letters.{is_mark, counted, ordered_from, IsLetter, IsLetterAt}
use Rattle.collation_letters.specs.Apart.{IsNext}
use Rattle.collation_letters.specs.Laws.{LetterLaws}
use Rattle.collation_letters.proofs.ApartLemmas.{begins_anywhere, from_one, many_at}
use Rattle.collation_letters.proofs.CharacterLemmas.{apart-at, points_are_shifted}

-- a letter that is taken is not left to the steps
pub taken-known : (r : Role) → (r ≡ Plain ⊎ (r ≡ Base ⊎ (r ≡ VariableBase ⊎ r ≡ Silent))) → r ≢ Steps
taken-known r which = λ steps. elim which [
  | inl plain ↦ absurd (plain_or_steps (sym plain ∙ steps))
  | inr base_or_other ↦ elim base_or_other [
    | inl base ↦ absurd (base_or_steps (sym base ∙ steps))
    | inr other ↦ elim other [
      | inl variable ↦ absurd (variable_or_steps (sym variable ∙ steps))
      | inr silent ↦ absurd (silent_or_steps (sym silent ∙ steps))
    ]
  ]
]
  where
    plain_or_steps : ◌≡◌ {A = Role} Plain Steps → ⊥
    plain_or_steps h = cc

    base_or_steps : ◌≡◌ {A = Role} Base Steps → ⊥
    base_or_steps h = cc

    variable_or_steps : ◌≡◌ {A = Role} VariableBase Steps → ⊥
    variable_or_steps h = cc

    silent_or_steps : ◌≡◌ {A = Role} Silent Steps → ⊥
    silent_or_steps h = cc

-- and is no mark
pub taken-no_mark : (r : Role) → (r ≡ Plain ⊎ (r ≡ Base ⊎ (r ≡ VariableBase ⊎ r ≡ Silent))) → is_mark r ≡ false
taken-no_mark r which = elim which [
  | inl plain ↦ ap is_mark plain
  | inr base_or_other ↦ elim base_or_other [
    | inl base ↦ ap is_mark base
    | inr other ↦ elim other [
      | inl variable ↦ ap is_mark variable
      | inr silent ↦ ap is_mark silent
    ]
  ]
]

pub plain-known : (r : Role) → r ≡ Plain → r ≢ Steps
plain-known r plain = taken-known r (inl plain)

-- ---- where units end

many_from : (start : ℕ) (cs : List ℕ) → length (points_from start cs) ≡ length (flat_map decomposition cs)
unfolding points_from
many_from start [] = refl
many_from start (c ∷ cs) =
    let one = many_at start true (decomposition c) in
    let rest = many_from (start + len_utf8 c) cs in
    omega (arith, one, rest, length-append (points_of start c) (points_from (start + len_utf8 c) cs), length-append (decomposition c) (flat_map decomposition cs))

abbrev pub BeforeLaw : Type 0
BeforeLaw =
    (table : TableMap) (ps : List Point) (d : Point) (more : List Point) → is_starter d ≡ true → ContinuesNoString table d.cp → units table (ps ++ d ∷ more) ≡ units table ps ++ units table (d ∷ more)

pub next-of_letter : LetterLaws → OrderingIsShifted → PointsAreShifted → BeforeLaw → (depth : Option ℕ) (table : TableMap) (pattern : Compiled) (at : ℕ) (cs : List ℕ) (next : ℕ) (letter following : Letter) → letter.role ≢ Steps →
    begins_with_starter (points_from 0 (next ∷ [])) ≡ true → (letter.is_closed ≡ true ⊎ following.is_apart ≡ true) → IsLetterAt depth table pattern (ordered_from 0 cs) letter → IsLetter table pattern (next ∷ []) following →
    IsNext table at cs next
next-of_letter laws ordering shift before depth table pattern at cs next letter following known starter which h f =
    let k = h.known known in
    let here : ordered_from at cs ≡ map (shifted at) (ordered_from 0 cs) = ap ordered (points_are_shifted shift at cs) ∙ ordering at (points_from 0 cs) in
    record {
      good = laws.few cs (let few = k.few in let many = many_from 0 cs in let same = length-ordered (points_from 0 cs) in omega (arith, few, many, same));
      begins = begins_anywhere 0 (at + byte_len cs) next (ap begins_with_starter (sym (from_one 0 next)) ∙ starter);
      ends = elim which [
        | inl closed ↦ λ x is more.
            subst (λ (qs : List Point). units table (qs ++ x ∷ more) ≡ units table qs ++ units table (x ∷ more)) (sym here) (h.closed closed at (x ∷ more))
        | inr apart ↦ λ x is more.
            let first = apart-at shift table pattern next following (at + byte_len cs) apart f x is in before table (ordered_from at cs) x more first.0 first.1
      ];
    }

-- behind characters that begin with a starter all symbols count
pub starter-counted : {A : Type 0} (r : Role) (after : Bool) (xs : List A) → is_mark r ≡ false → counted r after xs ≡ xs
starter-counted Steps after xs h = refl
starter-counted Plain after xs h = refl
starter-counted Base after xs h = refl
starter-counted VariableBase after xs h = refl
starter-counted Silent after xs h = refl
starter-counted PrimaryMark after xs h = refl
starter-counted Mark after xs h = absurd (false≢true (sym h))
