use Rattle.std.proofs.Common.{◌≡◌, ◌+◌, false, refl, sym, subst, All}
use Rattle.std.proofs.lemmas.Bool.{false≢true}
use Rattle.std.proofs.lemmas.List.Elements.{All-replicate}
use Rattle.collation_table.specs.Table.{TableMap}
use Rattle.collation_pattern.specs.Compiled.{Compiled}
use Rattle.collation_letters.specs.declared.letter.Letter.{Letter}
use Rattle.collation_letters.specs.declared.letter.Role.{Role}
use Rattle.collation_letters.specs.declared.letter.Role.TheVariants.{Steps, Plain}
use Rattle.collation_letters.specs.declared.places.Kept.{Kept}
use Rattle.collation_letters.specs.Store.{IsKept}
use Rattle.collation_letters.proofs.places.Places.new.Goals as goal

steps_or_plain : ◌≡◌ {A = Role} Steps Plain → ⊥
steps_or_plain h = cc

unknown : Letter
unknown = record { role = Steps; is_closed = false; is_apart = false; points = 0; class = 0; symbols = record { first = 255; second = 255; third = 255 } }

empty : Kept
unfolding unknown
empty = record { code_point = 4294967295; letter = unknown }

empty-kept : (table : TableMap) (pattern : Compiled) → IsKept table pattern empty
unfolding empty unknown
empty-kept table pattern =
    record { closed = λ yes. absurd (false≢true yes); apart = λ yes. absurd (false≢true yes); known = λ known. absurd (known refl); plain = λ plain. absurd (steps_or_plain plain) }

pub returns : goal.returns
unfolding empty unknown
returns c = λ table pattern.
    subst (All (IsKept table pattern)) (sym (c.in_ok-vec.ensures.items_if_clones_equal (λ y h. h)))
    (All-replicate (IsKept table pattern) (c.args.last + 1) empty (empty-kept table pattern))
