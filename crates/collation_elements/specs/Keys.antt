-- The keys of a text: its collation elements that are not ignorable up to a strength.
use Rattle.std.specs.Prelude.{ℕ, false, ◌&&◌, nat_lt, List, [], ◌∷◌, ◌++◌, flat_map, if◌then◌else◌}
use Rattle.nfd_points.specs.declared.points.Point.{Point}
use Rattle.collation_table.specs.declared.elements.Element.{Element}
use Rattle.collation_elements.specs.declared.settings.Variable.{Variable}
use Rattle.collation_elements.specs.declared.settings.Strength.{Strength}
use Rattle.collation_elements.specs.declared.settings.Strength.TheVariants.{One, Two, Three}
use Rattle.collation_elements.specs.declared.keys.Key.{Key}
use Rattle.collation_elements.specs.declared.keys.Key.TheVariants.{Primary, Pair, Secondary, Tertiary}
use Rattle.collation_table.specs.Table.{TableMap}
use Rattle.collation_table.specs.WellFormed.{is_lead, is_follower}
use Rattle.collation_elements.specs.Elements.{rows, weighted_rows}

-- a second and a third weight, or 0 where the strength does not reach them
abbrev pub second_at : Strength → ℕ → ℕ
second_at One w = 0
second_at Two w = w
second_at Three w = w

abbrev pub third_at : Strength → ℕ → ℕ
third_at One w = 0
third_at Two w = 0
third_at Three w = w

-- an element as a key, or none where it is ignorable up to the strength
abbrev pub element_keys : Strength → Element → List Key
element_keys strength e =
    let second = second_at strength e.w2 in
    let third = third_at strength e.w3 in
    if nat_lt 0 e.w1 then Primary e.w1 second third ∷ []
    else (if nat_lt 0 second then Secondary second third ∷ []
    else (if nat_lt 0 third then Tertiary third ∷ [] else []))

abbrev pub pair_key : Strength → Element → Element → Key
pair_key strength lead follower = Pair lead.w1 follower.w1 (second_at strength lead.w2) (third_at strength lead.w3)

-- the keys of a row, read from the left: a lead and its follower are one key
abbrev pub row_keys : Strength → List Element → List Key
row_keys strength [] = []
row_keys strength (e ∷ []) = element_keys strength e
row_keys strength (e ∷ f ∷ es) =
    let paired = pair_key strength e f ∷ row_keys strength es in
    let alone = element_keys strength e ++ row_keys strength (f ∷ es) in
    if is_lead e && is_follower f then paired else alone

-- the keys of a list of points
abbrev pub keys : TableMap → Strength → Variable → List Point → List Key
keys table strength variable ps = flat_map (row_keys strength) (weighted_rows variable false (rows table ps))
