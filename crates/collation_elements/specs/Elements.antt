-- Collation elements of a text, before and after variable weighting, and its clusters (UTS #10, S2.2, 'Variable Weighting').
use Rattle.std.specs.Prelude.{Bool, true, false, ◌==◌, ◌||◌, ◌&&◌, nat_lt, List, [], ◌∷◌, map, flat_map, unwrap_or, if◌then◌else◌}
use Rattle.nfd_points.specs.declared.points.Point.{Point}
use Rattle.collation_table.specs.declared.elements.Element.{Element}
use Rattle.collation_elements.specs.declared.settings.Variable.{Variable}
use Rattle.collation_elements.specs.declared.settings.Variable.TheVariants.{NonIgnorable, Shifted}
use Rattle.collation_table.specs.Table.{TableMap, row_of, implicit_pair}
use Rattle.nfd_points.specs.Points.{is_starter}
use Rattle.collation_elements.specs.Units.{units, code_points}

-- S2.2: the row of a unit or, where it has none, the implicit pair of its one point
abbrev pub unit_row : TableMap → List Point → List Element
unit_row table [] = []
unit_row table (p ∷ ps) = unwrap_or (row_of table (code_points (p ∷ ps))) (implicit_pair table p.cp)

-- the rows of a list of points, unit by unit
abbrev pub rows : TableMap → List Point → List (List Element)
rows table ps = map (unit_row table) (units table ps)

-- the elements of a list of points, before variable weighting
abbrev pub raw_elements : TableMap → List Point → List Element
raw_elements table ps = flat_map (λ row. row) (rows table ps)

abbrev pub ignorable : Element
ignorable = record { is_variable = false; w1 = 0; w2 = 0; w3 = 0 }

-- after e, whether the last element that was variable or primary was variable
abbrev pub after_variable : Bool → Element → Bool
after_variable after e = if e.is_variable then true else (if nat_lt 0 e.w1 then false else after)

-- shifted weighting makes a variable element ignorable, and each primary ignorable one that follows it
abbrev pub shifted_element : Bool → Element → Element
shifted_element after e = if e.is_variable || (after && e.w1 == 0) then ignorable else e

-- one row under variable weighting; `after` says whether the last element before it that was variable or primary was variable
abbrev pub weighted_row : Variable → Bool → List Element → List Element
weighted_row NonIgnorable after es = es
weighted_row Shifted after [] = []
weighted_row Shifted after (e ∷ es) = shifted_element after e ∷ weighted_row Shifted (after_variable after e) es

-- the same of the element that the next row follows
abbrev pub after_row : Variable → Bool → List Element → Bool
after_row NonIgnorable after es = after
after_row Shifted after [] = after
after_row Shifted after (e ∷ es) = after_row Shifted (after_variable after e) es

abbrev pub weighted_rows : Variable → Bool → List (List Element) → List (List Element)
weighted_rows variable after [] = []
weighted_rows variable after (row ∷ rest) =
    weighted_row variable after row ∷ weighted_rows variable (after_row variable after row) rest

-- the elements of a list of points under variable weighting
abbrev pub elements : TableMap → Variable → List Point → List Element
elements table variable ps = flat_map (λ row. row) (weighted_rows variable false (rows table ps))

-- the first element of a row has a primary weight
abbrev pub begins_primary : List Element → Bool
begins_primary [] = false
begins_primary (e ∷ es) = nat_lt 0 e.w1

-- A unit of this first point and row begins a cluster where the point is the first of its code point's decomposition and a
-- starter, and the row's first element has a primary weight before variable weighting.
abbrev pub begins_cluster_with : Point → List Element → Bool
begins_cluster_with p row = p.first && is_starter p && begins_primary row

abbrev pub begins_cluster : TableMap → List Point → Bool
begins_cluster table [] = false
begins_cluster table (p ∷ ps) = begins_cluster_with p (unit_row table (p ∷ ps))
