-- Units, their elements and the places where clusters begin do not depend on where a text stands.
use Rattle.std.proofs.Common.{◌≡◌, ℕ, max, not, ◌&&◌, ◌||◌, List, [], ◌∷◌, ◌++◌, map, take, drop, refl, sym, ap, ap₂, ◌∙◌, inl, inr, unwrap_or}
use Rattle.std.proofs.lemmas.Bool.{cases_Bool}
use Rattle.std.proofs.lemmas.List.{map-append, take-map, drop-map}
use Rattle.std.specs.List.{list_any}
use Rattle.nfd_points.specs.declared.points.Point.{Point}
use Rattle.nfd_points.specs.Points.{is_starter, shifted}
use Rattle.collation_table.specs.Table.{TableMap, is_mapped, longest_prefix, row_of, implicit_pair}
use Rattle.collation_elements.specs.Units.{code_points, blocks, joins, Cut, extended, first_unit, units_within, units, prefix_length}
use Rattle.collation_elements.specs.Elements.{unit_row, begins_cluster, begins_primary}
use Rattle.collation_elements.proofs.ContextUnits.{extended-stop, extended-taken, extended-left, cut_at}

pub code_points-shift : (by : ℕ) (ps : List Point) → code_points (map (shifted by) ps) ≡ code_points ps
code_points-shift by [] = refl
code_points-shift by (p ∷ ps) = ap (λ l. p.cp ∷ l) (code_points-shift by ps)

list_any-shift : (by : ℕ) (c : Point) (between : List Point) → list_any (blocks (shifted by c)) (map (shifted by) between) ≡ list_any (blocks c) between
list_any-shift by c [] = refl
list_any-shift by c (b ∷ between) = ap (λ t. blocks c b || t) (list_any-shift by c between)

joins-shift : (table : TableMap) (by : ℕ) (unit between : List Point) (c : Point) → joins table (map (shifted by) unit) (map (shifted by) between) (shifted by c) ≡ joins table unit between c
joins-shift table by unit between c =
    ap₂ (λ t string. not t && is_mapped table string) (list_any-shift by c between)
    (ap code_points (sym (map-append (shifted by) unit (c ∷ []))) ∙ code_points-shift by (unit ++ c ∷ []))

abbrev pub shifted_cut : ℕ → Cut → Cut
shifted_cut by cut = record { unit = map (shifted by) cut.unit; rest = map (shifted by) cut.rest }

extended-shift : (table : TableMap) (by : ℕ) (unit between cs : List Point) → extended table (map (shifted by) unit) (map (shifted by) between) (map (shifted by) cs) ≡ shifted_cut by (extended table unit between cs)
extended-shift table by unit between [] = refl
extended-shift table by unit between (c ∷ cs) =
    elim (cases_Bool (is_starter c)) [
      | inl starter ↦
          extended-stop table (map (shifted by) unit) (map (shifted by) between) (shifted by c) (map (shifted by) cs) starter
          ∙ ap (λ l. record { unit = map (shifted by) unit; rest = l }) (sym (map-append (shifted by) between (c ∷ cs)))
          ∙ ap (shifted_cut by) (sym (extended-stop table unit between c cs starter))
      | inr mark ↦
          elim (cases_Bool (joins table unit between c)) [
            | inl joined ↦
                extended-taken table (map (shifted by) unit) (map (shifted by) between) (shifted by c) (map (shifted by) cs) mark (joins-shift table by unit between c ∙ joined)
                ∙ ap (λ l. extended table l (map (shifted by) between) (map (shifted by) cs)) (sym (map-append (shifted by) unit (c ∷ [])))
                ∙ extended-shift table by (unit ++ c ∷ []) between cs
                ∙ ap (shifted_cut by) (sym (extended-taken table unit between c cs mark joined))
            | inr stays ↦
                extended-left table (map (shifted by) unit) (map (shifted by) between) (shifted by c) (map (shifted by) cs) mark (joins-shift table by unit between c ∙ stays)
                ∙ ap (λ l. extended table (map (shifted by) unit) l (map (shifted by) cs)) (sym (map-append (shifted by) between (c ∷ [])))
                ∙ extended-shift table by unit (between ++ c ∷ []) cs
                ∙ ap (shifted_cut by) (sym (extended-left table unit between c cs mark stays))
          ]
    ]

cut_at-shift : (table : TableMap) (by n : ℕ) (ps : List Point) → cut_at table n (map (shifted by) ps) ≡ shifted_cut by (cut_at table n ps)
cut_at-shift table by n ps =
    ap₂ (λ prefix rest. extended table prefix [] rest) (take-map (shifted by) n ps) (drop-map (shifted by) n ps)
    ∙ extended-shift table by (take n ps) [] (drop n ps)

pub first_unit-shift : (table : TableMap) (by : ℕ) (p : Point) (ps : List Point) → first_unit table (shifted by p) (map (shifted by) ps) ≡ shifted_cut by (first_unit table p ps)
first_unit-shift table by p ps =
    ap (λ l. cut_at table (max 1 (longest_prefix table (p.cp ∷ l))) (map (shifted by) (p ∷ ps))) (code_points-shift by ps)
    ∙ cut_at-shift table by (prefix_length table (p ∷ ps)) (p ∷ ps)

units_within-shift : (fuel : List Point) (table : TableMap) (by : ℕ) (ps : List Point) → units_within (map (shifted by) fuel) table (map (shifted by) ps) ≡ map (map (shifted by)) (units_within fuel table ps)
units_within-shift [] table by ps = refl
units_within-shift (f ∷ fuel) table by [] = refl
units_within-shift (f ∷ fuel) table by (p ∷ ps) =
    ap (λ (cut : Cut). cut.unit ∷ units_within (map (shifted by) fuel) table cut.rest) (first_unit-shift table by p ps)
    ∙ ap (λ us. map (shifted by) (first_unit table p ps).unit ∷ us) (units_within-shift fuel table by (first_unit table p ps).rest)

pub units-shift : (table : TableMap) (by : ℕ) (ps : List Point) → units table (map (shifted by) ps) ≡ map (map (shifted by)) (units table ps)
units-shift table by ps = units_within-shift ps table by ps

pub unit_row-shift : (table : TableMap) (by : ℕ) (unit : List Point) → unit_row table (map (shifted by) unit) ≡ unit_row table unit
unit_row-shift table by [] = refl
unit_row-shift table by (p ∷ ps) = ap (λ l. unwrap_or (row_of table (p.cp ∷ l)) (implicit_pair table p.cp)) (code_points-shift by ps)

pub rows-shift : (table : TableMap) (by : ℕ) (us : List (List Point)) → map (unit_row table) (map (map (shifted by)) us) ≡ map (unit_row table) us
rows-shift table by [] = refl
rows-shift table by (u ∷ us) = ap₂ (λ x xs. x ∷ xs) (unit_row-shift table by u) (rows-shift table by us)

pub begins_cluster-shift : (table : TableMap) (by : ℕ) (unit : List Point) → begins_cluster table (map (shifted by) unit) ≡ begins_cluster table unit
begins_cluster-shift table by [] = refl
begins_cluster-shift table by (p ∷ ps) = ap (λ row. p.first && is_starter p && begins_primary row) (unit_row-shift table by (p ∷ ps))
