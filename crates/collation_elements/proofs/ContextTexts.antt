-- Where a cluster begins, the units of a text are those of the text before it and those of the text from there on.
use Rattle.std.proofs.Common.{◌≡◌, true, ◌&&◌, List, [], ◌∷◌, sym, ap, ◌∙◌, subst}
use Rattle.std.proofs.lemmas.Bool.{and_parts}
use Rattle.nfd_points.specs.declared.points.Point.{Point}
use Rattle.nfd_points.specs.Points.{byte_len, is_starter, points}
use Rattle.collation_table.specs.Table.{TableMap}
use Rattle.collation_elements.specs.Units.{first_unit, units}
use Rattle.collation_elements.specs.Context.{UnitsPartWhereClustersBegin}
use Rattle.collation_elements.specs.Elements.{unit_row, begins_primary, begins_cluster}
use Rattle.collation_elements.proofs.ContextUnits.{CutsOff, CutsOff-from, CutsOff-suffix, CutsOff-prefix, first_unit-head, units-cons}
use Rattle.collation_elements.proofs.ContextOffsets.{units-shift}
use Rattle.collation_elements.proofs.PointLaws.{PointLaws}

-- a unit that begins a cluster begins with a starter that is the first point of its code point
pub begins_cluster-parts : (table : TableMap) (p : Point) (ps : List Point) → begins_cluster table (p ∷ ps) ≡ true → (p.first ≡ true) × (is_starter p ≡ true) × (begins_primary (unit_row table (p ∷ ps)) ≡ true)
begins_cluster-parts table p ps h =
    let parts = and_parts (p.first && is_starter p) (begins_primary (unit_row table (p ∷ ps))) h in
    let heads = and_parts p.first (is_starter p) parts.0 in
    (heads.0, heads.1, parts.1)

-- points whose first unit begins with p begin with p
units-first : (table : TableMap) (rest : List Point) (p : Point) (ps : List Point) (vs : List (List Point)) → units table rest ≡ (p ∷ ps) ∷ vs → (later : List Point) × (rest ≡ p ∷ later)
units-first table [] p ps vs e = absurd cc
units-first table (q ∷ qs) p ps vs e =
    let head = first_unit-head table q qs in
    let both : (first_unit table q qs).unit ∷ units table (first_unit table q qs).rest ≡ (p ∷ ps) ∷ vs = sym (units-cons table q qs) ∙ e in
    let unit : q ∷ head.0 ≡ p ∷ ps = sym head.1 ∙ cc in
    let same : q ≡ p = cc in
    (qs, ap (λ x. x ∷ qs) same)

pub units-split : PointLaws → UnitsPartWhereClustersBegin
units-split laws table cs us p ps vs h e =
    let b = begins_cluster-parts table p ps h in
    let cut = CutsOff-from table (points cs) us ((p ∷ ps) ∷ vs) e in
    let f = units-first table cut.0 p ps vs cut.2 in
    let off : CutsOff table (points cs) us (p ∷ f.0) = subst (CutsOff table (points cs) us) f.1 cut.1 in
    let s = CutsOff-suffix table (points cs) us p f.0 b.1 off in
    let text = laws.cuts cs s.0 p f.0 b.1 b.0 s.1 in
    record {
      before = text.before;
      following = text.c ∷ text.following;
      cs_are = text.text;
      start_is = sym text.offset;
      before_units = ap (units table) text.points_before ∙ CutsOff-prefix table s.0 us p f.0 b.1 (subst (λ l. CutsOff table l us (p ∷ f.0)) s.1 off);
      following_units = sym (units-shift table (byte_len text.before) (points (text.c ∷ text.following))) ∙ ap (units table) (text.points_after ∙ sym f.1) ∙ cut.2;
    }
