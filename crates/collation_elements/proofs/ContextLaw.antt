-- Clusters that follow one another are a part of the text, and have the keys of that part taken by itself.
use Rattle.std.proofs.Common.{◌≡◌, ℕ, ◌-◌, Bool, true, false, List, [], ◌∷◌, ◌++◌, length, map, take, drop, flat_map, encode_utf8_all, refl, sym, ap, ap₂, ◌∙◌, subst, subst₂, arith, zero-add, inl, inr, append_assoc, append-nil, length-append}
use Rattle.std.proofs.lemmas.Bool.{cases_Bool}
use Rattle.std.proofs.lemmas.Str.{chars-encodes, chars-nil, IsUtf8-nil}
use Rattle.std.specs.Str.{chars, IsUtf8}
use lib.Utf8.{scalars}
use Rattle.nfd_points.specs.declared.points.Point.{Point}
use Rattle.nfd_points.specs.Points.{byte_len, points, shifted}
use Rattle.collation_table.specs.Table.{TableMap}
use Rattle.collation_elements.specs.declared.settings.Variable.{Variable}
use Rattle.collation_elements.specs.declared.settings.Strength.{Strength}
use Rattle.collation_elements.specs.Units.{units}
use Rattle.collation_elements.specs.Elements.{begins_cluster}
use Rattle.collation_elements.specs.Keys.{keys}
use Rattle.collation_elements.specs.Items.{after_unit, items}
use Rattle.collation_elements.specs.Boundaries.{unit_starts}
use Rattle.collation_elements.specs.Clusters.{Cluster, clusters_of, clusters, starts, start_or, joined}
use Rattle.collation_elements.specs.Context.{UnitsCut, part_between, PartsHaveTheKeysOfClusters, PartsAreTexts}
use Rattle.collation_elements.proofs.PointLaws.{PointLaws, byte_len-nil}
use Rattle.collation_elements.proofs.ContextTexts.{units-split, begins_cluster-parts}
use Rattle.collation_elements.proofs.ContextWeights.{keys_of, keys_of-primary}
use Rattle.collation_elements.proofs.ContextClusters.{clusters_on, clusters_on-more, clusters_on-first, unit_keys, BeginLater, starts-clusters_on, joined-clusters_on, find_cluster}
use Rattle.collation_elements.proofs.ContextParts.{points-nil, units-none, starts_at_zero, starts_later, Part, part_keys, part_to_end, part_to_start, place-bytes, place-chars}

-- ---- the clusters of a text by its units

-- A text that is not empty has a first unit, and its clusters are that unit and what the others make of it.
pub record ByUnits (table : TableMap) (strength : Strength) (variable : Variable) (cs : List ℕ) (all : List Cluster) : Type 0 where
  pub u : List Point
  pub us : List (List Point)
  pub units_are : units table (points cs) ≡ u ∷ us
  pub low : BeginLater table us
  pub are : all ≡ clusters_on table strength variable (after_unit table variable false u) (record { start = 0; keys = unit_keys table strength variable false u }) us

first_cluster : PointLaws → (table : TableMap) (strength : Strength) (variable : Variable) (cs : List ℕ) (u : List Point) (us : List (List Point)) → units table (points cs) ≡ u ∷ us → clusters_on table strength variable false (record { start = 0; keys = [] }) (u ∷ us) ≡ clusters_on table strength variable (after_unit table variable false u) (record { start = 0; keys = unit_keys table strength variable false u }) us
first_cluster laws table strength variable cs [] us e = clusters_on-more table strength variable false (record { start = 0; keys = [] }) [] us refl
first_cluster laws table strength variable cs (p ∷ ps) us e =
    elim (cases_Bool (begins_cluster table (p ∷ ps))) [
      | inl begins ↦ clusters_on-first table strength variable false (record { start = 0; keys = [] }) p ps us begins (starts_at_zero laws table cs p ps us begins e)
      | inr more ↦ clusters_on-more table strength variable false (record { start = 0; keys = [] }) (p ∷ ps) us more
    ]

by_units : PointLaws → (table : TableMap) (strength : Strength) (variable : Variable) (c : ℕ) (cs : List ℕ) (us : List (List Point)) → units table (points (c ∷ cs)) ≡ us → ByUnits table strength variable (c ∷ cs) (clusters_of (items table strength variable false us))
by_units laws table strength variable c cs [] e = let none : c ∷ cs ≡ [] = units-none laws table (c ∷ cs) e in absurd cc
by_units laws table strength variable c cs (u ∷ us) e = record {
  u = u;
  us = us;
  units_are = e;
  low = λ earlier p ps later same begins. starts_later laws table (c ∷ cs) u earlier p ps later begins (e ∙ ap (λ l. u ∷ l) same);
  are = first_cluster laws table strength variable (c ∷ cs) u us e;
}

-- ---- clusters in a row

-- the part that some clusters stand in: the units there have their keys
pub record InClusters (table : TableMap) (strength : Strength) (variable : Variable) (cs : List ℕ) (start end : ℕ) (inside : List Cluster) : Type 0 where
  pub vs : List (List Point)
  pub part : Part table cs start end vs
  pub keys : keys_of table strength variable false vs ≡ joined inside

pub head_start : (table : TableMap) (strength : Strength) (variable : Variable) (after : Bool) (begun : Cluster) (us : List (List Point)) (c : Cluster) (cs : List Cluster) → BeginLater table us → clusters_on table strength variable after begun us ≡ c ∷ cs → c.start ≡ begun.start
head_start table strength variable after begun us c cs low e =
    let all : c.start ∷ starts cs ≡ begun.start ∷ flat_map (unit_starts table) us = sym (ap starts e) ∙ starts-clusters_on table strength variable after begun us low in cc

pub BeginLater-suffix : (table : TableMap) (us earlier : List (List Point)) (u : List Point) (vs : List (List Point)) → us ≡ earlier ++ u ∷ vs → BeginLater table us → BeginLater table vs
BeginLater-suffix table us earlier u vs same low before p ps later e =
    low (earlier ++ u ∷ before) p ps later (same ∙ ap (λ l. earlier ++ u ∷ l) e ∙ sym (append_assoc earlier (u ∷ before) ((p ∷ ps) ∷ later)))

-- the unit's keys, and those after it, are as at the beginning of a text
abbrev Settles : TableMap → Strength → Variable → Bool → List Point → Type 0
Settles table strength variable flag v = (us : List (List Point)) → keys_of table strength variable flag (v ∷ us) ≡ keys_of table strength variable false (v ∷ us)

-- the clusters from one on, of which the first is made by the unit v
part_of : PointLaws → (table : TableMap) (strength : Strength) (variable : Variable) (cs : List ℕ) (earlier : List (List Point)) (flag : Bool) (v : List Point) (vs : List (List Point)) (start : ℕ) (d : Cluster) (inside after : List Cluster) → Settles table strength variable flag v → BeginLater table vs → UnitsCut table cs earlier (v ∷ vs) start → clusters_on table strength variable (after_unit table variable flag v) (record { start = start; keys = unit_keys table strength variable flag v }) vs ≡ (d ∷ inside) ++ after → InClusters table strength variable cs d.start (start_or (byte_len cs) after) (d ∷ inside)
part_of laws table strength variable cs earlier flag v vs start d inside [] settles low cut e =
    let begun : Cluster = record { start = start; keys = unit_keys table strength variable flag v } in
    let at : start ≡ d.start = sym (head_start table strength variable (after_unit table variable flag v) begun vs d (inside ++ []) low e) in
    record {
      vs = v ∷ vs;
      part = subst (λ n. Part table cs n (byte_len cs) (v ∷ vs)) at (part_to_end table cs earlier v vs start cut);
      keys = sym (settles vs) ∙ sym (joined-clusters_on table strength variable (after_unit table variable flag v) begun vs low) ∙ ap joined e ∙ ap joined (append-nil (d ∷ inside));
    }
part_of laws table strength variable cs earlier flag v vs start d inside (c ∷ after) settles low cut e =
    let begun : Cluster = record { start = start; keys = unit_keys table strength variable flag v } in
    let f = find_cluster table strength variable (after_unit table variable flag v) begun vs d inside c after low e in
    let at : start ≡ d.start = sym (head_start table strength variable (after_unit table variable flag v) begun vs d (inside ++ c ∷ after) low e) in
    let next : Cluster = record { start = f.p.offset; keys = unit_keys table strength variable f.flag (f.p ∷ f.ps) } in
    let to : f.p.offset ≡ c.start =
    sym (head_start table strength variable (after_unit table variable f.flag (f.p ∷ f.ps)) next f.later c after (BeginLater-suffix table vs f.earlier (f.p ∷ f.ps) f.later f.us_are low) (sym f.rest)) in
    record {
      vs = v ∷ f.earlier;
      part =
          subst₂ (λ n m. Part table cs n m (v ∷ f.earlier)) at to
          (part_to_start laws table cs earlier v f.earlier f.p f.ps f.later start f.begins (subst (λ l. UnitsCut table cs earlier (v ∷ l) start) f.us_are cut));
      keys = sym (settles f.earlier) ∙ sym f.keys;
    }

-- the whole text as its first cut
pub whole_cut : (table : TableMap) (cs : List ℕ) (us : List (List Point)) → units table (points cs) ≡ us → UnitsCut table cs [] us 0
whole_cut table cs us e = record {
  before = [];
  following = cs;
  cs_are = refl;
  start_is = byte_len-nil;
  before_units = ap (units table) points-nil;
  following_units = ap (λ n. map (map (shifted n)) (units table (points cs))) byte_len-nil ∙ shift_none (units table (points cs)) ∙ e;
}
  where
    shift_points : (ps : List Point) → map (shifted 0) ps ≡ ps
    shift_points [] = refl
    shift_points (p ∷ ps) = ap₂ (λ (q : Point) qs. q ∷ qs) (ap (λ n. record p { offset = n }) (zero-add p.offset)) (shift_points ps)

    shift_none : (us : List (List Point)) → map (map (shifted 0)) us ≡ us
    shift_none [] = refl
    shift_none (u ∷ us) = ap₂ (λ x xs. x ∷ xs) (shift_points u) (shift_none us)

-- clusters in a row, with those before them
pub part_of_clusters : PointLaws → (table : TableMap) (strength : Strength) (variable : Variable) (cs : List ℕ) (all before : List Cluster) (d : Cluster) (inside after : List Cluster) → ByUnits table strength variable cs all → all ≡ before ++ ((d ∷ inside) ++ after) → InClusters table strength variable cs d.start (start_or (byte_len cs) after) (d ∷ inside)
part_of_clusters laws table strength variable cs all [] d inside after b e =
    part_of laws table strength variable cs [] false b.u b.us 0 d inside after (λ us. refl) b.low (whole_cut table cs (b.u ∷ b.us) b.units_are) (sym b.are ∙ e)
part_of_clusters laws table strength variable cs all (c ∷ before) d inside after b e =
    let begun : Cluster = record { start = 0; keys = unit_keys table strength variable false b.u } in
    let f = find_cluster table strength variable (after_unit table variable false b.u) begun b.us c before d (inside ++ after) b.low (sym b.are ∙ e) in
    let us : units table (points cs) ≡ (b.u ∷ f.earlier) ++ (f.p ∷ f.ps) ∷ f.later = b.units_are ∙ ap (λ l. b.u ∷ l) f.us_are in
    let cut = units-split laws table cs (b.u ∷ f.earlier) f.p f.ps f.later f.begins us in
    let primary = (begins_cluster-parts table f.p f.ps f.begins).2 in
    part_of laws table strength variable cs (b.u ∷ f.earlier) f.flag (f.p ∷ f.ps) f.later f.p.offset d inside after
    (λ us. keys_of-primary table strength variable f.flag (f.p ∷ f.ps) us primary)
    (BeginLater-suffix table b.us f.earlier (f.p ∷ f.ps) f.later f.us_are b.low)
    cut
    (sym f.rest)

-- ---- texts of bytes

-- a text that is not empty has a code point
pub text_by_units : PointLaws → (table : TableMap) (strength : Strength) (variable : Variable) (b : ℕ) (bs cs : List ℕ) → scalars cs ≡ true → encode_utf8_all cs ≡ b ∷ bs → ByUnits table strength variable cs (clusters table strength variable (b ∷ bs))
text_by_units laws table strength variable b bs [] h e = absurd cc
text_by_units laws table strength variable b bs (c ∷ cs) h e =
    let are : c ∷ cs ≡ chars (b ∷ bs) = sym (chars-encodes (c ∷ cs) h) ∙ ap chars e in
    by_units laws table strength variable c cs (units table (points (chars (b ∷ bs)))) (ap (λ l. units table (points l)) are)

pub text_part : PointLaws → (table : TableMap) (strength : Strength) (variable : Variable) (text : List ℕ) (before : List Cluster) (d : Cluster) (inside after : List Cluster) → (utf8 : IsUtf8 text) → clusters table strength variable text ≡ before ++ ((d ∷ inside) ++ after) → InClusters table strength variable utf8.0 d.start (start_or (length text) after) (d ∷ inside)
text_part laws table strength variable [] before d inside after utf8 e =
    let counts : 0 ≡ length (before ++ ((d ∷ inside) ++ after)) = ap length e in
    absurd (omega (arith, length-append before ((d ∷ inside) ++ after)))
text_part laws table strength variable (b ∷ bs) before d inside after utf8 e =
    let len : byte_len utf8.0 ≡ length (b ∷ bs) = laws.bytes utf8.0 ∙ ap length utf8.1.1 in
    let part = part_of_clusters laws table strength variable utf8.0 (clusters table strength variable (b ∷ bs)) before d inside after (text_by_units laws table strength variable b bs utf8.0 utf8.1.0 utf8.1.1) e in
    subst (λ n. InClusters table strength variable utf8.0 d.start (start_or n after) (d ∷ inside)) len part

pub no_part : (text : List ℕ) (at : ℕ) → part_between text at at ≡ []
no_part text at = let none : at - at ≡ 0 = omega arith in ap (λ n. take n (drop at text)) none

pub parts_have_keys : PointLaws → PartsHaveTheKeysOfClusters
parts_have_keys laws table strength variable text before [] after utf8 e =
    ap (λ l. keys table strength variable (points (chars l))) (no_part text (start_or (length text) after))
    ∙ ap (λ l. keys table strength variable (points l)) chars-nil
    ∙ ap (keys table strength variable) points-nil
parts_have_keys laws table strength variable text before (d ∷ inside) after utf8 e =
    let part = text_part laws table strength variable text before d inside after utf8 e in
    ap (λ l. keys table strength variable (points l)) (place-chars laws text utf8.0 d.start (start_or (length text) after) utf8.1.0 utf8.1.1 part.part.place)
    ∙ part_keys table strength variable utf8.0 d.start (start_or (length text) after) part.vs part.part
    ∙ part.keys

pub parts_are_utf8 : PointLaws → PartsAreTexts
parts_are_utf8 laws table strength variable text before [] after utf8 e = subst IsUtf8 (sym (no_part text (start_or (length text) after))) IsUtf8-nil
parts_are_utf8 laws table strength variable text before (d ∷ inside) after utf8 e =
    let part = text_part laws table strength variable text before d inside after utf8 e in
    let bytes = place-bytes laws text utf8.0 d.start (start_or (length text) after) utf8.1.0 utf8.1.1 part.part.place in
    (part.part.middle, (bytes.1, sym bytes.0))
