-- A part of a text between two places where clusters begin, taken as a text by itself, has the units that the whole has there.
use Rattle.std.proofs.Common.{◌≡◌, ℕ, suc, ◌+◌, ◌-◌, ◌<◌, ◌≤◌, ◌==◌, Bool, true, false, List, [], ◌∷◌, ◌++◌, length, map, take, drop, encode_utf8_all, refl, sym, ap, ap₂, ◌∙◌, subst, arith, append-nil, length-append, eq-eqb}
use Rattle.std.proofs.lemmas.Bool.{and_parts, and_from, ne_eqb}
use Rattle.std.proofs.lemmas.List.{take_at, drop_at}
use Rattle.std.proofs.lemmas.Str.{chars-encodes, encodes-append, len_utf8_bounds}
use Rattle.std.specs.Char.{len_utf8}
use Rattle.std.specs.Str.{chars}
use lib.Utf8.{scalar, scalars}
use Rattle.nfd_points.specs.declared.points.Point.{Point}
use Rattle.nfd_points.specs.Points.{decomposition, byte_len, points_at, points_of, points_from, ordered, points, shifted}
use Rattle.collation_table.specs.Table.{TableMap}
use Rattle.collation_elements.specs.declared.settings.Variable.{Variable}
use Rattle.collation_elements.specs.declared.settings.Strength.{Strength}
use Rattle.collation_elements.specs.Units.{first_unit, units}
use Rattle.collation_elements.specs.Elements.{begins_cluster}
use Rattle.collation_elements.specs.Keys.{keys}
use Rattle.collation_elements.specs.Context.{UnitsCut, part_between}
use Rattle.collation_elements.proofs.ContextUnits.{units-cons}
use Rattle.collation_elements.proofs.ContextOffsets.{begins_cluster-shift}
use Rattle.collation_elements.proofs.ContextTexts.{units-split}
use Rattle.collation_elements.proofs.PointLaws.{PointLaws, byte_len-cons, byte_len-nil, byte_len-append, points_from-cons, points_from-nil, ordered-nil}
use Rattle.collation_elements.proofs.ContextWeights.{keys_of, keys_of-rows, keys_of-shift}

-- ---- a text with characters has points and units

length-points_at : (start : ℕ) (is_first : Bool) (ds : List ℕ) → length (points_at start is_first ds) ≡ length ds
unfolding points_at
length-points_at start is_first [] = refl
length-points_at start is_first (d ∷ ds) = ap suc (length-points_at start false ds)

pub some_points : PointLaws → (c : ℕ) (cs : List ℕ) → 1 ≤ length (points (c ∷ cs))
some_points laws c cs =
    let all : length (points (c ∷ cs)) ≡ length (points_of 0 c) + length (points_from (0 + len_utf8 c) cs) =
    laws.ordering_counts (points_from 0 (c ∷ cs)) ∙ ap length (points_from-cons 0 c cs) ∙ length-append (points_of 0 c) (points_from (0 + len_utf8 c) cs) in
    let first : length (points_of 0 c) ≡ length (decomposition c) = length-points_at 0 true (decomposition c) in
    omega (arith, (laws.short c).0)

pub points-nil : points [] ≡ []
points-nil = ap ordered (points_from-nil 0) ∙ ordered-nil

pub units-none : PointLaws → (table : TableMap) (cs : List ℕ) → units table (points cs) ≡ [] → cs ≡ []
units-none laws table [] e = refl
units-none laws table (c ∷ cs) e = absurd (no_units (points (c ∷ cs)) (some_points laws c cs) e)
  where
    no_units : (ps : List Point) → 1 ≤ length ps → units table ps ≡ [] → ⊥
    no_units [] h e = omega arith
    no_units (p ∷ ps) h e = let all : (first_unit table p ps).unit ∷ units table (first_unit table p ps).rest ≡ [] = sym (units-cons table p ps) ∙ e in cc

pub byte_len-pos : (c : ℕ) (cs : List ℕ) → 0 < byte_len (c ∷ cs)
byte_len-pos c cs = omega (arith, byte_len-cons c cs, (len_utf8_bounds c).0)

-- a unit that begins a cluster begins it at 0 exactly where it is the first one
pub starts_at_zero : PointLaws → (table : TableMap) (cs : List ℕ) (p : Point) (ps : List Point) (vs : List (List Point)) → begins_cluster table (p ∷ ps) ≡ true → units table (points cs) ≡ (p ∷ ps) ∷ vs → (p.offset == 0) ≡ true
starts_at_zero laws table cs p ps vs h e =
    let cut = units-split laws table cs [] p ps vs h e in
    let none : byte_len cut.before ≡ 0 = ap byte_len (units-none laws table cut.before cut.before_units) ∙ byte_len-nil in
    eq-eqb p.offset 0 (sym cut.start_is ∙ none)

pub starts_later : PointLaws → (table : TableMap) (cs : List ℕ) (u : List Point) (us : List (List Point)) (p : Point) (ps : List Point) (vs : List (List Point)) → begins_cluster table (p ∷ ps) ≡ true → units table (points cs) ≡ (u ∷ us) ++ (p ∷ ps) ∷ vs → (p.offset == 0) ≡ false
starts_later laws table cs u us p ps vs h e =
    let cut = units-split laws table cs (u ∷ us) p ps vs h e in
    some cut.before cut.before_units cut.start_is
  where
    some : (before : List ℕ) → units table (points before) ≡ u ∷ us → byte_len before ≡ p.offset → (p.offset == 0) ≡ false
    some [] e at = let none : [] ≡ u ∷ us = sym (ap (units table) points-nil) ∙ e in absurd cc
    some (c ∷ before) e at = ne_eqb p.offset 0 (λ z. omega (arith, byte_len-pos c before))

-- ---- two cuts

pub record Split (f : List Point → List Point) (us vs : List (List Point)) (w : List Point) (ws : List (List Point)) : Type 0 where
  pub before : List (List Point)
  pub at : List Point
  pub following : List (List Point)
  pub us_are : us ≡ before ++ at ∷ following
  pub before_is : map f before ≡ vs
  pub at_is : f at ≡ w

pub map_split : (f : List Point → List Point) (us vs : List (List Point)) (w : List Point) (ws : List (List Point)) → map f us ≡ vs ++ w ∷ ws → Split f us vs w ws
map_split f [] vs w ws e =
    let counts : 0 ≡ length (vs ++ w ∷ ws) = ap length e in absurd (omega (arith, length-append vs (w ∷ ws)))
map_split f (u ∷ us) [] w ws e =
    let first : f u ≡ w = cc in
    record { before = []; at = u; following = us; us_are = refl; before_is = refl; at_is = first }
map_split f (u ∷ us) (v ∷ vs) w ws e =
    let first : f u ≡ v = cc in
    let rest : map f us ≡ vs ++ w ∷ ws = cc in
    let more = map_split f us vs w ws rest in
    record { before = u ∷ more.before; at = more.at; following = more.following; us_are = ap (λ l. u ∷ l) more.us_are; before_is = ap₂ (λ x xs. x ∷ xs) first more.before_is; at_is = more.at_is }

-- A part of a text: the code points before it, in it and after it, and where it stands in bytes.
pub record Place (cs : List ℕ) (start end : ℕ) : Type 0 where
  pub prefix : List ℕ
  pub middle : List ℕ
  pub back : List ℕ
  pub cs_are : cs ≡ prefix ++ (middle ++ back)
  pub start_is : byte_len prefix ≡ start
  pub end_is : start + byte_len middle ≡ end

-- A part that has the units by itself that the whole has there.
pub record Part (table : TableMap) (cs : List ℕ) (start end : ℕ) (vs : List (List Point)) : Type 0 where
  pub place : Place cs start end
  pub open place use *
  pub units_are : map (map (shifted start)) (units table (points middle)) ≡ vs
  pub longer : start < end

keys-units : (table : TableMap) (strength : Strength) (variable : Variable) (ps : List Point) → keys table strength variable ps ≡ keys_of table strength variable false (units table ps)
keys-units table strength variable ps = sym (keys_of-rows table strength variable false (units table ps))

pub part_keys : (table : TableMap) (strength : Strength) (variable : Variable) (cs : List ℕ) (start end : ℕ) (vs : List (List Point)) → (p : Part table cs start end vs) → keys table strength variable (points p.middle) ≡ keys_of table strength variable false vs
part_keys table strength variable cs start end vs p =
    keys-units table strength variable (points p.middle)
    ∙ sym (keys_of-shift table strength variable false start (units table (points p.middle)))
    ∙ ap (keys_of table strength variable false) p.units_are

-- text that has a unit has bytes
pub units-bytes : (table : TableMap) (cs : List ℕ) (u : List Point) (us : List (List Point)) → units table (points cs) ≡ u ∷ us → 0 < byte_len cs
units-bytes table [] u us e = let none : [] ≡ u ∷ us = sym (ap (units table) points-nil) ∙ e in absurd cc
units-bytes table (c ∷ cs) u us e = byte_len-pos c cs

some_bytes : (table : TableMap) (by : ℕ) (cs : List ℕ) (us : List (List Point)) (v : List Point) (vs : List (List Point)) → units table (points cs) ≡ us → map (map (shifted by)) us ≡ v ∷ vs → 0 < byte_len cs
some_bytes table by cs [] v vs e m = absurd cc
some_bytes table by cs (u ∷ us) v vs e m = units-bytes table cs u us e

-- the whole text from one place on
pub part_to_end : (table : TableMap) (cs : List ℕ) (us : List (List Point)) (v : List Point) (vs : List (List Point)) (start : ℕ) → UnitsCut table cs us (v ∷ vs) start → Part table cs start (byte_len cs) (v ∷ vs)
part_to_end table cs us v vs start cut =
    let by = byte_len cut.before in
    let all : byte_len cs ≡ by + byte_len cut.following = ap byte_len cut.cs_are ∙ byte_len-append cut.before cut.following in
    record {
      place = record {
        prefix = cut.before;
        middle = cut.following;
        back = [];
        cs_are = cut.cs_are ∙ ap (λ l. cut.before ++ l) (sym (append-nil cut.following));
        start_is = cut.start_is;
        end_is = ap (λ n. n + byte_len cut.following) (sym cut.start_is) ∙ sym all;
      };
      units_are = ap (λ n. map (map (shifted n)) (units table (points cut.following))) (sym cut.start_is) ∙ cut.following_units;
      longer = omega (arith, some_bytes table by cut.following (units table (points cut.following)) v vs refl cut.following_units, all, cut.start_is);
    }

-- the text from one place on up to the start of a cluster
part_between_cuts : PointLaws → (table : TableMap) (cs prefix following : List ℕ) (us : List (List Point)) (at : List Point) (vs : List (List Point)) (w : List Point) (ws : List (List Point)) (q : Point) (qs : List Point) → cs ≡ prefix ++ following → units table (points following) ≡ us ++ at ∷ vs → map (map (shifted (byte_len prefix))) us ≡ w ∷ ws → map (shifted (byte_len prefix)) at ≡ q ∷ qs → begins_cluster table (q ∷ qs) ≡ true → Part table cs (byte_len prefix) q.offset (w ∷ ws)
part_between_cuts laws table cs prefix following us [] vs w ws q qs cs_are e before at h = absurd cc
part_between_cuts laws table cs prefix following us (p ∷ ps) vs w ws q qs cs_are e before at h =
    let by = byte_len prefix in
    let begins : begins_cluster table (p ∷ ps) ≡ true = sym (begins_cluster-shift table by (p ∷ ps)) ∙ ap (begins_cluster table) at ∙ h in
    let cut = units-split laws table following us p ps vs begins e in
    let same : shifted by p ≡ q = cc in
    let place : by + byte_len cut.before ≡ q.offset = ap (λ n. by + n) cut.start_is ∙ ap (λ (r : Point). r.offset) same in
    record {
      place = record {
        prefix = prefix;
        middle = cut.before;
        back = cut.following;
        cs_are = cs_are ∙ ap (λ l. prefix ++ l) cut.cs_are;
        start_is = refl;
        end_is = place;
      };
      units_are = ap (map (map (shifted by))) cut.before_units ∙ before;
      longer = omega (arith, some_bytes table by cut.before us w ws cut.before_units before, place);
    }

pub part_to_start : PointLaws → (table : TableMap) (cs : List ℕ) (us : List (List Point)) (v : List Point) (vs : List (List Point)) (q : Point) (qs : List Point) (ws : List (List Point)) (start : ℕ) → begins_cluster table (q ∷ qs) ≡ true → UnitsCut table cs us ((v ∷ vs) ++ (q ∷ qs) ∷ ws) start → Part table cs start q.offset (v ∷ vs)
part_to_start laws table cs us v vs q qs ws start h cut =
    let s = map_split (map (shifted (byte_len cut.before))) (units table (points cut.following)) (v ∷ vs) (q ∷ qs) ws cut.following_units in
    subst (λ n. Part table cs n q.offset (v ∷ vs)) cut.start_is
    (part_between_cuts laws table cs cut.before cut.following s.before s.at s.following v vs q qs cut.cs_are s.us_are s.before_is s.at_is h)

-- ---- what a part is as bytes

scalars-parts : (xs ys : List ℕ) → scalars (xs ++ ys) ≡ true → (scalars xs ≡ true) × (scalars ys ≡ true)
scalars-parts [] ys h = (refl, h)
scalars-parts (x ∷ xs) ys h =
    let parts = and_parts (scalar x) (scalars (xs ++ ys)) h in
    let more = scalars-parts xs ys parts.1 in
    (and_from _ _ parts.0 more.0, more.1)

pub place-bytes : PointLaws → (text cs : List ℕ) (start end : ℕ) → scalars cs ≡ true → encode_utf8_all cs ≡ text → (p : Place cs start end) → (part_between text start end ≡ encode_utf8_all p.middle) × (scalars p.middle ≡ true)
place-bytes laws text cs start end h e p =
    let ms = scalars-parts p.middle p.back (scalars-parts p.prefix (p.middle ++ p.back) (sym (ap scalars p.cs_are) ∙ h)).1 in
    let prefix = encode_utf8_all p.prefix in
    let middle = encode_utf8_all p.middle in
    let back = encode_utf8_all p.back in
    let bytes : text ≡ prefix ++ (middle ++ back) =
    sym e ∙ ap encode_utf8_all p.cs_are ∙ encodes-append p.prefix (p.middle ++ p.back) ∙ ap (λ l. prefix ++ l) (encodes-append p.middle p.back) in
    let from : length prefix ≡ start = sym (laws.bytes p.prefix) ∙ p.start_is in
    let size : length middle ≡ end - start = sym (laws.bytes p.middle) ∙ (omega (arith, p.end_is)) in
    (ap (λ l. take (end - start) (drop start l)) bytes ∙ ap (take (end - start)) (drop_at prefix (middle ++ back) start from) ∙ take_at middle back (end - start) size, ms.0)

-- the characters of a part
pub place-chars : PointLaws → (text cs : List ℕ) (start end : ℕ) → scalars cs ≡ true → encode_utf8_all cs ≡ text → (p : Place cs start end) → chars (part_between text start end) ≡ p.middle
place-chars laws text cs start end h e p =
    let bytes = place-bytes laws text cs start end h e p in ap chars bytes.0 ∙ chars-encodes p.middle bytes.1
