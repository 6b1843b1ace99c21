-- The context law: between two boundaries of a text, the part of it taken as a text by itself has the keys that the whole
-- text has there.
use Rattle.std.specs.Prelude.{◌≡◌, ℕ, ◌≤◌, Bool, true, false, Contains, List, [], ◌∷◌, ◌++◌, length, map}
use Rattle.std.specs.Str.{chars, IsUtf8}
use Rattle.nfd_points.specs.declared.points.Point.{Point}
use Rattle.nfd_points.specs.Points.{byte_len, points, shifted}
use Rattle.collation_table.specs.declared.elements.Element.{Element}
use Rattle.collation_elements.specs.declared.settings.Variable.{Variable}
use Rattle.collation_elements.specs.declared.settings.Strength.{Strength}
use Rattle.collation_table.specs.Table.{TableMap}
use Rattle.collation_elements.specs.Units.{units}
use Rattle.collation_elements.specs.Elements.{begins_primary, begins_cluster, weighted_rows, elements}
use Rattle.collation_elements.specs.Keys.{keys}
pub use Rattle.collation_elements.specs.Parts.{part_between}
use Rattle.collation_elements.specs.Boundaries.{boundaries}
use Rattle.collation_elements.specs.Clusters.{Cluster, clusters, starts, start_or, joined}

-- ---- units and weights

-- The units of a text, cut before one of them: the text before it and the text from it on, each with its own units.
pub record UnitsCut (table : TableMap) (cs : List ℕ) (us vs : List (List Point)) (start : ℕ) : Type 0 where
  pub before : List ℕ
  pub following : List ℕ
  pub cs_are : cs ≡ before ++ following
  pub start_is : byte_len before ≡ start
  pub before_units : units table (points before) ≡ us
  pub following_units : map (map (shifted (byte_len before))) (units table (points following)) ≡ vs

-- Where a unit begins a cluster, the code points before it have by themselves the units before it, and those from there on
-- the units from it on.
abbrev pub UnitsPartWhereClustersBegin : Type 0
UnitsPartWhereClustersBegin =
    (table : TableMap) (cs : List ℕ) (us : List (List Point)) (p : Point) (ps : List Point) (vs : List (List Point)) →
    begins_cluster table (p ∷ ps) ≡ true →
    units table (points cs) ≡ us ++ (p ∷ ps) ∷ vs →
    UnitsCut table cs us ((p ∷ ps) ∷ vs) p.offset

-- A row whose first element has a primary weight is weighted as at the beginning of a text, and so are those after it.
abbrev pub PrimariesSettleWeighting : Type 0
PrimariesSettleWeighting =
    (variable : Variable) (after : Bool) (row : List Element) (rows : List (List Element)) →
    begins_primary row ≡ true →
    weighted_rows variable after (row ∷ rows) ≡ weighted_rows variable false (row ∷ rows)

-- ---- texts

-- The boundaries of a text are the places where its clusters start, and its end.
abbrev pub BoundariesAreStarts : Type 0
BoundariesAreStarts =
    (table : TableMap) (strength : Strength) (variable : Variable) (text : List ℕ) →
    IsUtf8 text →
    boundaries table text ≡ starts (clusters table strength variable text) ++ length text ∷ []

-- Clusters that follow one another have, together, the keys of the part of the text that they stand in, taken by itself.
abbrev pub PartsHaveTheKeysOfClusters : Type 0
PartsHaveTheKeysOfClusters =
    (table : TableMap) (strength : Strength) (variable : Variable) (text : List ℕ) (before inside after : List Cluster) →
    IsUtf8 text →
    clusters table strength variable text ≡ before ++ (inside ++ after) →
    let start = start_or (length text) (inside ++ after) in
    let end = start_or (length text) after in
    keys table strength variable (points (chars (part_between text start end))) ≡ joined inside

-- Such a part is a text.
abbrev pub PartsAreTexts : Type 0
PartsAreTexts =
    (table : TableMap) (strength : Strength) (variable : Variable) (text : List ℕ) (before inside after : List Cluster) →
    IsUtf8 text →
    clusters table strength variable text ≡ before ++ (inside ++ after) →
    IsUtf8 (part_between text (start_or (length text) (inside ++ after)) (start_or (length text) after))

-- Cut in two at a boundary, a part of a text between two boundaries has the elements of the two parts by themselves.
abbrev pub ElementsAreJoined : Type 0
ElementsAreJoined =
    (table : TableMap) (variable : Variable) (text : List ℕ) (start middle end : ℕ) →
    IsUtf8 text →
    Contains (boundaries table text) start → Contains (boundaries table text) middle → Contains (boundaries table text) end →
    start ≤ middle → middle ≤ end →
    let between = λ (from : ℕ) (to : ℕ). elements table variable (points (chars (part_between text from to))) in
    between start end ≡ between start middle ++ between middle end

-- And the keys.
abbrev pub KeysAreJoined : Type 0
KeysAreJoined =
    (table : TableMap) (strength : Strength) (variable : Variable) (text : List ℕ) (start middle end : ℕ) →
    IsUtf8 text →
    Contains (boundaries table text) start → Contains (boundaries table text) middle → Contains (boundaries table text) end →
    start ≤ middle → middle ≤ end →
    let between = λ (from : ℕ) (to : ℕ). keys table strength variable (points (chars (part_between text from to))) in
    between start end ≡ between start middle ++ between middle end
