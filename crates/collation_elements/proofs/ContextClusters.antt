-- The clusters of a text as its units make them: each goes from a unit that begins one up to the next.
use Rattle.std.proofs.Common.{◌≡◌, ℕ, ◌==◌, Bool, true, false, List, [], ◌∷◌, ◌++◌, map, flat_map, refl, sym, ap, ap₂, ◌∙◌, inl, inr, append_assoc, append-nil, length, length-append, arith, Some, slice_get}
use Rattle.std.proofs.lemmas.Bool.{cases_Bool, cond-true, cond-false}
use Rattle.nfd_points.specs.declared.points.Point.{Point}
use Rattle.collation_table.specs.Table.{TableMap}
use Rattle.collation_elements.specs.declared.settings.Variable.{Variable}
use Rattle.collation_elements.specs.declared.settings.Strength.{Strength}
use Rattle.collation_elements.specs.declared.keys.Key.{Key}
use Rattle.collation_elements.specs.declared.keys.Item.{Item}
use Rattle.collation_elements.specs.declared.keys.Item.TheVariants.{ClusterStart, Element}
use Rattle.collation_elements.specs.Elements.{unit_row, weighted_row, begins_cluster}
use Rattle.collation_elements.specs.Keys.{row_keys}
use Rattle.collation_elements.specs.Items.{start_items, after_unit, items}
use Rattle.collation_elements.specs.Boundaries.{unit_starts}
use Rattle.collation_elements.specs.Clusters.{Cluster, clusters_from, starts, joined}
use Rattle.collation_elements.proofs.ContextWeights.{keys_of}

-- the cluster with more keys
abbrev pub grown : Cluster → List Key → Cluster
grown c ks = record { start = c.start; keys = c.keys ++ ks }

clusters_from-keys : (begun : Cluster) (ks : List Key) (rest : List Item) → clusters_from begun (map (λ key. Element key) ks ++ rest) ≡ clusters_from (grown begun ks) rest
clusters_from-keys begun [] rest = ap (λ l. clusters_from (record { start = begun.start; keys = l }) rest) (sym (append-nil begun.keys))
clusters_from-keys begun (k ∷ ks) rest =
    clusters_from-keys (grown begun (k ∷ [])) ks rest
    ∙ ap (λ l. clusters_from (record { start = begun.start; keys = l }) rest) (append_assoc begun.keys (k ∷ []) ks)

-- the clusters that some units make, the first of which go on with the cluster that has begun
abbrev pub clusters_on : TableMap → Strength → Variable → Bool → Cluster → List (List Point) → List Cluster
clusters_on table strength variable after begun us = clusters_from begun (items table strength variable after us)

abbrev pub unit_keys : TableMap → Strength → Variable → Bool → List Point → List Key
unit_keys table strength variable after u = row_keys strength (weighted_row variable after (unit_row table u))

start_items-more : (table : TableMap) (u : List Point) → begins_cluster table u ≡ false → start_items (slice_get u 0) (unit_row table u) ≡ []
start_items-more table [] h = refl
start_items-more table (p ∷ ps) h = cond-false _ _ _ h

start_items-next : (table : TableMap) (p : Point) (ps : List Point) → begins_cluster table (p ∷ ps) ≡ true → start_items (Some p) (unit_row table (p ∷ ps)) ≡ ClusterStart p.offset ∷ []
start_items-next table p ps h = cond-true _ _ _ h

pub unit_starts-more : (table : TableMap) (u : List Point) → begins_cluster table u ≡ false → unit_starts table u ≡ []
unit_starts-more table [] h = refl
unit_starts-more table (p ∷ ps) h = cond-false _ _ _ h

pub unit_starts-next : (table : TableMap) (p : Point) (ps : List Point) → begins_cluster table (p ∷ ps) ≡ true → unit_starts table (p ∷ ps) ≡ p.offset ∷ []
unit_starts-next table p ps h = cond-true _ _ _ h

from_items : (begun : Cluster) (first : List Item) (ks : List Key) (rest : List Item) → first ≡ [] → clusters_from begun ((first ++ map (λ key. Element key) ks) ++ rest) ≡ clusters_from (grown begun ks) rest
from_items begun first ks rest e = ap (λ l. clusters_from begun ((l ++ map (λ key. Element key) ks) ++ rest)) e ∙ clusters_from-keys begun ks rest

from_start : (begun : Cluster) (first : List Item) (start : ℕ) (ks : List Key) (rest : List Item) → (start == 0) ≡ false → first ≡ ClusterStart start ∷ [] → clusters_from begun ((first ++ map (λ key. Element key) ks) ++ rest) ≡ begun ∷ clusters_from (record { start = start; keys = ks }) rest
from_start begun first start ks rest h e =
    ap (λ l. clusters_from begun ((l ++ map (λ key. Element key) ks) ++ rest)) e
    ∙ cond-false _ _ _ h
    ∙ ap (λ l. begun ∷ l) (clusters_from-keys (record { start = start; keys = [] }) ks rest)

pub clusters_on-more : (table : TableMap) (strength : Strength) (variable : Variable) (after : Bool) (begun : Cluster) (u : List Point) (us : List (List Point)) → begins_cluster table u ≡ false → clusters_on table strength variable after begun (u ∷ us) ≡ clusters_on table strength variable (after_unit table variable after u) (grown begun (unit_keys table strength variable after u)) us
clusters_on-more table strength variable after begun u us h =
    from_items begun (start_items (slice_get u 0) (unit_row table u)) (unit_keys table strength variable after u) (items table strength variable (after_unit table variable after u) us) (start_items-more table u h)

-- the text's first unit goes on with the cluster that has begun at 0
from_zero : (begun : Cluster) (first : List Item) (start : ℕ) (ks : List Key) (rest : List Item) → (start == 0) ≡ true → first ≡ ClusterStart start ∷ [] → clusters_from begun ((first ++ map (λ key. Element key) ks) ++ rest) ≡ clusters_from (grown begun ks) rest
from_zero begun first start ks rest h e =
    ap (λ l. clusters_from begun ((l ++ map (λ key. Element key) ks) ++ rest)) e
    ∙ cond-true _ _ _ h
    ∙ clusters_from-keys begun ks rest

pub clusters_on-first : (table : TableMap) (strength : Strength) (variable : Variable) (after : Bool) (begun : Cluster) (p : Point) (ps : List Point) (us : List (List Point)) → begins_cluster table (p ∷ ps) ≡ true → (p.offset == 0) ≡ true → clusters_on table strength variable after begun ((p ∷ ps) ∷ us) ≡ clusters_on table strength variable (after_unit table variable after (p ∷ ps)) (grown begun (unit_keys table strength variable after (p ∷ ps))) us
clusters_on-first table strength variable after begun p ps us h at =
    from_zero begun (start_items (Some p) (unit_row table (p ∷ ps))) p.offset (unit_keys table strength variable after (p ∷ ps)) (items table strength variable (after_unit table variable after (p ∷ ps)) us) at (start_items-next table p ps h)

-- no unit of these begins a cluster at 0
abbrev pub BeginLater : TableMap → List (List Point) → Type 0
BeginLater table us = (earlier : List (List Point)) (p : Point) (ps : List Point) (later : List (List Point)) → us ≡ earlier ++ (p ∷ ps) ∷ later → begins_cluster table (p ∷ ps) ≡ true → (p.offset == 0) ≡ false

BeginLater-tail : (table : TableMap) (u : List Point) (us : List (List Point)) → BeginLater table (u ∷ us) → BeginLater table us
BeginLater-tail table u us h earlier p ps later e = h (u ∷ earlier) p ps later (ap (λ l. u ∷ l) e)

pub clusters_on-next : (table : TableMap) (strength : Strength) (variable : Variable) (after : Bool) (begun : Cluster) (p : Point) (ps : List Point) (us : List (List Point)) → begins_cluster table (p ∷ ps) ≡ true → (p.offset == 0) ≡ false → clusters_on table strength variable after begun ((p ∷ ps) ∷ us) ≡ begun ∷ clusters_on table strength variable (after_unit table variable after (p ∷ ps)) (record { start = p.offset; keys = unit_keys table strength variable after (p ∷ ps) }) us
clusters_on-next table strength variable after begun p ps us h at =
    from_start begun (start_items (Some p) (unit_row table (p ∷ ps))) p.offset (unit_keys table strength variable after (p ∷ ps)) (items table strength variable (after_unit table variable after (p ∷ ps)) us) at (start_items-next table p ps h)

-- ---- starts

pub starts-clusters_on : (table : TableMap) (strength : Strength) (variable : Variable) (after : Bool) (begun : Cluster) (us : List (List Point)) → BeginLater table us → starts (clusters_on table strength variable after begun us) ≡ begun.start ∷ flat_map (unit_starts table) us
starts-clusters_on table strength variable after begun [] low = refl
starts-clusters_on table strength variable after begun ([] ∷ us) low =
    ap starts (clusters_on-more table strength variable after begun [] us refl)
    ∙ starts-clusters_on table strength variable (after_unit table variable after []) (grown begun (unit_keys table strength variable after [])) us (BeginLater-tail table [] us low)
starts-clusters_on table strength variable after begun ((p ∷ ps) ∷ us) low =
    elim (cases_Bool (begins_cluster table (p ∷ ps))) [
      | inl next ↦
          let c : Cluster = record { start = p.offset; keys = unit_keys table strength variable after (p ∷ ps) } in
          ap starts (clusters_on-next table strength variable after begun p ps us next (low [] p ps us refl next))
          ∙ ap (λ l. begun.start ∷ l) (starts-clusters_on table strength variable (after_unit table variable after (p ∷ ps)) c us (BeginLater-tail table (p ∷ ps) us low))
          ∙ ap (λ l. begun.start ∷ (l ++ flat_map (unit_starts table) us)) (sym (unit_starts-next table p ps next))
      | inr more ↦
          ap starts (clusters_on-more table strength variable after begun (p ∷ ps) us more)
          ∙ starts-clusters_on table strength variable (after_unit table variable after (p ∷ ps)) (grown begun (unit_keys table strength variable after (p ∷ ps))) us (BeginLater-tail table (p ∷ ps) us low)
          ∙ ap (λ l. begun.start ∷ (l ++ flat_map (unit_starts table) us)) (sym (unit_starts-more table (p ∷ ps) more))
    ]

-- ---- a cluster among the clusters

-- all keys, cluster by cluster
pub joined-clusters_on : (table : TableMap) (strength : Strength) (variable : Variable) (after : Bool) (begun : Cluster) (us : List (List Point)) → BeginLater table us → joined (clusters_on table strength variable after begun us) ≡ begun.keys ++ keys_of table strength variable after us
joined-clusters_on table strength variable after begun [] low = refl
joined-clusters_on table strength variable after begun ([] ∷ us) low =
    let ks = unit_keys table strength variable after [] in
    ap joined (clusters_on-more table strength variable after begun [] us refl)
    ∙ joined-clusters_on table strength variable (after_unit table variable after []) (grown begun ks) us (BeginLater-tail table [] us low)
    ∙ append_assoc begun.keys ks (keys_of table strength variable (after_unit table variable after []) us)
joined-clusters_on table strength variable after begun ((p ∷ ps) ∷ us) low =
    let ks = unit_keys table strength variable after (p ∷ ps) in
    elim (cases_Bool (begins_cluster table (p ∷ ps))) [
      | inl next ↦
          ap joined (clusters_on-next table strength variable after begun p ps us next (low [] p ps us refl next))
          ∙ ap (λ l. begun.keys ++ l) (joined-clusters_on table strength variable (after_unit table variable after (p ∷ ps)) (record { start = p.offset; keys = ks }) us (BeginLater-tail table (p ∷ ps) us low))
      | inr more ↦
          ap joined (clusters_on-more table strength variable after begun (p ∷ ps) us more)
          ∙ joined-clusters_on table strength variable (after_unit table variable after (p ∷ ps)) (grown begun ks) us (BeginLater-tail table (p ∷ ps) us low)
          ∙ append_assoc begun.keys ks (keys_of table strength variable (after_unit table variable after (p ∷ ps)) us)
    ]

-- Where another cluster follows, a unit begins it: what came before are the keys of the units before that one.
pub record Found (table : TableMap) (strength : Strength) (variable : Variable) (after : Bool) (begun : Cluster) (us : List (List Point)) (before : List Cluster) (cs : List Cluster) : Type 0 where
  pub earlier : List (List Point)
  pub p : Point
  pub ps : List Point
  pub later : List (List Point)
  pub us_are : us ≡ earlier ++ (p ∷ ps) ∷ later
  pub begins : begins_cluster table (p ∷ ps) ≡ true
  pub keys : joined before ≡ begun.keys ++ keys_of table strength variable after earlier
  pub flag : Bool
  pub rest : cs ≡ clusters_on table strength variable (after_unit table variable flag (p ∷ ps)) (record { start = p.offset; keys = unit_keys table strength variable flag (p ∷ ps) }) later

found_more : (table : TableMap) (strength : Strength) (variable : Variable) (after : Bool) (begun : Cluster) (u : List Point) (us : List (List Point)) (before cs : List Cluster) → Found table strength variable (after_unit table variable after u) (grown begun (unit_keys table strength variable after u)) us before cs → Found table strength variable after begun (u ∷ us) before cs
found_more table strength variable after begun u us before cs f = record {
  earlier = u ∷ f.earlier;
  p = f.p;
  ps = f.ps;
  later = f.later;
  us_are = ap (λ l. u ∷ l) f.us_are;
  begins = f.begins;
  keys = f.keys ∙ append_assoc begun.keys (unit_keys table strength variable after u) (keys_of table strength variable (after_unit table variable after u) f.earlier);
  flag = f.flag;
  rest = f.rest;
}

pub find_cluster : (table : TableMap) (strength : Strength) (variable : Variable) (after : Bool) (begun : Cluster) (us : List (List Point)) (b : Cluster) (before : List Cluster) (c : Cluster) (cs : List Cluster) → BeginLater table us → clusters_on table strength variable after begun us ≡ (b ∷ before) ++ c ∷ cs → Found table strength variable after begun us (b ∷ before) (c ∷ cs)
find_cluster table strength variable after begun [] b before c cs low e =
    let counts : length (begun ∷ []) ≡ length (b ∷ (before ++ c ∷ cs)) = ap length e in
    absurd (omega (arith, length-append before (c ∷ cs)))
find_cluster table strength variable after begun ([] ∷ us) b before c cs low e =
    found_more table strength variable after begun [] us (b ∷ before) (c ∷ cs)
    (find_cluster table strength variable (after_unit table variable after []) (grown begun (unit_keys table strength variable after [])) us b before c cs (BeginLater-tail table [] us low) (sym (clusters_on-more table strength variable after begun [] us refl) ∙ e))
find_cluster table strength variable after begun ((p ∷ ps) ∷ us) b [] c cs low e =
    elim (cases_Bool (begins_cluster table (p ∷ ps))) [
      | inl next ↦
          let other : Cluster = record { start = p.offset; keys = unit_keys table strength variable after (p ∷ ps) } in
          let both : begun ∷ clusters_on table strength variable (after_unit table variable after (p ∷ ps)) other us ≡ b ∷ (c ∷ cs) = sym (clusters_on-next table strength variable after begun p ps us next (low [] p ps us refl next)) ∙ e in
          let first : begun ≡ b = cc in
          let rest : clusters_on table strength variable (after_unit table variable after (p ∷ ps)) other us ≡ c ∷ cs = cc in
          record { earlier = []; p = p; ps = ps; later = us; us_are = refl; begins = next; keys = ap (λ (d : Cluster). d.keys ++ []) (sym first); flag = after; rest = sym rest }
      | inr more ↦
          found_more table strength variable after begun (p ∷ ps) us (b ∷ []) (c ∷ cs)
          (find_cluster table strength variable (after_unit table variable after (p ∷ ps)) (grown begun (unit_keys table strength variable after (p ∷ ps))) us b [] c cs (BeginLater-tail table (p ∷ ps) us low) (sym (clusters_on-more table strength variable after begun (p ∷ ps) us more) ∙ e))
    ]
find_cluster table strength variable after begun ((p ∷ ps) ∷ us) b (d ∷ before) c cs low e =
    elim (cases_Bool (begins_cluster table (p ∷ ps))) [
      | inl next ↦
          let other : Cluster = record { start = p.offset; keys = unit_keys table strength variable after (p ∷ ps) } in
          let both : begun ∷ clusters_on table strength variable (after_unit table variable after (p ∷ ps)) other us ≡ b ∷ (d ∷ (before ++ c ∷ cs)) = sym (clusters_on-next table strength variable after begun p ps us next (low [] p ps us refl next)) ∙ e in
          let first : begun ≡ b = cc in
          let rest : clusters_on table strength variable (after_unit table variable after (p ∷ ps)) other us ≡ d ∷ (before ++ c ∷ cs) = cc in
          let f = find_cluster table strength variable (after_unit table variable after (p ∷ ps)) other us d before c cs (BeginLater-tail table (p ∷ ps) us low) rest in
          record {
            earlier = (p ∷ ps) ∷ f.earlier;
            p = f.p;
            ps = f.ps;
            later = f.later;
            us_are = ap (λ l. (p ∷ ps) ∷ l) f.us_are;
            begins = f.begins;
            keys = ap₂ (λ (d : Cluster) l. d.keys ++ l) (sym first) f.keys;
            flag = f.flag;
            rest = f.rest;
          }
      | inr more ↦
          found_more table strength variable after begun (p ∷ ps) us (b ∷ (d ∷ before)) (c ∷ cs)
          (find_cluster table strength variable (after_unit table variable after (p ∷ ps)) (grown begun (unit_keys table strength variable after (p ∷ ps))) us b (d ∷ before) c cs (BeginLater-tail table (p ∷ ps) us low) (sym (clusters_on-more table strength variable after begun (p ∷ ps) us more) ∙ e))
    ]
