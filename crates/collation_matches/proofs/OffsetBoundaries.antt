-- Where the clusters of the rest of a text begin: from a boundary on, where those of the whole text do.
use Rattle.std.proofs.Common.{◌≡◌, ◌⊎◌, ℕ, zero, suc, ◌+◌, ◌-◌, ◌≤◌, ◌==◌, ◌||◌, Bool, true, false, cond, List, [], ◌∷◌, ◌++◌, length, map, drop, take, flat_map, unwrap_or, encode_utf8_all, refl, sym, ap, ap₂, ◌∙◌, subst, arith, inl, inr, nat_le}
use Rattle.std.proofs.lemmas.Bool.{cases_Bool, or_left, or_right, eqb-true, eqb-false, eq-eqb, and_parts, leb-false}
use Rattle.std.proofs.lemmas.Grind.{flat_map-append}
use Rattle.std.proofs.lemmas.List.{take_at, drop_at, length-drop, length-append, map-append}
use Rattle.std.proofs.lemmas.Str.{encodes-chars, chars-encodes, scalars-chars}
use Rattle.std.proofs.Math.Utf8.{scalar}
use Rattle.std.specs.List.{list_any}
use Rattle.std.specs.Str.{chars, IsUtf8, all_scalars}
use Rattle.nfd_points.specs.declared.points.Point.{Point}
use Rattle.nfd_points.specs.Points.{byte_len, points_from, points, shifted}
use Rattle.collation_table.specs.Table.{TableMap, row_of, implicit_pair}
use Rattle.collation_elements.specs.Boundaries.{boundaries, offsets_to, is_boundary, unit_starts, cluster_starts}
use Rattle.collation_elements.specs.Context.{UnitsPartWhereClustersBegin}
use Rattle.collation_elements.specs.Elements.{begins_cluster, begins_cluster_with}
use Rattle.collation_elements.specs.Units.{units, code_points}
use Rattle.collation_matches.proofs.BridgeLists.{In, in_append, in_left, in_right, in_filter, filter_in, in_map, map_in, in_any}
use Rattle.collation_matches.proofs.BridgeMatches.{below_offsets}
use Rattle.collation_matches.proofs.LagLaw.{splits}
use Rattle.collation_matches.proofs.LagRanges.{boundary-start, start-begins}
use Rattle.collation_matches.proofs.LagCounts.{count, count_in, count_in-units, count-ordered, stands_from, count-past, one_if}
use Rattle.collation_matches.proofs.SearchLemmas.{scalars_prefix, encoded-append}
use Rattle.collation_matches.proofs.TextCheckLemmas.{byte_len_encoded}

-- ---- the boundaries of a text

offsets-in : (n x : ℕ) → x ≤ n → In (offsets_to n) x
offsets-in zero x h = inl (omega arith)
offsets-in (suc n) x h =
    elim (cases_Bool (x == suc n)) [
      | inl last ↦ in_right (offsets_to n) (suc n ∷ []) x (inl (sym (eqb-true x (suc n) last)))
      | inr other ↦ let differ = eqb-false x (suc n) other in in_left (offsets_to n) (suc n ∷ []) x (offsets-in n x (omega (arith, h, differ)))
    ]

module _ (table : TableMap) (text : List ℕ) where
  abbrev places : List ℕ
  places = cluster_starts table (points (chars text))

  boundary-in : (b : ℕ) → b ≤ length text → is_boundary places (length text) b ≡ true → In (boundaries table text) b
  boundary-in b le test = filter_in (is_boundary places (length text)) (offsets_to (length text)) b (offsets-in (length text) b le) test

  pub zero-boundary : In (boundaries table text) 0
  zero-boundary = boundary-in 0 (omega arith) refl

  pub end-boundary : In (boundaries table text) (length text)
  end-boundary =
      let n = length text in
      boundary-in n (omega arith) (or_left (n == 0 || n == n) (list_any (λ start. start == n) places) (or_right (n == 0) (n == n) (eq-eqb n n refl)))

  pub start-boundary : (b : ℕ) → b ≤ length text → In places b → In (boundaries table text) b
  start-boundary b le h =
      boundary-in b le (or_right (b == 0 || b == length text) (list_any (λ start. start == b) places) (in_any (λ start. start == b) places b h (eq-eqb b b refl)))

  pub boundary-within : (b : ℕ) → In (boundaries table text) b → b ≤ length text
  boundary-within b h = below_offsets (length text) b (in_filter (is_boundary places (length text)) (offsets_to (length text)) b h).0

  -- a boundary is one of three
  pub boundary-is : (b : ℕ) → In (boundaries table text) b → (b ≡ 0) ⊎ ((b ≡ length text) ⊎ In places b)
  boundary-is b h =
      elim (cases_Bool (b == 0)) [
        | inl none ↦ inl (eqb-true b 0 none)
        | inr some ↦ let differ = eqb-false b 0 some in inr (boundary-start table text b h (omega (arith, differ)))
      ]

-- ---- units do not depend on where a text stands

code_points-shifted : (by : ℕ) (ps : List Point) → code_points (map (shifted by) ps) ≡ code_points ps
code_points-shifted by [] = refl
code_points-shifted by (p ∷ ps) = ap (λ l. p.cp ∷ l) (code_points-shifted by ps)

begins-shifted : (table : TableMap) (by : ℕ) (p : Point) (ps : List Point) → begins_cluster table (map (shifted by) (p ∷ ps)) ≡ begins_cluster table (p ∷ ps)
begins-shifted table by p ps =
    ap (λ l. begins_cluster_with p (unwrap_or (row_of table l) (implicit_pair table p.cp))) (code_points-shifted by (p ∷ ps))

moved-cond : (by n : ℕ) (t : Bool) → cond t ((by + n) ∷ []) [] ≡ map (λ b. by + b) (cond t (n ∷ []) [])
moved-cond by n true = refl
moved-cond by n false = refl

unit_starts-shifted : (table : TableMap) (by : ℕ) (u : List Point) → unit_starts table (map (shifted by) u) ≡ map (λ b. by + b) (unit_starts table u)
unit_starts-shifted table by [] = refl
unit_starts-shifted table by (p ∷ ps) =
    ap (λ t. cond t ((by + p.offset) ∷ []) []) (begins-shifted table by p ps) ∙ moved-cond by p.offset (begins_cluster table (p ∷ ps))

starts-shifted : (table : TableMap) (by : ℕ) (us : List (List Point)) →
    flat_map (unit_starts table) (map (map (shifted by)) us) ≡ map (λ b. by + b) (flat_map (unit_starts table) us)
starts-shifted table by [] = refl
starts-shifted table by (u ∷ us) =
    ap₂ (λ (xs ys : List ℕ). xs ++ ys) (unit_starts-shifted table by u) (starts-shifted table by us)
    ∙ sym (map-append (λ b. by + b) (unit_starts table u) (flat_map (unit_starts table) us))

-- ---- a text that is cut where a cluster begins

pub scalars_suffix : (xs ys : List ℕ) → all_scalars (xs ++ ys) ≡ true → all_scalars ys ≡ true
scalars_suffix [] ys h = h
scalars_suffix (x ∷ xs) ys h = scalars_suffix xs ys (and_parts (scalar x) (all_scalars (xs ++ ys)) h).1

-- the code points before a place and those from there on, with the places where their clusters begin
pub record CutAt (table : TableMap) (text : List ℕ) (from : ℕ) : Type 0 where
  pub before : List ℕ
  pub following : List ℕ
  pub text_is : chars text ≡ before ++ following
  pub from_is : byte_len before ≡ from
  pub unit : List Point
  pub units_are : (vs : List (List Point)) × (units table (points following) ≡ unit ∷ vs)
  pub begins : begins_cluster table unit ≡ true
  pub scalars : all_scalars before ≡ true
  pub starts_are : cluster_starts table (points (chars text)) ≡ cluster_starts table (points before) ++ map (λ b. from + b) (cluster_starts table (points following))

first-shifted : (table : TableMap) (by : ℕ) (us : List (List Point)) (p : Point) (ps : List Point) (vs : List (List Point)) →
    map (map (shifted by)) us ≡ (p ∷ ps) ∷ vs → begins_cluster table (p ∷ ps) ≡ true →
    (u : List Point) × ((ws : List (List Point)) × (us ≡ u ∷ ws)) × (begins_cluster table u ≡ true)
first-shifted table by [] p ps vs e begins = absurd cc
first-shifted table by ([] ∷ us) p ps vs e begins = absurd cc
first-shifted table by ((q ∷ qs) ∷ us) p ps vs e begins =
    let same : map (shifted by) (q ∷ qs) ≡ p ∷ ps = cc in
    (q ∷ qs, (us, refl), sym (begins-shifted table by q qs) ∙ ap (begins_cluster table) same ∙ begins)

pub cut-at : UnitsPartWhereClustersBegin → (table : TableMap) (text : List ℕ) (from : ℕ) → IsUtf8 text → In (cluster_starts table (points (chars text))) from → CutAt table text from
cut-at parts table text from utf8 h =
    let b = start-begins table (points (chars text)) from h in
    let s = splits (units table (points (chars text))) (b.p ∷ b.ps) b.among in
    let cut = parts table (chars text) s.before b.p b.ps s.after b.begins s.are in
    let by : byte_len cut.before ≡ from = cut.start_is ∙ b.offset in
    let later : map (map (shifted from)) (units table (points cut.following)) ≡ (b.p ∷ b.ps) ∷ s.after =
    ap (λ n. map (map (shifted n)) (units table (points cut.following))) (sym by) ∙ cut.following_units in
    let first = first-shifted table from (units table (points cut.following)) b.p b.ps s.after later b.begins in
    record {
      before = cut.before;
      following = cut.following;
      text_is = cut.cs_are;
      from_is = by;
      unit = first.0;
      units_are = first.1;
      begins = first.2;
      scalars = scalars_prefix cut.before cut.following (ap all_scalars (sym cut.cs_are) ∙ scalars-chars text utf8);
      starts_are =
          ap (flat_map (unit_starts table)) s.are
          ∙ flat_map-append (unit_starts table) s.before ((b.p ∷ b.ps) ∷ s.after)
          ∙ ap₂ (λ (us vs : List (List Point)). flat_map (unit_starts table) us ++ flat_map (unit_starts table) vs) (sym cut.before_units) (sym later)
          ∙ ap (λ (l : List ℕ). cluster_starts table (points cut.before) ++ l) (starts-shifted table from (units table (points cut.following)));
    }

-- no cluster of the text before the place begins behind it
some-passes : (test : Point → Bool) (us : List (List Point)) (p : Point) (ps : List Point) → In us (p ∷ ps) → test p ≡ true → 1 ≤ count_in test us
some-passes test [] p ps h t = absurd h
some-passes test (u ∷ us) p ps (inl e) t =
    let same = ap (count test) e in
    let one = ap one_if t in omega (arith, same, one)
some-passes test (u ∷ us) p ps (inr h) t = let rest = some-passes test us p ps h t in omega (arith, rest)

starts-before : (table : TableMap) (cs : List ℕ) (from x : ℕ) → byte_len cs ≡ from → In (cluster_starts table (points cs)) x → x ≤ from
starts-before table cs from x len h =
    let b = start-begins table (points cs) x h in
    let test = stands_from from in
    let none : count_in test (units table (points cs)) ≡ 0 =
    count_in-units table test (points cs) ∙ count-ordered test (points_from 0 cs) ∙ count-past from 0 cs (omega (arith, len)) in
    elim (cases_Bool (nat_le from b.p.offset)) [
      | inl late ↦ let some = some-passes test (units table (points cs)) b.p b.ps b.among late in absurd (omega (arith, some, none))
      | inr early ↦ let less = leb-false from b.p.offset early in omega (arith, less, b.offset)
    ]

-- ---- the boundaries of the rest

-- the boundaries of the rest of a text are those of the text from there on
pub record HasBoundariesFrom (table : TableMap) (text : List ℕ) (from : ℕ) : Type 0 where
  pub within : from ≤ length text
  pub forth : (b : ℕ) → In (boundaries table (drop from text)) b → In (boundaries table text) (from + b)
  pub back : (x : ℕ) → In (boundaries table text) x → from ≤ x → In (boundaries table (drop from text)) (x - from)

from-zero : (table : TableMap) (text : List ℕ) → HasBoundariesFrom table text 0
from-zero table text = record {
  within = omega arith;
  forth = λ b h. let same : b ≡ 0 + b = omega arith in subst (In (boundaries table text)) same h;
  back = λ x h le. let same : x ≡ x - 0 = omega arith in subst (In (boundaries table text)) same h;
}

from-end : (table : TableMap) (text : List ℕ) → HasBoundariesFrom table text (length text)
from-end table text =
    let n = length text in
    let none : length (drop n text) ≡ 0 = length-drop n text ∙ omega arith in
    record {
      within = omega arith;
      forth = λ b h.
          let le = boundary-within table (drop n text) b h in
          let same : n ≡ n + b = omega (arith, le, none) in subst (In (boundaries table text)) same (end-boundary table text);
      back = λ x h le.
          let upto = boundary-within table text x h in
          let same : 0 ≡ x - n = omega (arith, upto) in subst (In (boundaries table (drop n text))) same (zero-boundary table (drop n text));
    }

-- what stands before the cut and what follows it, as bytes and as code points
pub record CutBytes (text : List ℕ) (from : ℕ) (before following : List ℕ) : Type 0 where
  pub front_is : take from text ≡ encode_utf8_all before
  pub front_chars : chars (take from text) ≡ before
  pub rest_chars : chars (drop from text) ≡ following
  pub within : from ≤ length text

pub cut-bytes : (table : TableMap) (text : List ℕ) (from : ℕ) → IsUtf8 text → (c : CutAt table text from) → CutBytes text from c.before c.following
cut-bytes table text from utf8 c =
    let whole : text ≡ encode_utf8_all c.before ++ encode_utf8_all c.following = sym (encodes-chars text utf8) ∙ ap encode_utf8_all c.text_is ∙ encoded-append c.before c.following in
    let len : length (encode_utf8_all c.before) ≡ from = sym (byte_len_encoded c.before) ∙ c.from_is in
    let scalars : all_scalars (c.before ++ c.following) ≡ true = ap all_scalars (sym c.text_is) ∙ scalars-chars text utf8 in
    let back : drop from text ≡ encode_utf8_all c.following = ap (drop from) whole ∙ drop_at (encode_utf8_all c.before) (encode_utf8_all c.following) from len in
    let front : take from text ≡ encode_utf8_all c.before = ap (take from) whole ∙ take_at (encode_utf8_all c.before) (encode_utf8_all c.following) from len in
    let sum = ap length whole ∙ length-append (encode_utf8_all c.before) (encode_utf8_all c.following) in
    record {
      front_is = front;
      front_chars = ap chars front ∙ chars-encodes c.before c.scalars;
      rest_chars = ap chars back ∙ chars-encodes c.following (scalars_suffix c.before c.following scalars);
      within = omega (arith, sum, len);
    }

from-cut : (table : TableMap) (text : List ℕ) (from : ℕ) → IsUtf8 text → CutAt table text from → In (boundaries table text) from → HasBoundariesFrom table text from
from-cut table text from utf8 c here =
    let rest = drop from text in
    let bytes = cut-bytes table text from utf8 c in
    let inside : length rest ≡ length text - from = length-drop from text in
    let later : cluster_starts table (points (chars rest)) ≡ cluster_starts table (points c.following) = ap (λ cs. cluster_starts table (points cs)) bytes.rest_chars in
    let add : ℕ → ℕ = λ b. from + b in
    record {
      within = bytes.within;
      forth = λ b h. elim (boundary-is table rest b h) [
        | inl none ↦ let same : from ≡ from + b = omega (arith, none) in subst (In (boundaries table text)) same here
        | inr more ↦ elim more [
          | inl last ↦ let same : length text ≡ from + b = omega (arith, last, inside, bytes.within) in subst (In (boundaries table text)) same (end-boundary table text)
          | inr start ↦
              let le = boundary-within table rest b h in
              let moved = map_in add (cluster_starts table (points c.following)) b (subst (λ (l : List ℕ). In l b) later start) in
              start-boundary table text (from + b) (omega (arith, le, inside, bytes.within))
              (subst (λ (l : List ℕ). In l (from + b)) (sym c.starts_are) (in_right (cluster_starts table (points c.before)) (map add (cluster_starts table (points c.following))) (from + b) moved))
        ]
      ];
      back = λ x h le. elim (boundary-is table text x h) [
        | inl none ↦ let same : 0 ≡ x - from = omega (arith, none, le) in subst (In (boundaries table rest)) same (zero-boundary table rest)
        | inr more ↦ elim more [
          | inl last ↦ let same : length rest ≡ x - from = omega (arith, last, inside) in subst (In (boundaries table rest)) same (end-boundary table rest)
          | inr start ↦
              elim (in_append (cluster_starts table (points c.before)) (map add (cluster_starts table (points c.following))) x (subst (λ (l : List ℕ). In l x) c.starts_are start)) [
                | inl early ↦
                    let upto = starts-before table c.before from x c.from_is early in
                    let same : 0 ≡ x - from = omega (arith, upto, le) in subst (In (boundaries table rest)) same (zero-boundary table rest)
                | inr late ↦
                    let m = in_map add (cluster_starts table (points c.following)) x late in
                    let upto = boundary-within table text x h in
                    let same : m.0 ≡ x - from = omega (arith, m.2) in
                    start-boundary table rest (x - from) (omega (arith, upto, inside))
                    (subst (In (cluster_starts table (points (chars rest)))) same (subst (λ (l : List ℕ). In l m.0) (sym later) m.1))
              ]
        ]
      ];
    }

-- Wherever a boundary is, the rest has the boundaries of the whole text from there on.
pub boundaries-from : UnitsPartWhereClustersBegin → (table : TableMap) (text : List ℕ) (from : ℕ) → IsUtf8 text → In (boundaries table text) from → HasBoundariesFrom table text from
boundaries-from parts table text from utf8 h =
    elim (boundary-is table text from h) [
      | inl none ↦ subst (HasBoundariesFrom table text) (sym none) (from-zero table text)
      | inr more ↦ elim more [
        | inl last ↦ subst (HasBoundariesFrom table text) (sym last) (from-end table text)
        | inr start ↦ from-cut table text from utf8 (cut-at parts table text from utf8 start) h
      ]
    ]
