-- The elements of a part of a text between two boundaries are those of its two parts at a third one.
use Rattle.std.proofs.Common.{◌≡◌, ℕ, zero, suc, ◌+◌, ◌≤◌, ◌==◌, ◌||◌, Bool, true, false, List, [], ◌∷◌, ◌++◌, length, map, flat_map, Contains, refl, sym, ap, ap₂, ◌∙◌, subst, subst₂, arith, inl, inr, append_assoc, append-nil, length-append, eqb-true, eq-eqb}
use Rattle.std.proofs.lemmas.Bool.{or_cases, or_left, or_right, ne_eqb}
use Rattle.std.proofs.lemmas.List.{map-append}
use Rattle.std.proofs.lemmas.Grind.{flat_map-append}
use Rattle.std.proofs.lemmas.Str.{chars-nil}
use Rattle.std.specs.Str.{chars, IsUtf8}
use Rattle.nfd_points.specs.declared.points.Point.{Point}
use Rattle.nfd_points.specs.Points.{byte_len, points, shifted}
use Rattle.collation_table.specs.declared.elements.Element.{Element}
use Rattle.collation_table.specs.Table.{TableMap}
use Rattle.collation_elements.specs.declared.settings.Variable.{Variable}
use Rattle.collation_elements.specs.declared.settings.Strength.{Strength}
use Rattle.collation_elements.specs.declared.settings.Strength.TheVariants.{One}
use Rattle.collation_elements.specs.Units.{units}
use Rattle.collation_elements.specs.Elements.{unit_row, weighted_rows, elements, begins_primary, begins_cluster}
use Rattle.collation_elements.specs.Keys.{keys}
use Rattle.collation_elements.specs.Items.{after_unit}
use Rattle.collation_elements.specs.Boundaries.{boundaries}
use Rattle.collation_elements.specs.Clusters.{Cluster, clusters, starts, start_or, joined}
use Rattle.collation_elements.specs.Context.{UnitsCut, part_between, ElementsAreJoined, KeysAreJoined}
use Rattle.collation_elements.proofs.PointLaws.{PointLaws, byte_len-append}
use Rattle.collation_elements.proofs.ContextOffsets.{rows-shift, begins_cluster-shift}
use Rattle.collation_elements.proofs.ContextTexts.{units-split, begins_cluster-parts}
use Rattle.collation_elements.proofs.ContextWeights.{weighted_rows-primary, weighted_rows-append, after_rows}
use Rattle.collation_elements.proofs.ContextClusters.{clusters_on, unit_keys, BeginLater, find_cluster}
use Rattle.collation_elements.proofs.ContextParts.{points-nil, Place, Part, map_split, part_to_end, part_to_start, place-chars}
use Rattle.collation_elements.proofs.ContextLaw.{ByUnits, text_by_units, head_start, BeginLater-suffix, whole_cut, no_part, parts_have_keys}
use Rattle.collation_elements.proofs.ContextBoundaries.{is_in, Rise, starts_rise, boundaries_start}

-- ---- elements of units

abbrev elements_of : TableMap → Variable → Bool → List (List Point) → List Element
elements_of table variable after us = flat_map (λ row. row) (weighted_rows variable after (map (unit_row table) us))

elements_of-shift : (table : TableMap) (variable : Variable) (after : Bool) (by : ℕ) (us : List (List Point)) → elements_of table variable after (map (map (shifted by)) us) ≡ elements_of table variable after us
elements_of-shift table variable after by us = ap (λ rs. flat_map (λ row. row) (weighted_rows variable after rs)) (rows-shift table by us)

-- where a unit has a primary weight at its start, the elements are those of the units before it and those from it on
elements_of-primary : (table : TableMap) (variable : Variable) (us : List (List Point)) (v : List Point) (vs : List (List Point)) → begins_primary (unit_row table v) ≡ true → elements_of table variable false (us ++ v ∷ vs) ≡ elements_of table variable false us ++ elements_of table variable false (v ∷ vs)
elements_of-primary table variable us v vs h =
    let first = map (unit_row table) us in
    let second = map (unit_row table) (v ∷ vs) in
    let parts : weighted_rows variable false (map (unit_row table) (us ++ v ∷ vs)) ≡ weighted_rows variable false first ++ weighted_rows variable false second =
    ap (weighted_rows variable false) (map-append (unit_row table) us (v ∷ vs))
    ∙ weighted_rows-append variable false first second
    ∙ ap (λ l. weighted_rows variable false first ++ l) (weighted_rows-primary variable (after_rows variable false first) (unit_row table v) (map (unit_row table) vs) h) in
    ap (flat_map (λ row. row)) parts ∙ flat_map-append (λ row. row) (weighted_rows variable false first) (weighted_rows variable false second)

-- ---- a part cut in two

pub record Halves (table : TableMap) (variable : Variable) (cs : List ℕ) (start middle end : ℕ) : Type 0 where
  pub whole : Place cs start end
  pub first : Place cs start middle
  pub second : Place cs middle end
  pub elements_are : elements table variable (points whole.middle) ≡ elements table variable (points first.middle) ++ elements table variable (points second.middle)

halves_at : PointLaws → (table : TableMap) (variable : Variable) (cs : List ℕ) (start end : ℕ) (us : List (List Point)) (at : List Point) (vs : List (List Point)) (p : Point) (ps : List Point) → (place : Place cs start end) → units table (points place.middle) ≡ us ++ at ∷ vs → map (shifted start) at ≡ p ∷ ps → begins_cluster table (p ∷ ps) ≡ true → Halves table variable cs start p.offset end
halves_at laws table variable cs start end us [] vs p ps place e at h = absurd cc
halves_at laws table variable cs start end us (q ∷ qs) vs p ps place e at h =
    let begins : begins_cluster table (q ∷ qs) ≡ true = sym (begins_cluster-shift table start (q ∷ qs)) ∙ ap (begins_cluster table) at ∙ h in
    let cut = units-split laws table place.middle us q qs vs begins e in
    let same : shifted start q ≡ p = cc in
    let first_end : start + byte_len cut.before ≡ p.offset = ap (λ n. start + n) cut.start_is ∙ ap (λ (r : Point). r.offset) same in
    let second_start : byte_len (place.prefix ++ cut.before) ≡ p.offset = byte_len-append place.prefix cut.before ∙ ap (λ n. n + byte_len cut.before) place.start_is ∙ first_end in
    let sizes : byte_len place.middle ≡ byte_len cut.before + byte_len cut.following = ap byte_len cut.cs_are ∙ byte_len-append cut.before cut.following in
    let second_end : p.offset + byte_len cut.following ≡ end = omega (arith, place.end_is) in
    let all : cs ≡ place.prefix ++ ((cut.before ++ cut.following) ++ place.back) = place.cs_are ∙ ap (λ l. place.prefix ++ (l ++ place.back)) cut.cs_are in
    let second_units : elements_of table variable false ((q ∷ qs) ∷ vs) ≡ elements table variable (points cut.following) =
    ap (elements_of table variable false) (sym cut.following_units) ∙ elements_of-shift table variable false (byte_len cut.before) (units table (points cut.following)) in
    record {
      whole = place;
      first = record {
        prefix = place.prefix;
        middle = cut.before;
        back = cut.following ++ place.back;
        cs_are = all ∙ ap (λ l. place.prefix ++ l) (append_assoc cut.before cut.following place.back);
        start_is = place.start_is;
        end_is = first_end;
      };
      second = record {
        prefix = place.prefix ++ cut.before;
        middle = cut.following;
        back = place.back;
        cs_are = all ∙ simp append_assoc;
        start_is = second_start;
        end_is = second_end;
      };
      elements_are =
          ap (elements_of table variable false) e
          ∙ elements_of-primary table variable us (q ∷ qs) vs (begins_cluster-parts table q qs begins).2
          ∙ ap₂ (λ x y. x ++ y) (ap (elements_of table variable false) (sym cut.before_units)) second_units;
    }

pub halves : PointLaws → (table : TableMap) (variable : Variable) (cs : List ℕ) (start end : ℕ) (us : List (List Point)) (p : Point) (ps : List Point) (vs : List (List Point)) → Part table cs start end (us ++ (p ∷ ps) ∷ vs) → begins_cluster table (p ∷ ps) ≡ true → Halves table variable cs start p.offset end
halves laws table variable cs start end us p ps vs part h =
    let s = map_split (map (shifted start)) (units table (points part.place.middle)) us (p ∷ ps) vs part.units_are in
    halves_at laws table variable cs start end s.before s.at s.following p ps part.place s.us_are s.at_is h

-- ---- clusters in a row, and others after them

two_parts : PointLaws → (table : TableMap) (strength : Strength) (variable : Variable) (cs : List ℕ) (earlier : List (List Point)) (flag : Bool) (v : List Point) (vs : List (List Point)) (start : ℕ) (d : Cluster) (one : List Cluster) (e : Cluster) (two after : List Cluster) → BeginLater table vs → UnitsCut table cs earlier (v ∷ vs) start → clusters_on table strength variable (after_unit table variable flag v) (record { start = start; keys = unit_keys table strength variable flag v }) vs ≡ (d ∷ one) ++ ((e ∷ two) ++ after) → Halves table variable cs d.start e.start (start_or (byte_len cs) after)
two_parts laws table strength variable cs earlier flag v vs start d one e two [] low cut is =
    let begun : Cluster = record { start = start; keys = unit_keys table strength variable flag v } in
    let f = find_cluster table strength variable (after_unit table variable flag v) begun vs d one e (two ++ []) low is in
    let next : Cluster = record { start = f.p.offset; keys = unit_keys table strength variable f.flag (f.p ∷ f.ps) } in
    let later = BeginLater-suffix table vs f.earlier (f.p ∷ f.ps) f.later f.us_are low in
    let from : start ≡ d.start = sym (head_start table strength variable (after_unit table variable flag v) begun vs d (one ++ ((e ∷ two) ++ [])) low is) in
    let at : f.p.offset ≡ e.start = sym (head_start table strength variable (after_unit table variable f.flag (f.p ∷ f.ps)) next f.later e (two ++ []) later (sym f.rest)) in
    let part : Part table cs start (byte_len cs) ((v ∷ f.earlier) ++ (f.p ∷ f.ps) ∷ f.later) = part_to_end table cs earlier v (f.earlier ++ (f.p ∷ f.ps) ∷ f.later) start (subst (λ l. UnitsCut table cs earlier (v ∷ l) start) f.us_are cut) in
    subst₂ (λ m n. Halves table variable cs m n (byte_len cs)) from at (halves laws table variable cs start (byte_len cs) (v ∷ f.earlier) f.p f.ps f.later part f.begins)
two_parts laws table strength variable cs earlier flag v vs start d one e two (c ∷ after) low cut is =
    let begun : Cluster = record { start = start; keys = unit_keys table strength variable flag v } in
    let f = find_cluster table strength variable (after_unit table variable flag v) begun vs d one e (two ++ c ∷ after) low is in
    let next : Cluster = record { start = f.p.offset; keys = unit_keys table strength variable f.flag (f.p ∷ f.ps) } in
    let later = BeginLater-suffix table vs f.earlier (f.p ∷ f.ps) f.later f.us_are low in
    let from : start ≡ d.start = sym (head_start table strength variable (after_unit table variable flag v) begun vs d (one ++ ((e ∷ two) ++ c ∷ after)) low is) in
    let at : f.p.offset ≡ e.start = sym (head_start table strength variable (after_unit table variable f.flag (f.p ∷ f.ps)) next f.later e (two ++ c ∷ after) later (sym f.rest)) in
    let g = find_cluster table strength variable (after_unit table variable f.flag (f.p ∷ f.ps)) next f.later e two c after later (sym f.rest) in
    let last : Cluster = record { start = g.p.offset; keys = unit_keys table strength variable g.flag (g.p ∷ g.ps) } in
    let to : g.p.offset ≡ c.start = sym (head_start table strength variable (after_unit table variable g.flag (g.p ∷ g.ps)) last g.later c after (BeginLater-suffix table f.later g.earlier (g.p ∷ g.ps) g.later g.us_are later) (sym g.rest)) in
    let us : vs ≡ (f.earlier ++ (f.p ∷ f.ps) ∷ g.earlier) ++ (g.p ∷ g.ps) ∷ g.later =
    f.us_are ∙ ap (λ l. f.earlier ++ (f.p ∷ f.ps) ∷ l) g.us_are ∙ sym (append_assoc f.earlier ((f.p ∷ f.ps) ∷ g.earlier) ((g.p ∷ g.ps) ∷ g.later)) in
    let part : Part table cs start g.p.offset ((v ∷ f.earlier) ++ (f.p ∷ f.ps) ∷ g.earlier) =
    part_to_start laws table cs earlier v (f.earlier ++ (f.p ∷ f.ps) ∷ g.earlier) g.p g.ps g.later start g.begins (subst (λ l. UnitsCut table cs earlier (v ∷ l) start) us cut) in
    subst (λ n. Halves table variable cs d.start e.start n) to
    (subst₂ (λ m n. Halves table variable cs m n g.p.offset) from at (halves laws table variable cs start g.p.offset (v ∷ f.earlier) f.p f.ps g.earlier part f.begins))

pub halves_of_clusters : PointLaws → (table : TableMap) (strength : Strength) (variable : Variable) (cs : List ℕ) (all before : List Cluster) (d : Cluster) (one : List Cluster) (e : Cluster) (two after : List Cluster) → ByUnits table strength variable cs all → all ≡ before ++ ((d ∷ one) ++ ((e ∷ two) ++ after)) → Halves table variable cs d.start e.start (start_or (byte_len cs) after)
halves_of_clusters laws table strength variable cs all [] d one e two after b is =
    two_parts laws table strength variable cs [] false b.u b.us 0 d one e two after b.low (whole_cut table cs (b.u ∷ b.us) b.units_are) (sym b.are ∙ is)
halves_of_clusters laws table strength variable cs all (c ∷ before) d one e two after b is =
    let begun : Cluster = record { start = 0; keys = unit_keys table strength variable false b.u } in
    let f = find_cluster table strength variable (after_unit table variable false b.u) begun b.us c before d (one ++ ((e ∷ two) ++ after)) b.low (sym b.are ∙ is) in
    let us : units table (points cs) ≡ (b.u ∷ f.earlier) ++ (f.p ∷ f.ps) ∷ f.later = b.units_are ∙ ap (λ l. b.u ∷ l) f.us_are in
    let cut = units-split laws table cs (b.u ∷ f.earlier) f.p f.ps f.later f.begins us in
    two_parts laws table strength variable cs (b.u ∷ f.earlier) f.flag (f.p ∷ f.ps) f.later f.p.offset d one e two after
    (BeginLater-suffix table b.us f.earlier (f.p ∷ f.ps) f.later f.us_are b.low)
    cut
    (sym f.rest)

-- ---- the same in bytes

abbrev elements_between : TableMap → Variable → List ℕ → ℕ → ℕ → List Element
elements_between table variable text from to = elements table variable (points (chars (part_between text from to)))

elements-none : (table : TableMap) (variable : Variable) (text : List ℕ) (at : ℕ) → elements_between table variable text at at ≡ []
elements-none table variable text at =
    ap (λ l. elements table variable (points (chars l))) (no_part text at)
    ∙ ap (λ l. elements table variable (points l)) chars-nil
    ∙ ap (elements table variable) points-nil

joined_at : PointLaws → (table : TableMap) (strength : Strength) (variable : Variable) (text : List ℕ) (before one two after : List Cluster) → IsUtf8 text → clusters table strength variable text ≡ before ++ (one ++ (two ++ after)) → elements_between table variable text (start_or (length text) (one ++ (two ++ after))) (start_or (length text) after) ≡ elements_between table variable text (start_or (length text) (one ++ (two ++ after))) (start_or (length text) (two ++ after)) ++ elements_between table variable text (start_or (length text) (two ++ after)) (start_or (length text) after)
joined_at laws table strength variable text before [] two after utf8 is =
    ap (λ l. l ++ elements_between table variable text (start_or (length text) (two ++ after)) (start_or (length text) after)) (sym (elements-none table variable text (start_or (length text) (two ++ after))))
joined_at laws table strength variable text before (d ∷ one) [] after utf8 is =
    sym (append-nil (elements_between table variable text d.start (start_or (length text) after)))
    ∙ ap (λ l. elements_between table variable text d.start (start_or (length text) after) ++ l) (sym (elements-none table variable text (start_or (length text) after)))
joined_at laws table strength variable [] before (d ∷ one) (e ∷ two) after utf8 is =
    let counts : 0 ≡ length (before ++ ((d ∷ one) ++ ((e ∷ two) ++ after))) = ap length is in
    absurd (omega (arith, length-append before ((d ∷ one) ++ ((e ∷ two) ++ after))))
joined_at laws table strength variable (b ∷ bs) before (d ∷ one) (e ∷ two) after utf8 is =
    let text = b ∷ bs in
    let len : byte_len utf8.0 ≡ length text = laws.bytes utf8.0 ∙ ap length utf8.1.1 in
    let end = start_or (length text) after in
    let h = subst (λ n. Halves table variable utf8.0 d.start e.start (start_or n after)) len
    (halves_of_clusters laws table strength variable utf8.0 (clusters table strength variable text) before d one e two after (text_by_units laws table strength variable b bs utf8.0 utf8.1.0 utf8.1.1) is) in
    let of = λ (l : List ℕ). elements table variable (points l) in
    ap of (place-chars laws text utf8.0 d.start end utf8.1.0 utf8.1.1 h.whole)
    ∙ h.elements_are
    ∙ sym (ap₂ (λ x y. x ++ y) (ap of (place-chars laws text utf8.0 d.start e.start utf8.1.0 utf8.1.1 h.first)) (ap of (place-chars laws text utf8.0 e.start end utf8.1.0 utf8.1.1 h.second)))

-- ---- boundaries among the starts

is_in-from_Contains : (xs : List ℕ) (n : ℕ) → Contains xs n → is_in xs n ≡ true
is_in-from_Contains [] n (k, lt, e) = absurd (omega arith)
is_in-from_Contains (x ∷ xs) n (zero, lt, e) = or_left (x == n) (is_in xs n) (eq-eqb x n e)
is_in-from_Contains (x ∷ xs) n (suc k, lt, e) = or_right (x == n) (is_in xs n) (is_in-from_Contains xs n (k, omega arith, e))

pub record StartsAt (end : ℕ) (cs : List Cluster) (n : ℕ) : Type 0 where
  pub before : List Cluster
  pub after : List Cluster
  pub cs_are : cs ≡ before ++ after
  pub start_is : start_or end after ≡ n

starts_at : (end : ℕ) (cs : List Cluster) (n : ℕ) → is_in (starts cs ++ end ∷ []) n ≡ true → StartsAt end cs n
starts_at end [] n h =
    let here : (end == n) ≡ true = elim (or_cases (end == n) false h) [ inl yes_ ↦ yes_ | inr never ↦ absurd cc ] in
    record { before = []; after = []; cs_are = refl; start_is = eqb-true end n here }
starts_at end (c ∷ cs) n h =
    elim (or_cases (c.start == n) (is_in (starts cs ++ end ∷ []) n) h) [
      | inl here ↦ record { before = []; after = c ∷ cs; cs_are = refl; start_is = eqb-true c.start n here }
      | inr later ↦
          let more = starts_at end cs n later in
          record { before = c ∷ more.before; after = more.after; cs_are = ap (λ l. c ∷ l) more.cs_are; start_is = more.start_is }
    ]

start_or-rises : (end : ℕ) (before after : List Cluster) → Rise end (before ++ after) → start_or end (before ++ after) ≤ start_or end after
start_or-rises end [] after h = omega arith
start_or-rises end (c ∷ before) after h = omega (arith, start_or-rises end before after h.1, h.0)

-- a place at or after the start of some clusters is not before them
in_rest : (end : ℕ) (before after : List Cluster) (n : ℕ) → Rise end (before ++ after) → start_or end after ≤ n → is_in (starts (before ++ after) ++ end ∷ []) n ≡ true → is_in (starts after ++ end ∷ []) n ≡ true
in_rest end [] after n h le found = found
in_rest end (c ∷ before) after n h le found =
    let other : (c.start == n) ≡ false = ne_eqb c.start n (λ e. omega (arith, start_or-rises end before after h.1, h.0)) in
    in_rest end before after n h.1 le (sym (ap (λ t. t || is_in (starts (before ++ after) ++ end ∷ []) n) other) ∙ found)

Rise-suffix : (end : ℕ) (before after : List Cluster) → Rise end (before ++ after) → Rise end after
Rise-suffix end [] after h = h
Rise-suffix end (c ∷ before) after h = Rise-suffix end before after h.1

-- the part of clusters from one place on in which another place is
next_at : (end : ℕ) (cs : List Cluster) (n m : ℕ) → Rise end cs → (s : StartsAt end cs n) → n ≤ m → is_in (starts cs ++ end ∷ []) m ≡ true → StartsAt end s.after m
next_at end cs n m h s le found =
    starts_at end s.after m (in_rest end s.before s.after m (subst (Rise end) s.cs_are h) (omega (arith, s.start_is)) (subst (λ l. is_in (starts l ++ end ∷ []) m ≡ true) s.cs_are found))

-- Three boundaries in order cut the clusters in four.
pub record Between (end_of_text : ℕ) (all : List Cluster) (start middle end : ℕ) : Type 0 where
  pub before : List Cluster
  pub one : List Cluster
  pub two : List Cluster
  pub after : List Cluster
  pub all_are : all ≡ before ++ (one ++ (two ++ after))
  pub start_is : start_or end_of_text (one ++ (two ++ after)) ≡ start
  pub middle_is : start_or end_of_text (two ++ after) ≡ middle
  pub end_is : start_or end_of_text after ≡ end

between : (len : ℕ) (all : List Cluster) (start middle end : ℕ) → Rise len all → is_in (starts all ++ len ∷ []) start ≡ true → is_in (starts all ++ len ∷ []) middle ≡ true → is_in (starts all ++ len ∷ []) end ≡ true → start ≤ middle → middle ≤ end → Between len all start middle end
between len all start middle end rise has_start has_middle has_end low high =
    let first = starts_at len all start has_start in
    let parts_rise : Rise len (first.before ++ first.after) = subst (Rise len) first.cs_are rise in
    let second = next_at len all start middle rise first low has_middle in
    let last_in = in_rest len first.before first.after end parts_rise (omega (arith, first.start_is)) (subst (λ l. is_in (starts l ++ len ∷ []) end ≡ true) first.cs_are has_end) in
    let third = next_at len first.after middle end (Rise-suffix len first.before first.after parts_rise) second high last_in in
    let two : first.after ≡ second.before ++ (third.before ++ third.after) = second.cs_are ∙ ap (λ l. second.before ++ l) third.cs_are in
    record {
      before = first.before;
      one = second.before;
      two = third.before;
      after = third.after;
      all_are = first.cs_are ∙ ap (λ l. first.before ++ l) two;
      start_is = sym (ap (start_or len) two) ∙ first.start_is;
      middle_is = sym (ap (start_or len) third.cs_are) ∙ second.start_is;
      end_is = third.start_is;
    }

boundaries_between : PointLaws → (table : TableMap) (strength : Strength) (variable : Variable) (text : List ℕ) (start middle end : ℕ) → IsUtf8 text → Contains (boundaries table text) start → Contains (boundaries table text) middle → Contains (boundaries table text) end → start ≤ middle → middle ≤ end → Between (length text) (clusters table strength variable text) start middle end
boundaries_between laws table strength variable text start middle end utf8 has_start has_middle has_end low high =
    let len = length text in
    let all = clusters table strength variable text in
    let found = λ (n : ℕ) (h : Contains (boundaries table text) n). is_in-from_Contains (starts all ++ len ∷ []) n (subst (λ l. Contains l n) (boundaries_start laws table strength variable text utf8) h) in
    between len all start middle end (starts_rise laws table strength variable text utf8) (found start has_start) (found middle has_middle) (found end has_end) low high

pub elements_join : PointLaws → ElementsAreJoined
elements_join laws table variable text start middle end utf8 has_start has_middle has_end low high =
    let b = boundaries_between laws table One variable text start middle end utf8 has_start has_middle has_end low high in
    let of = elements_between table variable text in
    subst (λ n. of start n ≡ of start middle ++ of middle n) b.end_is
    (subst₂ (λ n m. of n (start_or (length text) b.after) ≡ of n m ++ of m (start_or (length text) b.after)) b.start_is b.middle_is
    (joined_at laws table One variable text b.before b.one b.two b.after utf8 b.all_are))

pub keys_join : PointLaws → KeysAreJoined
keys_join laws table strength variable text start middle end utf8 has_start has_middle has_end low high =
    let b = boundaries_between laws table strength variable text start middle end utf8 has_start has_middle has_end low high in
    let of = λ (from : ℕ) (to : ℕ). keys table strength variable (points (chars (part_between text from to))) in
    let at_start = start_or (length text) (b.one ++ (b.two ++ b.after)) in
    let at_middle = start_or (length text) (b.two ++ b.after) in
    let at_end = start_or (length text) b.after in
    let both : of at_start at_end ≡ joined (b.one ++ b.two) =
    ap (λ l. of (start_or (length text) l) at_end) (sym (append_assoc b.one b.two b.after))
    ∙ parts_have_keys laws table strength variable text b.before (b.one ++ b.two) b.after utf8 (b.all_are ∙ ap (λ l. b.before ++ l) (sym (append_assoc b.one b.two b.after))) in
    let first : of at_start at_middle ≡ joined b.one = parts_have_keys laws table strength variable text b.before b.one (b.two ++ b.after) utf8 b.all_are in
    let second : of at_middle at_end ≡ joined b.two =
    parts_have_keys laws table strength variable text (b.before ++ b.one) b.two b.after utf8 (b.all_are ∙ sym (append_assoc b.before b.one (b.two ++ b.after))) in
    let joins : of at_start at_end ≡ of at_start at_middle ++ of at_middle at_end =
    both ∙ flat_map-append (λ (c : Cluster). c.keys) b.one b.two ∙ sym (ap₂ (λ x y. x ++ y) first second) in
    subst (λ n. of start n ≡ of start middle ++ of middle n) b.end_is
    (subst₂ (λ n m. of n at_end ≡ of n m ++ of m at_end) b.start_is b.middle_is joins)
