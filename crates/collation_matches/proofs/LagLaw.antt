-- A range of a text is found once a bounded number of code points from its end on were taken: the unit that ends it has then
-- left the window, for those that wait and those in the window are few, and each code point has a point.
use Rattle.std.proofs.Common.{◌≡◌, ℕ, zero, suc, ◌+◌, ◌-◌, ◌<◌, ◌≤◌, Bool, true, false, Contains, List, [], ◌∷◌, ◌++◌, length, drop, refl, sym, ap, ◌∙◌, subst, arith, inl, inr, append_assoc, append-nil}
use Rattle.std.specs.Str.{chars, IsUtf8}
use Rattle.std.proofs.lemmas.Bool.{false≢true}
use Rattle.std.proofs.lemmas.Str.{encodes-chars}
use Rattle.utf8_cut.specs.Characters.{characters_end}
use Rattle.nfd_points.specs.declared.limits.TheConstants.{MOST_WAITING}
use Rattle.nfd_points.specs.declared.points.Point.{Point}
use Rattle.nfd_points.specs.Points.{byte_len, points_from, points, ordered}
use Rattle.nfd_points.specs.Reordering.{Waiting, HasReordered}
use Rattle.nfd_points.specs.Laws.{DecompositionsAreShort, WaitingAreOthers}
use Rattle.collation_table.specs.Table.{TableMap}
use Rattle.collation_elements.specs.declared.settings.Variable.{Variable}
use Rattle.collation_elements.specs.declared.settings.Strength.{Strength}
use Rattle.collation_elements.specs.declared.keys.Key.{Key}
use Rattle.collation_elements.specs.Units.{units}
use Rattle.collation_elements.specs.Elements.{begins_cluster}
use Rattle.collation_elements.specs.Items.{items}
use Rattle.collation_elements.specs.Weighing.{after_units}
use Rattle.collation_elements.specs.Boundaries.{boundaries}
use Rattle.collation_elements.specs.Clusters.{Cluster, clusters, clusters_from, starts}
use Rattle.collation_elements.specs.Context.{UnitsPartWhereClustersBegin, BoundariesAreStarts}
use Rattle.collation_elements.specs.Windows.{Held, WindowStandsFor}
use Rattle.collation_pattern.specs.Levels.{text_keys}
use Rattle.collation_matches.specs.Answer.{answer}
use Rattle.collation_matches.specs.GoodPrefix.{whole}
use Rattle.collation_matches.specs.Matches.{matches}
use Rattle.collation_matches.specs.ByClusters.{text_begin, found, found_within, found_before_last}
use Rattle.collation_matches.specs.ByClustersLaws.{matches_are_found}
use Rattle.collation_matches.specs.Lag.{code_points_from, HasReadClusters, ranges_are_found_in_time, settled_ranges_are_found_in_time, matches_are_found_in_time, answers_are_found_in_time}
use Rattle.collation_matches.proofs.BridgeLists.{In, Rising, in_append, in_left}
use Rattle.collation_matches.proofs.BridgeRanges.{Below}
use Rattle.collation_matches.proofs.BridgeMatches.{rising_boundaries}
use Rattle.collation_matches.proofs.TextCheckLemmas.{byte_len_encoded}
use Rattle.collation_matches.proofs.LagCounts.{count, count-append, count-le, count_in, count_in-append, count_in-units, count-ordered, stands_from, count-past, code_points-have_points}
use Rattle.collation_matches.proofs.LagRanges.{found-in_time, found-ends, boundary-start, BeginsAt, start-begins, items-append, unit-item, begins-with, item-start, starts-rise}
use Rattle.collation_matches.proofs.LagTexts.{TextLaws, begins-chars, answers}

-- the laws of the lower crates that this one rests on
pub record LagLaws : Type 0 where
  pub short : DecompositionsAreShort
  pub others : WaitingAreOthers
  pub parts : UnitsPartWhereClustersBegin
  pub bounded : BoundariesAreStarts

byte_len-append : (xs ys : List ℕ) → byte_len (xs ++ ys) ≡ byte_len xs + byte_len ys
unfolding byte_len
byte_len-append [] ys = omega arith
byte_len-append (x ∷ xs) ys = let rest = byte_len-append xs ys in omega arith

-- ---- a unit that the window has not let go

-- where no point of the units that were cut passes a test, those given that pass it are in the window
given-left : (table : TableMap) (test : Point → Bool) (window : Held) (given : List Point) (us : List (List Point)) →
    WindowStandsFor table window given us → count_in test us ≡ 0 → count test given ≤ length window.points
given-left table test window given us cut none =
    let all = ap (count_in test) (cut.continues [] (λ ended. refl)) in
    let left = count_in-units table test (given ++ []) in
    let right = count_in-units table test (window.points ++ []) in
    let parts = count_in-append test us (units table (window.points ++ [])) in
    omega (arith, none, all, left, right, parts, count-append test given [], count-append test window.points [], count-le test window.points)

-- the points of the code points taken were given, or wait
taken-given : LagLaws → (test : Point → Bool) (taken : List ℕ) (waiting : Waiting) (given : List Point) → HasReordered waiting taken given →
    count test (points_from 0 taken) ≤ count test given + MOST_WAITING
taken-given laws test taken waiting given reordered =
    let all = ap (count test) (laws.others waiting taken given reordered) in
    let parts = count-append test given waiting.held in
    omega (arith, all, parts, count-ordered test (points_from 0 taken), count-le test waiting.held, reordered.held.few)

-- From the offset of a unit that begins a cluster on, there are as many code points at most as points in the window, and `MOST_WAITING`.
held_back : LagLaws → (table : TableMap) (taken more : List ℕ) (waiting : Waiting) (window : Held) (given : List Point) (us vs : List (List Point)) (p : Point) (ps : List Point) (ws : List (List Point)) →
    HasReordered waiting taken given → WindowStandsFor table window given us →
    begins_cluster table (p ∷ ps) ≡ true → units table (points (taken ++ more)) ≡ (us ++ vs) ++ (p ∷ ps) ∷ ws →
    code_points_from p.offset taken ≤ length window.points + MOST_WAITING
held_back laws table taken more waiting window given us vs p ps ws reordered cut begins all =
    let test = stands_from p.offset in
    let parts = laws.parts table (taken ++ more) (us ++ vs) p ps ws begins all in
    let before = count-ordered test (points_from 0 parts.before) ∙ count-past p.offset 0 parts.before (omega (arith, parts.start_is)) in
    let none : count_in test (us ++ vs) ≡ 0 = sym (ap (count_in test) parts.before_units) ∙ count_in-units table test (points parts.before) ∙ before in
    let left = given-left table test window given us cut (omega (arith, none, count_in-append test us vs)) in
    let taken_points = taken-given laws test taken waiting given reordered in
    let some = code_points-have_points laws.short p.offset taken in
    omega (arith, left, taken_points, some)

-- no code point stands after the end of the text
none_after : LagLaws → (taken more text : List ℕ) → IsUtf8 text → chars text ≡ taken ++ more → code_points_from (length text) taken ≤ 0
none_after laws taken more text utf8 same =
    let len = ap length (encodes-chars text utf8) in
    let bytes = byte_len_encoded (chars text) in
    let parts = ap byte_len same in
    let none = count-past (length text) 0 taken (omega (arith, len, bytes, parts, byte_len-append taken more)) in
    let some = code_points-have_points laws.short (length text) taken in
    omega (arith, none, some)

-- ---- the clusters of the text

pub record IsSplitAround {A : Type 0} (xs : List A) (x : A) : Type 0 where
  pub before : List A
  pub after : List A
  pub are : xs ≡ before ++ x ∷ after

pub splits : {A : Type 0} (xs : List A) (x : A) → In xs x → IsSplitAround xs x
splits [] x h = absurd h
splits (y ∷ ys) x (inl e) = record { before = []; after = ys; are = ap (λ z. z ∷ ys) e }
splits (y ∷ ys) x (inr h) = let s = splits ys x h in record { before = y ∷ s.before; after = s.after; are = ap (λ zs. y ∷ zs) s.are }

-- ---- ranges of a text that is not empty

-- an offset at which a unit of the text begins a cluster, and after which enough was taken, is at most the start of the current cluster
in_time : LagLaws → (table : TableMap) (strength : Strength) (variable : Variable) (taken more : List ℕ) (waiting : Waiting) (window : Held) (ended : List Cluster) (current : Cluster) (c : Cluster) (following : List Cluster) (vs : List (List Point)) (at end : ℕ) →
    (w : HasReadClusters table strength variable taken waiting window ended current) → units table (points (taken ++ more)) ≡ w.units ++ vs →
    current.start ≡ c.start → Rising Below (starts (ended ++ c ∷ following) ++ end ∷ []) →
    length window.points + (MOST_WAITING + 1) ≤ code_points_from at taken → 0 < at → BeginsAt table (units table (points (taken ++ more))) at → at ≤ c.start
in_time laws table strength variable taken more waiting window ended current c following vs at end w all_units same up enough some b =
    elim (in_append w.units vs (b.p ∷ b.ps) (subst (λ us. In us (b.p ∷ b.ps)) all_units b.among)) [
      | inl given ↦
          let all = items table strength variable false w.units in
          let item = unit-item table strength variable false w.units b.p b.ps given b.begins in
          let started = item-start text_begin all b.p.offset item (omega (arith, some, b.offset)) in
          let so_far : clusters_from text_begin all ≡ ended ++ current ∷ [] = ap (clusters_from text_begin) (sym (append-nil all)) ∙ w.clusters [] in
          let le = starts-rise ended current c following end b.p.offset same up (subst (λ (cs : List Cluster). In (starts cs) b.p.offset) so_far started) in
          omega (arith, le, b.offset)
      | inr held ↦
          let s = splits vs (b.p ∷ b.ps) held in
          let cut : units table (points (taken ++ more)) ≡ (w.units ++ s.before) ++ (b.p ∷ b.ps) ∷ s.after =
          all_units ∙ ap (λ us. w.units ++ us) s.are ∙ sym (append_assoc w.units s.before ((b.p ∷ b.ps) ∷ s.after)) in
          let few = held_back laws table taken more waiting window w.given w.units s.before b.p b.ps s.after w.reordered w.cut b.begins cut in
          let same_count = ap (λ n. code_points_from n taken) b.offset in
          absurd (omega (arith, few, same_count, enough))
    ]

some_text : LagLaws → (table : TableMap) (strength : Strength) (variable : Variable) (pattern : List Key) (b : ℕ) (bs taken more : List ℕ) (waiting : Waiting) (window : Held) (ended : List Cluster) (current : Cluster) (range : ℕ × ℕ) →
    IsUtf8 (b ∷ bs) → chars (b ∷ bs) ≡ taken ++ more → HasReadClusters table strength variable taken waiting window ended current →
    length window.points + (MOST_WAITING + 1) ≤ code_points_from range.1 taken →
    In (found pattern (clusters table strength variable (b ∷ bs)) (length (b ∷ bs))) range → In (found pattern ended current.start) range
some_text laws table strength variable pattern b bs taken more waiting window ended current range utf8 same w enough h =
    let text = b ∷ bs in
    let end = length text in
    let cs = clusters table strength variable text in
    let later = ordered (waiting.held ++ points_from (byte_len taken) more) in
    let vs = units table (window.points ++ later) in
    let all_units : units table (points (taken ++ more)) ≡ w.units ++ vs =
    ap (units table) (w.reordered.continues more) ∙ w.cut.continues later (λ reported. absurd (false≢true (sym w.goes_on ∙ reported))) in
    let whole_text : units table (points (chars text)) ≡ w.units ++ vs = ap (λ l. units table (points l)) same ∙ all_units in
    let rest = items table strength variable (after_units table variable false w.units) vs in
    let first = begins-with current rest in
    let all : cs ≡ ended ++ first.first ∷ first.following =
    ap (λ us. clusters_from text_begin (items table strength variable false us)) whole_text
    ∙ ap (clusters_from text_begin) (items-append table strength variable false w.units vs)
    ∙ w.clusters rest
    ∙ ap (λ (l : List Cluster). ended ++ l) first.are in
    let law = laws.bounded table strength variable text utf8 in
    let up : Rising Below (starts cs ++ end ∷ []) = subst (Rising Below) law (rising_boundaries table text) in
    let up_all = subst (λ (l : List Cluster). Rising Below (starts l ++ end ∷ [])) all up in
    let ends = found-ends pattern end cs range up h in
    let boundary : In (boundaries table text) range.1 = subst (λ l. In l range.1) (sym law) ends.0 in
    let before : range.1 ≤ first.first.start =
    elim (boundary-start table text range.1 boundary ends.1) [
      | inl last ↦
          let none = none_after laws taken more text utf8 same in
          let same_count = ap (λ n. code_points_from n taken) last in
          absurd (omega (arith, none, same_count, enough))
      | inr start ↦
          let begins = start-begins table (points (chars text)) range.1 start in
          in_time laws table strength variable taken more waiting window ended current first.first first.following vs range.1 end w all_units (sym first.start) up_all enough ends.1
          (subst (λ l. BeginsAt table (units table (points l)) range.1) same begins)
    ] in
    subst (λ n. In (found pattern ended n) range) first.start
    (found-in_time pattern end ended first.first first.following range up_all (subst (λ (l : List Cluster). In (found pattern l end) range) all h) before)

-- ---- any text

pub contains-in : {A : Type 0} (xs : List A) (x : A) → Contains xs x → In xs x
contains-in [] x (k, lt, e) = absurd (omega arith)
contains-in (y ∷ ys) x (zero, lt, e) = inl e
contains-in (y ∷ ys) x (suc k, lt, e) = inr (contains-in ys x (k, omega arith, e))

pub in-contains : {A : Type 0} (xs : List A) (x : A) → In xs x → Contains xs x
in-contains [] x h = absurd h
in-contains (y ∷ ys) x (inl e) = (zero, omega arith, e)
in-contains (y ∷ ys) x (inr h) = let c = in-contains ys x h in (suc c.0, omega (arith, c.1), c.2)

pub ranges-found : LagLaws → ranges_are_found_in_time
ranges-found laws table strength variable pattern [] taken more waiting window ended current range utf8 same w enough h = absurd (contains-in [] range h)
ranges-found laws table strength variable pattern (b ∷ bs) taken more waiting window ended current range utf8 same w enough h =
    let all = found pattern (clusters table strength variable (b ∷ bs)) (length (b ∷ bs)) in
    in-contains (found pattern ended current.start) range
    (some_text laws table strength variable pattern b bs taken more waiting window ended current range utf8 same w enough (contains-in all range h))

in_found_before_last : (pattern : List Key) (cs : List Cluster) (end n : ℕ) (range : ℕ × ℕ) → In (found_within pattern cs end (n - 1)) range → In (found_within pattern cs end n) range
in_found_before_last pattern cs end zero range h = h
in_found_before_last pattern cs end (suc n) range h =
    let e : suc n - 1 ≡ n = omega arith in
    in_left (found_within pattern cs end n) _ range (subst (λ m. In (found_within pattern cs end m) range) e h)

pub settled-found_in_time : LagLaws → settled_ranges_are_found_in_time
settled-found_in_time laws table strength variable pattern text taken more waiting window ended current range utf8 same w enough h =
    let cs = clusters table strength variable text in
    let end = length text in
    ranges-found laws table strength variable pattern text taken more waiting window ended current range utf8 same w enough
    (in-contains (found pattern cs end) range
    (in_found_before_last pattern cs end (length cs) range (contains-in (found_before_last pattern cs end) range h)))

pub matches-found_in_time : ranges_are_found_in_time → (table : TableMap) → matches_are_found table → matches_are_found_in_time table
matches-found_in_time law table by_clusters strength variable pattern text taken more waiting window ended current range pattern_utf8 some utf8 same w few enough h =
    law table strength variable (text_keys table strength variable pattern) text taken more waiting window ended current range utf8 same w
    (omega (arith, few, enough))
    (subst (λ (rs : List (ℕ × ℕ)). Contains rs range) (by_clusters strength variable pattern text pattern_utf8 utf8 some) h)

pub answers-found_in_time : TextLaws → (table : TableMap) → matches_are_found_in_time table → answers_are_found_in_time table
answers-found_in_time laws table law strength variable pattern taken later waiting window ended current range pattern_utf8 some is_open_text w few enough h =
    let all = (answer table strength variable pattern (taken ++ later)).ranges in
    let a = answers laws table strength variable pattern taken later is_open_text in
    law strength variable pattern a.good (chars (whole taken)) (chars (drop (characters_end taken) a.good)) waiting window ended current range
    pattern_utf8 some a.text (begins-chars laws taken a.good a.begins) w few enough
    (in-contains (matches table strength variable pattern a.good) range (a.ranges range (contains-in all range h)))
