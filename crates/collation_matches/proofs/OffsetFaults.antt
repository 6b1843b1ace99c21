-- The fault of the rest of a text is that of the text: from the beginning of a cluster on, runs of non-starters begin anew.
use Rattle.std.proofs.Common.{◌≡◌, ℕ, zero, suc, ◌+◌, ◌≤◌, ◌&&◌, Bool, true, false, cond, not, ◌==◌, nat_lt, List, [], ◌∷◌, ◌++◌, length, take, drop, flat_map, Option, Some, None, refl, sym, ap, ap₂, ◌∙◌, subst, arith, inl, inr}
use Rattle.std.proofs.lemmas.Bool.{cases_Bool, and_parts, le-ltb, lt-ltb, ltb-true, ltb-false}
use Rattle.std.proofs.lemmas.List.{append_cancel_left, append_assoc, length-append, length-drop, length-take, take-append-drop, take_all, nil_from_length}
use Rattle.std.proofs.lemmas.Option.{none-some}
use Rattle.std.proofs.lemmas.Str.{chars-append}
use Rattle.std.proofs.Math.Seq.{take-append-add}
use Rattle.std.specs.Char.{len_utf8}
use Rattle.std.specs.Str.{chars, IsUtf8}
use Rattle.unicode_normalization.specs.Lookups.{canonical_combining_class}
use Rattle.unicode_normalization.specs.Order.{is_nonstarter}
use Rattle.utf8_cut.specs.Characters.{characters_end}
use Rattle.nfd_points.specs.declared.limits.TheConstants.{MOST_DECOMPOSITION}
use Rattle.nfd_points.specs.declared.points.Point.{Point}
use Rattle.nfd_points.specs.Laws.{DecompositionsAreShort, FaultInPrefix, OrderingCounts, StartersStay}
use Rattle.nfd_points.specs.PointFaults.{part_fault, fault_of_code_point, run_after, fault_from, point_fault}
use Rattle.nfd_points.specs.Points.{byte_len, decomposition, is_starter, ordered, points, points_at, points_from}
use Rattle.nfd_points.proofs.RunLemmas.{run_after-starter, short-starter}
use Rattle.collation_table.specs.Table.{TableMap}
use Rattle.collation_elements.specs.Context.{UnitsPartWhereClustersBegin}
use Rattle.collation_elements.specs.Elements.{begins_cluster, begins_primary, unit_row}
use Rattle.collation_elements.specs.Units.{Cut, extended, first_unit, joins, prefix_length, units}
use Rattle.collation_matches.specs.declared.faults.TextFault.{TextFault}
use Rattle.collation_matches.specs.declared.faults.TheConstants.TextFault.{ILL_FORMED}
use Rattle.collation_matches.specs.GoodPrefix.{most_bytes, whole, byte_fault, first_of, fault}
use Rattle.collation_matches.specs.Offsets.{fault_moved}
use Rattle.collation_matches.proofs.LagTexts.{TextLaws, begins-chars}
use Rattle.collation_matches.proofs.OffsetBoundaries.{CutAt, CutBytes, cut-bytes}
use Rattle.collation_matches.proofs.SearchLemmas.{IsGoodPrefix, either, fault_here, fault_later, no_fault, take_within, whole_of_text}
use Rattle.collation_matches.proofs.TextCheckLemmas.{seen_short}

-- ---- a run that begins anew

-- the decomposition of the first code point begins with a starter
abbrev pub BeginsAnew : List ℕ → Type 0
BeginsAnew [] = Unit {0}
BeginsAnew (c ∷ cs) = (d : ℕ) × (ds : List ℕ) × (decomposition c ≡ d ∷ ds) × (is_nonstarter d ≡ false)

code_point-anew : (run c d : ℕ) (ds : List ℕ) → decomposition c ≡ d ∷ ds → is_nonstarter d ≡ false → fault_of_code_point run c ≡ fault_of_code_point 0 c
unfolding fault_of_code_point
code_point-anew run c d ds e h =
    let decide : Bool → Option ℕ = λ short. cond (nat_lt MOST_DECOMPOSITION (length (d ∷ ds))) (Some 33) (cond short None (Some 32)) in
    ap (part_fault run) e ∙ ap decide (short-starter run d ds h ∙ sym (short-starter 0 d ds h)) ∙ sym (ap (part_fault 0) e)

-- so what stood before does not count
pub fault-anew : (start run : ℕ) (cs : List ℕ) → BeginsAnew cs → fault_from start run cs ≡ fault_from start 0 cs
fault-anew start run [] h = no_fault start run ∙ sym (no_fault start 0)
fault-anew start run (c ∷ cs) (d, ds, e, h) =
    let same = code_point-anew run c d ds e h in
    elim (either (fault_of_code_point run c)) [
      | inl none ↦
          let after : run_after run (decomposition c) ≡ run_after 0 (decomposition c) = ap (run_after run) e ∙ run_after-starter run d ds h ∙ sym (run_after-starter 0 d ds h) ∙ sym (ap (run_after 0) e) in
          fault_later start run c cs none ∙ ap (λ n. fault_from (start + len_utf8 c) n cs) after ∙ sym (fault_later start 0 c cs (sym same ∙ none))
      | inr some ↦ fault_here start run c some.0 cs some.1 ∙ sym (fault_here start 0 c some.0 cs (sym same ∙ some.1))
    ]

-- ---- counted from another offset

abbrev place_moved : ℕ → Option (ℕ × ℕ) → Option (ℕ × ℕ)
place_moved by None = None
place_moved by (Some at) = Some (by + at.0, at.1)

pub fault-moved : (by start run : ℕ) (cs : List ℕ) → fault_from (by + start) run cs ≡ place_moved by (fault_from start run cs)
fault-moved by start run [] = no_fault (by + start) run ∙ ap (place_moved by) (sym (no_fault start run))
fault-moved by start run (c ∷ cs) =
    elim (either (fault_of_code_point run c)) [
      | inl none ↦
          let next : (by + start) + len_utf8 c ≡ by + (start + len_utf8 c) = omega arith in
          fault_later (by + start) run c cs none
          ∙ ap (λ n. fault_from n (run_after run (decomposition c)) cs) next
          ∙ fault-moved by (start + len_utf8 c) (run_after run (decomposition c)) cs
          ∙ ap (place_moved by) (sym (fault_later start run c cs none))
      | inr some ↦ fault_here (by + start) run c some.0 cs some.1 ∙ ap (place_moved by) (sym (fault_here start run c some.0 cs some.1))
    ]

-- ---- the first point of the first unit

abbrev Head : Point → Cut → Type 0
Head q cut = (more : List Point) × (cut.unit ≡ q ∷ more)

head-cond : (q : Point) (s j : Bool) (stop taken left : Cut) → Head q stop → Head q taken → Head q left → Head q (cond s stop (cond j taken left))
head-cond q true j stop taken left a b c = a
head-cond q false true stop taken left a b c = b
head-cond q false false stop taken left a b c = c

head-extended : (table : TableMap) (q : Point) (us between ps : List Point) → Head q (extended table (q ∷ us) between ps)
head-extended table q us between [] = (us, refl)
head-extended table q us between (c ∷ ps) =
    head-cond q (is_starter c) (joins table (q ∷ us) between c)
    (record { unit = q ∷ us; rest = between ++ c ∷ ps }) (extended table (q ∷ (us ++ c ∷ [])) between ps) (extended table (q ∷ us) (between ++ c ∷ []) ps)
    (us, refl) (head-extended table q (us ++ c ∷ []) between ps) (head-extended table q us (between ++ c ∷ []) ps)

take-first : (n : ℕ) (q : Point) (qs : List Point) → 1 ≤ n → (more : List Point) × (take n (q ∷ qs) ≡ q ∷ more)
take-first zero q qs h = absurd (omega arith)
take-first (suc n) q qs h = (take n qs, refl)

head-first : (table : TableMap) (q : Point) (qs : List Point) → Head q (first_unit table q qs)
head-first table q qs =
    let n = prefix_length table (q ∷ qs) in
    let front = take-first n q qs (omega arith) in
    let h = head-extended table q front.0 [] (drop n (q ∷ qs)) in
    (h.0, ap (λ (u : List Point). (extended table u [] (drop n (q ∷ qs))).unit) front.1 ∙ h.1)

-- what this rests on
pub record RestLaws : Type 0 where
  pub texts : TextLaws
  pub in_prefix : FaultInPrefix
  pub starters : StartersStay
  pub counts : OrderingCounts
  pub short : DecompositionsAreShort
  pub ends : (text bytes : List ℕ) → IsUtf8 text → characters_end (text ++ bytes) ≡ length text + characters_end bytes
  pub parts : UnitsPartWhereClustersBegin

starter-begins : (table : TableMap) (q : Point) (more u : List Point) → u ≡ q ∷ more → begins_cluster table u ≡ true → is_starter q ≡ true
starter-begins table q more u e h =
    let here : begins_cluster table (q ∷ more) ≡ true = sym (ap (begins_cluster table) e) ∙ h in
    (and_parts q.first (is_starter q) (and_parts (q.first && is_starter q) (begins_primary (unit_row table (q ∷ more))) here).0).1

-- the first point, where a unit that begins a cluster is the first
first-starter : (table : TableMap) (ps u : List Point) (vs : List (List Point)) → units table ps ≡ u ∷ vs → begins_cluster table u ≡ true →
    (q : Point) × (qs : List Point) × (ps ≡ q ∷ qs) × (is_starter q ≡ true)
first-starter table [] u vs e h = absurd cc
first-starter table (q ∷ qs) u vs e h =
    let head = head-first table q qs in
    let same : (first_unit table q qs).unit ≡ u = cc in
    (q, qs, refl, starter-begins table q head.0 u (sym same ∙ head.1) h)

abbrev class_of : List Point → ℕ
class_of [] = 0
class_of (p ∷ ps) = p.ccc

first_of_decomposition : (ds : List ℕ) (q : Point) (ys rest : List Point) → 1 ≤ length ds → points_at 0 true ds ++ rest ≡ q ∷ ys → is_starter q ≡ true →
    (d : ℕ) × (es : List ℕ) × (ds ≡ d ∷ es) × (is_nonstarter d ≡ false)
unfolding points_at
first_of_decomposition [] q ys rest some e h = absurd (omega arith)
first_of_decomposition (d ∷ ds) q ys rest some e h =
    let class : canonical_combining_class d ≡ q.ccc = ap (λ (ps : List Point). class_of ps) e in
    (d, ds, refl, ap (λ n. not (n == 0)) class ∙ ap not h)

unfolded : (c : ℕ) (cs : List ℕ) → points_from 0 (c ∷ cs) ≡ points_at 0 true (decomposition c) ++ points_from (0 + len_utf8 c) cs
unfolding points_from
unfolded c cs = refl

begins-anew : RestLaws → (cs : List ℕ) (q : Point) (qs : List Point) → points cs ≡ q ∷ qs → is_starter q ≡ true → BeginsAnew cs
begins-anew laws [] q qs e h = tt
begins-anew laws (c ∷ cs) q qs e h =
    let s = laws.starters (points_from 0 (c ∷ cs)) [] q qs h e in
    let none : s.0 ≡ [] = nil_from_length s.0 (sym (laws.counts s.0) ∙ ap (λ (l : List Point). length l) s.3) in
    let first : points_from 0 (c ∷ cs) ≡ q ∷ s.1 = s.2 ∙ ap (λ (l : List Point). l ++ q ∷ s.1) none in
    first_of_decomposition (decomposition c) q s.1 (points_from (0 + len_utf8 c) cs) (laws.short c).0 (sym (unfolded c cs) ∙ first) h

-- the rest of a text that is cut where a cluster begins
pub rest-anew : RestLaws → (table : TableMap) (text : List ℕ) (from : ℕ) → (c : CutAt table text from) → BeginsAnew c.following
rest-anew laws table text from c =
    let first = first-starter table (points c.following) c.unit c.units_are.0 c.units_are.1 c.begins in
    begins-anew laws c.following first.0 first.1 first.2 first.3

-- and so with more behind it
anew-more : (table : TableMap) (u : List Point) (vs : List (List Point)) (xs zs : List ℕ) → units table (points xs) ≡ u ∷ vs → BeginsAnew xs → BeginsAnew (xs ++ zs)
unfolding points_from ordered
anew-more table u vs [] zs e h = absurd cc
anew-more table u vs (x ∷ xs) zs e h = h

-- ---- bytes

first_of-moved : (by : ℕ) (at : Option (ℕ × ℕ)) (later : Option TextFault) → first_of (place_moved by at) (fault_moved by later) ≡ fault_moved by (first_of at later)
first_of-moved by None later = refl
first_of-moved by (Some at) later = refl

ill-moved : (by n : ℕ) (test : Bool) → cond test (Some (record { kind = ILL_FORMED; offset = by + n })) None ≡ fault_moved by (cond test (Some (record { kind = ILL_FORMED; offset = n })) None)
ill-moved by n true = refl
ill-moved by n false = refl

shifted-test : (by a b : ℕ) → nat_lt (by + a) (by + b) ≡ nat_lt a b
shifted-test by a b =
    elim (cases_Bool (nat_lt a b)) [
      | inl less ↦ let l = ltb-true a b less in lt-ltb (by + a) (by + b) (omega (arith, l)) ∙ sym less
      | inr more ↦ let m = ltb-false a b more in le-ltb (by + a) (by + b) (omega (arith, m)) ∙ sym more
    ]

short-fault : (bytes : List ℕ) → length bytes ≤ most_bytes → byte_fault bytes ≡ cond (nat_lt (characters_end bytes) (length bytes)) (Some (record { kind = ILL_FORMED; offset = characters_end bytes })) None
short-fault bytes h = let under = le-ltb most_bytes (length bytes) h in let same = seen_short bytes h in rw (under, same) refl

byte_fault-moved : (front rest : List ℕ) (by : ℕ) → length front ≡ by → length (front ++ rest) ≤ most_bytes → characters_end (front ++ rest) ≡ by + characters_end rest →
    byte_fault (front ++ rest) ≡ fault_moved by (byte_fault rest)
byte_fault-moved front rest by len few end =
    let sum : length (front ++ rest) ≡ by + length rest = length-append front rest ∙ ap (λ n. n + length rest) len in
    let test : nat_lt (characters_end (front ++ rest)) (length (front ++ rest)) ≡ nat_lt (characters_end rest) (length rest) = ap₂ nat_lt end sum ∙ shifted-test by (characters_end rest) (length rest) in
    let answer : Bool → ℕ → Option TextFault = λ t n. cond t (Some (record { kind = ILL_FORMED; offset = n })) None in
    short-fault (front ++ rest) few
    ∙ ap₂ answer test end
    ∙ ill-moved by (characters_end rest) (nat_lt (characters_end rest) (length rest))
    ∙ ap (fault_moved by) (sym (short-fault rest (omega (arith, few, sum))))

module _ (laws : RestLaws) (table : TableMap) (bytes text : List ℕ) (n from : ℕ) (good : IsGoodPrefix bytes text n) (few : length bytes ≤ most_bytes) (c : CutAt table text from) where
  abbrev rest : List ℕ
  rest = drop from bytes

  abbrev front : List ℕ
  front = take from bytes

  cut : CutBytes text from c.before c.following
  cut = cut-bytes table text from good.text c

  front-is : take from text ≡ front
  front-is =
      let upto : from ≤ length (take n bytes) = omega (arith, cut.within, ap (λ (l : List ℕ). length l) good.taken) in
      ap (take from) (sym good.taken) ∙ take_within from n bytes upto

  front-utf8 : IsUtf8 front
  front-utf8 =
      let scalars = c.scalars in subst IsUtf8 (sym cut.front_is ∙ front-is) (c.before, (scalars, refl))

  bytes-are : front ++ rest ≡ bytes
  bytes-are = take-append-drop from bytes

  front-len : length front ≡ from
  front-len =
      let l = ap (λ (t : List ℕ). length t) good.taken in
      omega (arith, length-take from bytes, length-take n bytes, l, cut.within)

  end-moved : characters_end bytes ≡ from + characters_end rest
  end-moved = ap characters_end (sym bytes-are) ∙ laws.ends front rest front-utf8 ∙ ap (λ k. k + characters_end rest) front-len

  -- the code points of the bytes are those before the cut, and those of the rest
  chars-parts : chars (whole bytes) ≡ c.before ++ chars (whole rest)
  chars-parts =
      let same : whole bytes ≡ front ++ whole rest =
      ap₂ (λ k (t : List ℕ). take k t) (end-moved ∙ ap (λ k. k + characters_end rest) (sym front-len)) (sym bytes-are) ∙ take-append-add front rest (characters_end rest) in
      let before : chars front ≡ c.before = ap chars (sym front-is) ∙ cut.front_chars in
      ap chars same ∙ chars-append front (whole rest) front-utf8 ∙ ap (λ (l : List ℕ). l ++ chars (whole rest)) before

  -- those of the rest begin with those of the good text behind the cut
  rest-chars : (zs : List ℕ) × (chars (whole rest) ≡ c.following ++ zs)
  rest-chars =
      let own = whole_of_text laws.texts.longest text good.text in
      let upto : n ≤ characters_end bytes = laws.texts.longest bytes n good.within (subst IsUtf8 (sym good.taken) good.text) in
      let end : characters_end text ≡ n = ends-itself in
      let begins : take (characters_end text) (whole bytes) ≡ whole text = ap (λ k. take k (whole bytes)) end ∙ take_within n (characters_end bytes) bytes (omega (arith, upto, length-take (characters_end bytes) bytes, good.within)) ∙ good.taken ∙ sym own in
      let zs = chars (drop (characters_end text) (whole bytes)) in
      let all : chars (whole bytes) ≡ chars text ++ zs = begins-chars laws.texts text (whole bytes) begins ∙ ap (λ (t : List ℕ). chars t ++ zs) own in (
        zs,
        append_cancel_left c.before (chars (whole rest)) (c.following ++ zs)
            (sym chars-parts ∙ all ∙ ap (λ (l : List ℕ). l ++ zs) c.text_is ∙ append_assoc c.before c.following zs),
      )
    where
      ends-itself : characters_end text ≡ n
      ends-itself =
          let len : length text ≡ n = sym (ap (λ (l : List ℕ). length l) good.taken) ∙ length-take n bytes ∙ omega (arith, good.within) in
          let all = laws.texts.longest text (length text) (omega arith) (subst IsUtf8 (sym (take_all (length text) text (omega arith))) good.text) in
          omega (arith, len, all, laws.texts.within text)

  none-before : point_fault c.before ≡ None
  none-before =
      elim (either (point_fault c.before)) [
        | inl none ↦ none
        | inr some ↦
            let whole_fault = laws.in_prefix 0 0 c.before c.following some.0 some.1 in
            let none : point_fault (c.before ++ c.following) ≡ None = ap point_fault (sym c.text_is) ∙ good.sound in
            absurd (none-some some.0 (sym none ∙ whole_fault))
      ]

  point_fault-moved : point_fault (chars (whole bytes)) ≡ place_moved from (point_fault (chars (whole rest)))
  point_fault-moved =
      let ys = chars (whole rest) in
      let run = run_after 0 (flat_map decomposition c.before) in
      let anew : BeginsAnew ys = subst BeginsAnew (sym rest-chars.1) (anew-more table c.unit c.units_are.0 c.following rest-chars.0 c.units_are.1 (rest-anew laws table text from c)) in
      let start : 0 + byte_len c.before ≡ from + 0 = omega (arith, c.from_is) in
      ap point_fault chars-parts
      ∙ laws.texts.faults 0 0 c.before ys none-before
      ∙ ap (λ k. fault_from k run ys) start
      ∙ fault-anew (from + 0) run ys anew
      ∙ fault-moved from 0 0 ys

  pub cut-fault : fault bytes ≡ fault_moved from (fault rest)
  cut-fault =
      let fewer : length rest ≤ most_bytes = omega (arith, length-drop from bytes, few) in
      let there : fault bytes ≡ first_of (point_fault (chars (whole bytes))) (byte_fault bytes) = ap (λ (t : List ℕ). first_of (point_fault (chars (whole t))) (byte_fault bytes)) (seen_short bytes few) in
      let here : fault rest ≡ first_of (point_fault (chars (whole rest))) (byte_fault rest) = ap (λ (t : List ℕ). first_of (point_fault (chars (whole t))) (byte_fault rest)) (seen_short rest fewer) in
      let byte : byte_fault bytes ≡ fault_moved from (byte_fault rest) =
      ap byte_fault (sym bytes-are)
      ∙ byte_fault-moved front rest from front-len (subst (λ (t : List ℕ). length t ≤ most_bytes) (sym bytes-are) few) (ap characters_end bytes-are ∙ end-moved) in
      there
      ∙ ap₂ first_of point_fault-moved byte
      ∙ first_of-moved from (point_fault (chars (whole rest))) (byte_fault rest)
      ∙ ap (fault_moved from) (sym here)
