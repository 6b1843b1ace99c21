-- How many starters follow the place where units were cut early.
use Rattle.std.specs.Char.{len_utf8}
use Rattle.unicode_normalization.specs.Lookups.{canonical_combining_class}
use Rattle.std.proofs.Common.{◌≡◌, ◌∙◌, ℕ, suc, ◌+◌, ◌≤◌, Bool, true, false, cond, ◌&&◌, nat_le, List, [], ◌∷◌, ◌++◌, length, filter, refl, sym, ap, inl, inr, arith}
use Rattle.std.proofs.lemmas.Bool.{cases_Bool, cond-true, cond-false, and_parts, and_from, false≢true, le-leb, leb-true}
use Rattle.std.proofs.lemmas.Str.{len_utf8_bounds}
use Rattle.utf8_cut.specs.Characters.{with_offsets}
use Rattle.nfd_points.specs.declared.points.Point.{Point}
use Rattle.nfd_points.specs.Points.{decomposition, byte_len, points_at, points_of, points_from, points, is_starter, begins_with_starter, ordered}
use Rattle.nfd_points.specs.Reordering.{keep_up_to, up_to_last_starter}
use Rattle.nfd_points.specs.Laws.{DecompositionsAreShort}
use Rattle.collation_table.specs.Table.{TableMap, longest_mapped}
use Rattle.collation_elements.specs.Decided.{left_points, EarlyCutsAreMadeGood}
use Rattle.collation_matches.proofs.LagCounts.{count, count-append, count-le, count-ordered, count-past, stands_from}
use Rattle.collation_search.specs.Early.{starters_from, IsCutUpTo}
use Rattle.collation_search.specs.StateAfter.{final_points}
use Rattle.collation_finder.proofs.TakenAtOnceLemmas.{begins_anywhere}

-- ---- counting

abbrev pub flag : Bool → ℕ
flag true = 1
flag false = 0

count-first : (test : Point → Bool) (p : Point) (ps : List Point) → count test (p ∷ ps) ≡ flag (test p) + count test ps
count-first test p ps =
    elim (cases_Bool (test p)) [
      | inl passes ↦
          let one : count test (p ∷ []) ≡ 1 = ap (λ b. count (λ _. b) (p ∷ [])) passes in
          let here = ap flag passes in
          omega (arith, one, here)
      | inr fails ↦
          let none : count test (p ∷ []) ≡ 0 = ap (λ b. count (λ _. b) (p ∷ [])) fails in
          let here = ap flag fails in
          omega (arith, none, here)
    ]

flag-fewer : (a b : Bool) → (a ≡ true → b ≡ true) → flag a ≤ flag b
flag-fewer true b h = let one = ap flag (h refl) in omega (arith, one)
flag-fewer false b h = omega arith

count-fewer : (few many : Point → Bool) → ((p : Point) → few p ≡ true → many p ≡ true) → (ps : List Point) → count few ps ≤ count many ps
count-fewer few many h [] = omega arith
count-fewer few many h (p ∷ ps) =
    let rest = count-fewer few many h ps in
    let one = flag-fewer (few p) (many p) (h p) in
    omega (arith, rest, one, count-first few p ps, count-first many p ps)

-- those that fail the test may be left out
pub filter-first : {A : Type 0} (test : A → Bool) (x : A) (xs : List A) → length (filter test (x ∷ xs)) ≡ flag (test x) + length (filter test xs)
filter-first {A = A} test x xs = by_test (test x) (filter test xs) where
  by_test : (b : Bool) (rest : List A) → length (cond b (x ∷ rest) rest) ≡ flag b + length rest
  by_test true rest = omega arith
  by_test false rest = omega arith

pub filter-fewer : {A : Type 0} (few many : A → Bool) → ((x : A) → few x ≡ true → many x ≡ true) → (xs : List A) → length (filter few xs) ≤ length (filter many xs)
filter-fewer few many h [] = omega arith
filter-fewer few many h (x ∷ xs) =
    let rest = filter-fewer few many h xs in
    let one = flag-fewer (few x) (many x) (h x) in
    omega (arith, rest, one, filter-first few x xs, filter-first many x xs)

-- ---- starters at an offset or after it

abbrev starts_from : ℕ → Point → Bool
starts_from place p = nat_le place p.offset && is_starter p

not_both : (b : Bool) → b ≡ true → b ≡ false → ⊥
not_both b passes fails = false≢true (sym fails ∙ passes)

-- no starter waits
keep-counts : (place : ℕ) (p : Point) (ps : List Point) → count (starts_from place) (keep_up_to p ps) ≡ count (starts_from place) (p ∷ ps)
keep-counts place p [] =
    elim (cases_Bool (is_starter p)) [
      | inl starter ↦ ap (count (starts_from place)) (cond-true _ _ _ starter)
      | inr mark ↦
          let none : starts_from place p ≡ false = elim (cases_Bool (starts_from place p)) [
            | inl both ↦ absurd (not_both (is_starter p) (and_parts (nat_le place p.offset) (is_starter p) both).1 mark)
            | inr is ↦ is
          ] in
          let first = count-first (starts_from place) p [] in
          let zero = ap flag none in
          ap (count (starts_from place)) (cond-false _ _ _ mark) ∙ omega (arith, first, zero)
    ]
keep-counts place p (q ∷ qs) = refl

final-counts : (place : ℕ) (ps : List Point) → count (starts_from place) (up_to_last_starter ps) ≡ count (starts_from place) ps
unfolding up_to_last_starter
final-counts place [] = refl
final-counts place (p ∷ ps) =
    let rest = final-counts place ps in
    let here = keep-counts place p (up_to_last_starter ps) in
    omega (arith, rest, here, count-first (starts_from place) p ps, count-first (starts_from place) p (up_to_last_starter ps))

count-cons : (test : Point → Bool) (start c : ℕ) (cs : List ℕ) → count test (points_from start (c ∷ cs)) ≡ count test (points_of start c) + count test (points_from (start + len_utf8 c) cs)
unfolding points_from
count-cons test start c cs = count-append test (points_of start c) (points_from (start + len_utf8 c) cs)

-- a character that begins with a starter has one
one_starter : (place start : ℕ) (ds : List ℕ) → 1 ≤ length ds → place ≤ start → begins_with_starter (points_at start true ds) ≡ true → 1 ≤ count (starts_from place) (points_at start true ds)
unfolding points_at
one_starter place start [] some after begins = absurd (omega (arith, some))
one_starter place start (d ∷ ds) some after begins =
    let p : Point = record { cp = d; ccc = canonical_combining_class d; offset = start; first = true } in
    let both : starts_from place p ≡ true = and_from (nat_le place start) (is_starter p) (le-leb place start after) begins in
    let one = ap flag both in
    omega (arith, one, count-first (starts_from place) p (points_at start false ds))

abbrev starters_within : ℕ → ℕ → List ℕ → ℕ
starters_within place start cs = length (filter (λ c. nat_le place c.1 && begins_with_starter (points_of 0 c.0)) (with_offsets start cs))

starters-have_points : DecompositionsAreShort → (place start : ℕ) (cs : List ℕ) → starters_within place start cs ≤ count (starts_from place) (points_from start cs)
starters-have_points short place start [] = omega arith
starters-have_points short place start (c ∷ cs) =
    let rest = starters-have_points short place (start + len_utf8 c) cs in
    let parts = count-cons (starts_from place) start c cs in
    let test : ℕ × ℕ → Bool = λ c. nat_le place c.1 && begins_with_starter (points_of 0 c.0) in
    let first : length (filter test (with_offsets start (c ∷ cs))) ≡ flag (test (c, start)) + starters_within place (start + len_utf8 c) cs = filter-first test (c, start) (with_offsets (start + len_utf8 c) cs) in
    elim (cases_Bool (test (c, start))) [
      | inl both ↦
          let parts_of = and_parts (nat_le place start) (begins_with_starter (points_of 0 c)) both in
          let here = one_starter place start (decomposition c) (short c).0 (leb-true place start parts_of.0) (begins_anywhere 0 start c parts_of.1) in
          let one = ap flag both in
          omega (arith, rest, parts, first, here, one)
      | inr none ↦ let zero = ap flag none in omega (arith, rest, parts, first, zero)
    ]

-- as many points follow
enough-follow : DecompositionsAreShort → (place : ℕ) (cs before : List ℕ) (first : Point) (later : List Point) → byte_len before ≤ place → final_points cs ≡ points before ++ first ∷ later →
    starters_from place cs ≤ length (first ∷ later)
enough-follow short place cs before first later early final =
    let test = starts_from place in
    let some = starters-have_points short place 0 cs in
    let all = count-ordered test (points_from 0 cs) in
    let kept = final-counts place (points cs) in
    let split = ap (count test) final ∙ count-append test (points before) (first ∷ later) in
    let few = count-fewer test (stands_from place) (λ p both. (and_parts (nat_le place p.offset) (is_starter p) both).0) (points before) in
    let none = count-ordered (stands_from place) (points_from 0 before) ∙ count-past place 0 before (omega (arith, early)) in
    let most = count-le test (first ∷ later) in
    omega (arith, some, all, kept, split, few, none, most)

-- ---- what is left

-- where enough starters follow the place, the points left are those of which no unit is decided
pub made-good : DecompositionsAreShort → EarlyCutsAreMadeGood → (table : TableMap) (place : ℕ) (taken : List ℕ) (left : List Point) → longest_mapped table ≤ suc (starters_from place taken) →
    IsCutUpTo table place taken left → left ≡ left_points table (final_points taken)
made-good short law table place taken left enough (inl same) = same
made-good short law table place taken left enough (inr e) =
    let follow = enough-follow short place taken e.before e.first e.later e.early e.final in
    e.rest ∙ sym (law table (points e.before) e.first e.later e.starter e.ends (omega (arith, follow, enough))) ∙ ap (left_points table) (sym e.final)

no_bytes : (cs : List ℕ) → byte_len cs ≤ 0 → cs ≡ []
unfolding byte_len
no_bytes [] h = refl
no_bytes (c ∷ cs) h = let one = (len_utf8_bounds c).0 in absurd (omega (arith, one, h))

no_points : points [] ≡ []
unfolding points_from ordered
no_points = refl

-- and where none was cut early
pub made-good_none : (table : TableMap) (taken : List ℕ) (left : List Point) → IsCutUpTo table 0 taken left → left ≡ left_points table (final_points taken)
made-good_none table taken left (inl same) = same
made-good_none table taken left (inr e) =
    let none : points e.before ≡ [] = ap points (no_bytes e.before e.early) ∙ no_points in
    e.rest ∙ ap (left_points table) (sym (e.final ∙ ap (λ ps. ps ++ e.first ∷ e.later) none))
