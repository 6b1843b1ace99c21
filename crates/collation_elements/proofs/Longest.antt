-- No mapped string has more points than the longest one. So the longest prefix of a list
-- of points that is mapped is found among its first points.
use Rattle.std.proofs.Common.{◌≡◌, ℕ, zero, suc, ◌+◌, ◌-◌, ◌<◌, ◌≤◌, max, Bool, true, false, cond, List, [], ◌∷◌, ◌++◌, map, length, take, Some, bytes_eq, is_some, refl, sym, ◌∙◌, ap, ⊎_elim, arith, length-take}
use Rattle.std.proofs.lemmas.List.{take-take, take_all, take_at, length-map}
use Rattle.std.proofs.lemmas.Bool.{false≢true, cases_lt, false_from_ne_true}
use Rattle.std.proofs.lemmas.Slice.Eq.{bytes_eq-Decides}
use Rattle.nfd_points.specs.declared.points.Point.{Point}
use Rattle.collation_table.specs.declared.elements.Element.{Element}
use Rattle.collation_table.specs.Table.{TableMap, row_with, is_mapped, longest_prefix_within, longest_prefix, greatest, longest_mapped}
use Rattle.collation_elements.specs.Units.{code_points, prefix_length}

mapped_length_step : (string : List ℕ) (row : List ℕ × List Element) (rows : List (List ℕ × List Element)) (b : Bool) → bytes_eq string row.0 ≡ b → is_some (cond b (Some row.1) (row_with string rows)) ≡ true → (is_some (row_with string rows) ≡ true → length string ≤ greatest (map (λ r. length r.0) rows)) → length string ≤ max (length row.0) (greatest (map (λ r. length r.0) rows))
mapped_length_step string row rows true same found rest = let e : length string ≡ length row.0 = ap length ((bytes_eq-Decides string row.0).0 same) in omega arith
mapped_length_step string row rows false same found rest = let h : length string ≤ greatest (map (λ r. length r.0) rows) = rest found in omega arith

mapped_length_among : (string : List ℕ) (rows : List (List ℕ × List Element)) → is_some (row_with string rows) ≡ true → length string ≤ greatest (map (λ r. length r.0) rows)
mapped_length_among string [] found = absurd (false≢true found)
mapped_length_among string (row ∷ rows) found =
    mapped_length_step string row rows (bytes_eq string row.0) refl found (mapped_length_among string rows)

pub length_mapped : (T : TableMap) (string : List ℕ) → is_mapped T string ≡ true → length string ≤ longest_mapped T
length_mapped T string found = mapped_length_among string T.rows found

-- a list of more points than the longest mapped string is not mapped
pub long_list-is_mapped : (T : TableMap) (string : List ℕ) → longest_mapped T < length string → is_mapped T string ≡ false
long_list-is_mapped T string long = false_from_ne_true (is_mapped T string) (λ found. let h : length string ≤ longest_mapped T = length_mapped T string found in absurd (omega arith))

pub longest_prefix_within-le : (T : TableMap) (ps : List ℕ) (n : ℕ) → longest_prefix_within T ps n ≤ n
longest_prefix_within-le T ps zero = omega arith
longest_prefix_within-le T ps (suc n) = le_step (is_mapped T (take (suc n) ps)) n (longest_prefix_within T ps n) (longest_prefix_within-le T ps n) where
  le_step : (b : Bool) (n m : ℕ) → m ≤ n → cond b (suc n) m ≤ suc n
  le_step true n m h = omega arith
  le_step false n m h = omega arith

pub longest_prefix-le_length : (T : TableMap) (ps : List ℕ) → longest_prefix T ps ≤ length ps
longest_prefix-le_length T ps = longest_prefix_within-le T ps (length ps)

pub prefix_length-le : (T : TableMap) (ps : List Point) → 0 < length ps → prefix_length T ps ≤ length ps
prefix_length-le T ps h = omega (arith, longest_prefix-le_length T (code_points ps), length-map ps (λ p. p.cp))

cond_at_false : (b : Bool) (x y : ℕ) → b ≡ false → cond b x y ≡ y
cond_at_false true x y h = absurd (false≢true (sym h))
cond_at_false false x y h = refl

-- prefixes of more points than the longest mapped string need no look
longest_prefix_within-beyond : (T : TableMap) (ps : List ℕ) (n k : ℕ) → longest_mapped T ≤ n → n + k ≤ length ps → longest_prefix_within T ps (n + k) ≡ longest_prefix_within T ps n
longest_prefix_within-beyond T ps n zero long within = ap (longest_prefix_within T ps) (omega arith)
longest_prefix_within-beyond T ps n (suc k) long within =
    let there : n + suc k ≡ suc (n + k) = omega arith in
    let len : length (take (suc (n + k)) ps) ≡ suc (n + k) = omega (arith, length-take (suc (n + k)) ps) in
    let none : is_mapped T (take (suc (n + k)) ps) ≡ false = long_list-is_mapped T (take (suc (n + k)) ps) (omega arith) in
    ap (longest_prefix_within T ps) there
    ∙ cond_at_false (is_mapped T (take (suc (n + k)) ps)) (suc (n + k)) (longest_prefix_within T ps (n + k)) none
    ∙ longest_prefix_within-beyond T ps n k long (omega arith)

longest_prefix_within-same : (T : TableMap) (ps qs : List ℕ) (n : ℕ) → ((k : ℕ) → k ≤ n → take k ps ≡ take k qs) → longest_prefix_within T ps n ≡ longest_prefix_within T qs n
longest_prefix_within-same T ps qs zero same = refl
longest_prefix_within-same T ps qs (suc n) same =
    let here : take (suc n) ps ≡ take (suc n) qs = same (suc n) (omega arith) in
    let below : longest_prefix_within T ps n ≡ longest_prefix_within T qs n = longest_prefix_within-same T ps qs n (λ k h. same k (omega arith)) in
    ap (λ prefix. cond (is_mapped T prefix) (suc n) (longest_prefix_within T ps n)) here
    ∙ ap (λ m. cond (is_mapped T (take (suc n) qs)) (suc n) m) below

-- at least as many of the first points as the longest mapped string has decide
pub longest_prefix-take : (T : TableMap) (ps : List ℕ) (n : ℕ) → longest_mapped T ≤ n → longest_prefix T (take n ps) ≡ longest_prefix T ps
longest_prefix-take T ps n long = ⊎_elim
    (λ (inside : n < length ps).
    let len : length (take n ps) ≡ n = omega (arith, length-take n ps) in
    let all : n + (length ps - n) ≡ length ps = omega arith in
    ap (longest_prefix_within T (take n ps)) len
    ∙ longest_prefix_within-same T (take n ps) ps n (λ k h. take-take k n ps h)
    ∙ sym (longest_prefix_within-beyond T ps n (length ps - n) long (omega arith))
    ∙ ap (longest_prefix_within T ps) all)
    (λ (past : length ps ≤ n). ap (longest_prefix T) (take_all n ps past))
    (cases_lt n (length ps))

-- what follows changes nothing, where at least as many points as the longest mapped string has are
-- there
pub longest_prefix-append : (T : TableMap) (ps more : List ℕ) → longest_mapped T ≤ length ps → longest_prefix T (ps ++ more) ≡ longest_prefix T ps
longest_prefix-append T ps more long =
    sym (longest_prefix-take T (ps ++ more) (length ps) long) ∙ ap (longest_prefix T) (take_at ps more (length ps) refl)

pub longest_prefix-le_longest : (T : TableMap) (ps : List ℕ) → longest_prefix T ps ≤ longest_mapped T
longest_prefix-le_longest T ps =
    let few : longest_prefix T (take (longest_mapped T) ps) ≤ length (take (longest_mapped T) ps) = longest_prefix-le_length T (take (longest_mapped T) ps) in
    omega (arith, few, longest_prefix-take T ps (longest_mapped T) (omega arith), length-take (longest_mapped T) ps)
