-- One look at the non-starters after a unit: `left` of the points were looked at and stay, and the mapped string is the code
-- points of the unit with those that joined it.
use Rattle.std.proofs.Common.{◌≡◌, ℕ, suc, ◌+◌, ◌<◌, ◌≤◌, max, nat_le, Bool, true, false, not, ◌||◌, ◌&&◌, List, [], ◌∷◌, ◌++◌, length, take, drop, remove, Some, slice_get, refl, sym, ◌∙◌, ap, ⊎_elim, arith, length-take}
use Rattle.std.specs.List.{list_any}
use Rattle.std.proofs.lemmas.List.{map_push, take-append-drop, take_at, drop_at, drop_more, take_more}
use Rattle.std.proofs.lemmas.List.Folds.{list_any_more}
use Rattle.std.proofs.lemmas.Bool.{cases_lt, le-leb, lt-leb}
use Rattle.std.proofs.lemmas.Option.{slice_get_within, get_or_from_slice_get}
use Rattle.nfd_points.specs.declared.points.Point.{Point}
use Rattle.nfd_points.specs.Points.{is_starter}
use Rattle.collation_table.specs.Table.{TableMap, is_mapped}
use Rattle.collation_elements.specs.Units.{code_points, blocks, joins, Cut, extended}
use Rattle.collation_elements.proofs.ContextUnits.{extended-stop, extended-taken, extended-left}

-- a later point is blocked exactly where the greatest class among those left is at least its own
abbrev pub IsHighest : List Point → ℕ → ℕ → Type 0
IsHighest ps left highest = (c : Point) → 1 ≤ c.ccc → list_any (blocks c) (take left ps) ≡ nat_le c.ccc highest

abbrev pub JoinsSoFar : TableMap → List ℕ → List Point → List ℕ → List Point → ℕ → Type 0
JoinsSoFar T key_before before string ps left =
    (unit : List Point) → code_points unit ≡ key_before → (longer : List Point) × (code_points longer ≡ string) × (extended T longer (take left ps) (drop left ps) ≡ extended T unit [] before)

-- ---- the places of a point

drop-at : (ps : List Point) (left : ℕ) (c : Point) → slice_get ps left ≡ Some c → drop left ps ≡ c ∷ drop (left + 1) ps
drop-at ps left c at =
    drop_more ps left c (slice_get_within ps left c at) ∙ ap (λ q. q ∷ drop (left + 1) ps) (get_or_from_slice_get ps left c c at)

take-at : (ps : List Point) (left : ℕ) (c : Point) → slice_get ps left ≡ Some c → take (left + 1) ps ≡ take left ps ++ c ∷ []
take-at ps left c at =
    take_more ps left c (slice_get_within ps left c at) ∙ ap (λ q. take left ps ++ q ∷ []) (get_or_from_slice_get ps left c c at)

take-remove_at : (ps : List Point) (left : ℕ) → left < length ps → take left (remove ps left) ≡ take left ps
take-remove_at ps left h = take_at (take left ps) (drop (suc left) ps) left (omega (arith, length-take left ps))

drop-remove_at : (ps : List Point) (left : ℕ) → left < length ps → drop left (remove ps left) ≡ drop (left + 1) ps
drop-remove_at ps left h =
    let next : suc left ≡ left + 1 = omega arith in
    drop_at (take left ps) (drop (suc left) ps) left (omega (arith, length-take left ps)) ∙ ap (λ k. drop k ps) next

-- ---- one look

joins_when : (T : TableMap) (unit between : List Point) (c : Point) (string : List ℕ) (blocked found : Bool) → code_points unit ≡ string → list_any (blocks c) between ≡ blocked → is_mapped T (string ++ c.cp ∷ []) ≡ found → joins T unit between c ≡ (not blocked && found)
joins_when T unit between c string blocked found is stands there =
    ap (λ b. not b && is_mapped T (code_points (unit ++ c ∷ []))) stands
    ∙ ap (λ k. not blocked && is_mapped T k) (map_push (λ (q : Point). q.cp) unit c ∙ ap (λ k. k ++ c.cp ∷ []) is)
    ∙ ap (λ b. not blocked && b) there

pub JoinsSoFar-taken : (T : TableMap) (key_before : List ℕ) (before : List Point) (string longer_mapped : List ℕ) (ps : List Point) (left highest : ℕ) (c : Point) → JoinsSoFar T key_before before string ps left → IsHighest ps left highest → slice_get ps left ≡ Some c → is_starter c ≡ false → 1 ≤ c.ccc → highest < c.ccc → is_mapped T (string ++ c.cp ∷ []) ≡ true → longer_mapped ≡ string ++ c.cp ∷ [] → JoinsSoFar T key_before before longer_mapped (remove ps left) left
JoinsSoFar-taken T key_before before string longer_mapped ps left highest c so_far high at starter some above found is unit unit_is =
    let was = so_far unit unit_is in
    let within : left < length ps = slice_get_within ps left c at in
    let free : list_any (blocks c) (take left ps) ≡ false = high c some ∙ lt-leb c.ccc highest above in
    let join : joins T was.0 (take left ps) c ≡ true = joins_when T was.0 (take left ps) c string false true was.1 free found in
    let codes_are : code_points (was.0 ++ c ∷ []) ≡ longer_mapped = map_push (λ (q : Point). q.cp) was.0 c ∙ ap (λ k. k ++ c.cp ∷ []) was.1 ∙ sym is in
    let now : extended T (was.0 ++ c ∷ []) (take left ps) (drop (left + 1) ps) ≡ extended T unit [] before = sym (ap (extended T was.0 (take left ps)) (drop-at ps left c at) ∙ extended-taken T was.0 (take left ps) c (drop (left + 1) ps) starter join) ∙ was.2 in (
      was.0 ++ c ∷ [],
      codes_are,
      ap (λ between. extended T (was.0 ++ c ∷ []) between (drop left (remove ps left))) (take-remove_at ps left within)
          ∙ ap (extended T (was.0 ++ c ∷ []) (take left ps)) (drop-remove_at ps left within)
          ∙ now,
    )

pub JoinsSoFar-left : (T : TableMap) (key_before : List ℕ) (before : List Point) (string : List ℕ) (ps : List Point) (left highest : ℕ) (c : Point) → JoinsSoFar T key_before before string ps left → IsHighest ps left highest → slice_get ps left ≡ Some c → is_starter c ≡ false → 1 ≤ c.ccc → (highest < c.ccc → is_mapped T (string ++ c.cp ∷ []) ≡ false) → JoinsSoFar T key_before before string ps (left + 1)
JoinsSoFar-left T key_before before string ps left highest c so_far high at starter some stays unit unit_is =
    let was = so_far unit unit_is in
    let apart : joins T was.0 (take left ps) c ≡ false = ⊎_elim (λ (above : highest < c.ccc). joins_when T was.0 (take left ps) c string false false was.1 (high c some ∙ lt-leb c.ccc highest above) (stays above)) (λ (below : c.ccc ≤ highest). joins_when T was.0 (take left ps) c string true (is_mapped T (string ++ c.cp ∷ [])) was.1 (high c some ∙ le-leb c.ccc highest below) refl) (cases_lt highest c.ccc) in
    let now : extended T was.0 (take left ps ++ c ∷ []) (drop (left + 1) ps) ≡ extended T unit [] before = sym (ap (extended T was.0 (take left ps)) (drop-at ps left c at) ∙ extended-left T was.0 (take left ps) c (drop (left + 1) ps) starter apart) ∙ was.2 in
    (was.0, was.1, ap (λ between. extended T was.0 between (drop (left + 1) ps)) (take-at ps left c at) ∙ now)

IsHighest-cases : (d h c : ℕ) → (nat_le d h || nat_le d c) ≡ nat_le d (max h c)
IsHighest-cases d h c = ⊎_elim
    (λ (above : h < d). ⊎_elim
    (λ (also : c < d). ap (λ b. b || nat_le d c) (lt-leb d h above) ∙ lt-leb d c also ∙ sym (lt-leb d (max h c) (omega arith)))
    (λ (below : d ≤ c). ap (λ b. b || nat_le d c) (lt-leb d h above) ∙ le-leb d c below ∙ sym (le-leb d (max h c) (omega arith)))
    (cases_lt c d))
    (λ (below : d ≤ h). ap (λ b. b || nat_le d c) (le-leb d h below) ∙ sym (le-leb d (max h c) (omega arith)))
    (cases_lt h d)

blocks-non_starter : (d c : Point) → is_starter c ≡ false → blocks d c ≡ nat_le d.ccc c.ccc
blocks-non_starter d c e = ap (λ s. s || nat_le d.ccc c.ccc) e

pub IsHighest-left : (ps : List Point) (left highest : ℕ) (c : Point) → IsHighest ps left highest → slice_get ps left ≡ Some c → is_starter c ≡ false → IsHighest ps (left + 1) (max highest c.ccc)
IsHighest-left ps left highest c high at starter d some =
    list_any_more (blocks d) ps left c (slice_get_within ps left c at)
    ∙ ap (λ q. list_any (blocks d) (take left ps) || blocks d q) (get_or_from_slice_get ps left c c at)
    ∙ ap (λ b. b || blocks d c) (high d some)
    ∙ ap (λ b. nat_le d.ccc highest || b) (blocks-non_starter d c starter)
    ∙ IsHighest-cases d.ccc highest c.ccc

pub IsHighest-taken : (ps : List Point) (left highest : ℕ) → left < length ps → IsHighest ps left highest → IsHighest (remove ps left) left highest
IsHighest-taken ps left highest h high d some = ap (list_any (blocks d)) (take-remove_at ps left h) ∙ high d some

-- ---- the end

-- what a look gives where no non-starter is left to look at
abbrev pub IsDone : TableMap → List ℕ → List Point → List ℕ → List Point → Type 0
IsDone T key_before before string ps =
    (unit : List Point) → code_points unit ≡ key_before → (string ≡ code_points (extended T unit [] before).unit) × (ps ≡ (extended T unit [] before).rest)

done : (T : TableMap) (unit before : List Point) (string : List ℕ) (ps longer : List Point) → code_points longer ≡ string → record { unit = longer; rest = ps } ≡ extended T unit [] before → (string ≡ code_points (extended T unit [] before).unit) × (ps ≡ (extended T unit [] before).rest)
done T unit before string ps longer is same =
    (sym is ∙ ap (λ (cut : Cut). code_points cut.unit) same, ap (λ (cut : Cut). cut.rest) same)

pub IsDone-starter : (T : TableMap) (key_before : List ℕ) (before : List Point) (string : List ℕ) (ps : List Point) (left : ℕ) (c : Point) → JoinsSoFar T key_before before string ps left → slice_get ps left ≡ Some c → is_starter c ≡ true → IsDone T key_before before string ps
IsDone-starter T key_before before string ps left c so_far at starter unit unit_is =
    let was = so_far unit unit_is in
    let whole : take left ps ++ c ∷ drop (left + 1) ps ≡ ps = ap (λ rest. take left ps ++ rest) (sym (drop-at ps left c at)) ∙ take-append-drop left ps in
    let end : extended T was.0 (take left ps) (drop left ps) ≡ record { unit = was.0; rest = ps } = ap (extended T was.0 (take left ps)) (drop-at ps left c at) ∙ extended-stop T was.0 (take left ps) c (drop (left + 1) ps) starter ∙ ap (λ (rest : List Point). record { unit = was.0; rest = rest }) whole in
    done T unit before string ps was.0 was.1 (sym end ∙ was.2)
