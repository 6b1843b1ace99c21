-- Rows of states: that they don't overlap, and what stays where a cell is written or a row is added.
use Rattle.std.proofs.Common.{◌≡◌, ◌∙◌, ℕ, zero, suc, ◌+◌, ◌-◌, ◌*◌, ◌<◌, ◌≤◌, Bool, true, false, nat_lt, cond, List, [], ◌∷◌, ◌++◌, length, get_or, replicate, Some, slice_get, inl, inr, refl, sym, ap, subst, arith, length-append}
use Rattle.std.specs.Prelude.{slice_set}
use Rattle.std.proofs.Math.Logic.{∥∥₁_map}
use Rattle.std.proofs.lemmas.Bool.{cases_eq, cases_lt, lt-ltb}
use Rattle.std.proofs.lemmas.Option.{same_Some}
use Rattle.std.proofs.lemmas.List.{get_or-append_right, get_or-replicate, get_or-set_same, get_or-set_other, get_or_append_left, length-replicate}
use Rattle.byte_dfa.specs.Moves.{HasRow, added, cell_of, place}
use Rattle.collation_table.specs.Table.{TableMap}
use Rattle.collation_pattern.specs.Compiled.{Compiled}
use Rattle.collation_skip.specs.declared.automaton.Automaton.{Automaton}
use Rattle.byte_dfa.specs.declared.cells.TheConstants.{FIRST_ROW, ROW, UNKNOWN_CELL}
use Rattle.byte_dfa.specs.declared.moves.TheConstants.{STOP, UNIT}
use Rattle.collation_skip.specs.declared.state.State.{State}
use Rattle.collation_skip.specs.Reached.{IsMove}
use Rattle.collation_skip.specs.Rows.{AreRowsRight, IsRow, cells_of, parity}

-- ---- elements of a list

got-within : {A : Type 0} (xs : List A) (n : ℕ) (x : A) → slice_get xs n ≡ Some x → n < length xs
got-within [] n x h = cc
got-within (y ∷ xs) zero x h = omega arith
got-within (y ∷ xs) (suc n) x h = let less = got-within xs n x h in omega (arith, less)

got-more : {A : Type 0} (xs ys : List A) (n : ℕ) (x : A) → slice_get xs n ≡ Some x → slice_get (xs ++ ys) n ≡ Some x
got-more [] ys n x h = cc
got-more (z ∷ xs) ys zero x h = h
got-more (z ∷ xs) ys (suc n) x h = got-more xs ys n x h

pub got-last : {A : Type 0} (xs : List A) (x : A) → slice_get (xs ++ x ∷ []) (length xs) ≡ Some x
got-last [] x = refl
got-last (z ∷ xs) x = got-last xs x

got-old : {A : Type 0} (xs : List A) (y : A) (n : ℕ) (x : A) → n < length xs → slice_get (xs ++ y ∷ []) n ≡ Some x → slice_get xs n ≡ Some x
got-old [] y n x less h = absurd (omega (arith, less))
got-old (z ∷ xs) y zero x less h = h
got-old (z ∷ xs) y (suc n) x less h = got-old xs y n x (omega (arith, less)) h

-- ---- rows

parity-small : (s : State) → parity s ≤ 1
parity-small s = by (nat_lt 0 s.before)
  where
    by : (b : Bool) → cond b 1 0 ≤ 1
    by true = omega arith
    by false = omega arith

pub row-more : (a b : Automaton) (more : List State) → b.states.items ≡ a.states.items ++ more → (row : ℕ) (s : State) → IsRow a row s → IsRow b row s
row-more a b more same row s h =
    (h.0, ap (λ (l : List State). slice_get l h.0) same ∙ got-more a.states.items more h.0 s h.1, h.2)

pub row-same : (a b : Automaton) → b.states.items ≡ a.states.items → (row : ℕ) (s : State) → IsRow a row s → IsRow b row s
row-same a b same row s h = (h.0, ap (λ (l : List State). slice_get l h.0) same ∙ h.1, h.2)

-- two rows that have a cell in common are one
pub row-one : (a : Automaton) (row other byte byte' : ℕ) (s t : State) → IsRow a row s → IsRow a other t → byte < 256 → byte' < 256 → place row byte ≡ place other byte' → (row ≡ other) × ((byte ≡ byte') × (s ≡ t))
row-one a row other byte byte' s t h k less less' same =
    let p = parity-small s in
    let q = parity-small t in
    let one : h.0 ≡ k.0 = omega (arith, h.2, k.2, p, q, less, less', same) in
    let states : s ≡ t = same_Some s t (sym h.1 ∙ ap (slice_get a.states.items) one ∙ k.1) in
    let rows : row ≡ other = let r = ap parity states in omega (arith, h.2, k.2, one, r) in (rows, (omega (arith, rows, same), states))

-- ---- how many cells there are

some-cells : (n : ℕ) → 0 < n → cells_of n ≡ UNIT * (FIRST_ROW + ROW * n)
some-cells n some = ap (λ b. cond b (UNIT * (FIRST_ROW + ROW * n)) 0) (lt-ltb 0 n some)

added-some : (cells : List ℕ) → 0 < length cells → added cells ≡ UNIT * ROW
added-some cells some = ap (λ b. UNIT * cond b ROW (FIRST_ROW + ROW)) (lt-ltb 0 (length cells) some)

added-first : (cells : List ℕ) → length cells ≡ 0 → added cells ≡ UNIT * (FIRST_ROW + ROW)
added-first cells none = ap (λ n. UNIT * cond (nat_lt 0 n) ROW (FIRST_ROW + ROW)) none

-- with those of one row more
cells-added : (cells : List ℕ) (n : ℕ) → length cells ≡ cells_of n → length cells + added cells ≡ cells_of (n + 1)
cells-added cells n are =
    let more = some-cells (n + 1) (omega arith) in
    elim (cases_lt 0 n) [
      | inl some ↦ let old = some-cells n some in let row = added-some cells (omega (arith, are, old, some)) in omega (arith, are, old, row, more)
      | inr none ↦ let no : n ≡ 0 = omega (arith, none) in let old : length cells ≡ 0 = are ∙ ap cells_of no in let row = added-first cells old in omega (arith, old, row, more, no)
    ]

-- they stand before those of a later row
cells-before : (cells : List ℕ) (n number row byte : ℕ) → length cells ≡ cells_of n → FIRST_ROW + ROW * number ≤ row → n ≤ number → length cells ≤ place row byte
cells-before cells n number row byte are from past = elim (cases_lt 0 n) [
  | inl some ↦ let old = some-cells n some in omega (arith, are, old, from, past)
  | inr none ↦ let no : n ≡ 0 = omega (arith, none) in let old : length cells ≡ 0 = are ∙ ap cells_of no in omega (arith, old)
]

-- the cells of a row are there
pub row-within : (table : TableMap) (pattern : Compiled) (a : Automaton) (row byte : ℕ) (s : State) → AreRowsRight table pattern a → IsRow a row s → byte < 256 → place row byte < length a.cells
row-within table pattern a row byte s right h less =
    let p = parity-small s in
    let n = got-within a.states.items h.0 s h.1 in
    let long = right.len in
    let many = some-cells (length a.states.items) (omega (arith, n)) in
    omega (arith, p, n, long, many, less, h.2)

-- the row is one of the cells
pub row-had : (table : TableMap) (pattern : Compiled) (a : Automaton) (row : ℕ) (s : State) → AreRowsRight table pattern a → IsRow a row s → HasRow a.cells row
row-had table pattern a row s right h = let last = row-within table pattern a row 255 s right h (omega arith) in omega (arith, last)

-- the same cells and states
pub right-same : (table : TableMap) (pattern : Compiled) (a b : Automaton) → b.cells ≡ a.cells → b.states.items ≡ a.states.items → AreRowsRight table pattern a → AreRowsRight table pattern b
right-same table pattern a b cells states right =
    record {
      len = ap (λ (l : List ℕ). length l) cells ∙ right.len ∙ ap (λ (l : List State). cells_of (length l)) (sym states);
      cells = λ row byte from less h below.
          let is : cell_of b.cells row byte ≡ cell_of a.cells row byte = ap (λ (l : List ℕ). get_or l (place row byte) 0) cells in
          ∥∥₁_map (right.cells row byte from less (row-same b a (sym states) row from h) (subst (λ n. STOP < n) is below)) (λ m. (m.0, subst (λ n. IsRow b n m.0) (sym is) (row-same a b states _ m.0 m.1), m.2));
    }

-- ---- a cell is written

pub right-set : (table : TableMap) (pattern : Compiled) (a b : Automaton) (row byte cell : ℕ) (from : State) → AreRowsRight table pattern a → b.states.items ≡ a.states.items → b.cells ≡ slice_set a.cells (place row byte) cell →
    length b.cells ≡ length a.cells → IsRow a row from → byte < 256 → (STOP < cell → ∥ ((to : State) × IsRow a cell to × IsMove table pattern from byte to) ∥₁) → AreRowsRight table pattern b
right-set table pattern a b row byte cell from right states cells long h less move =
    record {
      len = long ∙ right.len ∙ ap (λ (l : List State). cells_of (length l)) (sym states);
      cells = λ other byte' from' less' k below.
          let k' = row-same b a (sym states) other from' k in
          elim (cases_eq (place other byte') (place row byte)) [
            | inl same ↦
                let one = row-one a other row byte' byte from' from k' h less' less same in
                let is : cell_of b.cells other byte' ≡ cell =
                ap (λ (l : List ℕ). get_or l (place other byte') 0) cells ∙ ap (λ i. get_or (slice_set a.cells (place row byte) cell) i 0) same
                ∙ get_or-set_same a.cells (place row byte) cell 0 (row-within table pattern a row byte from right h less) in
                ∥∥₁_map (move (subst (λ n. STOP < n) is below)) (λ m. (m.0, subst (λ n. IsRow b n m.0) (sym is) (row-same a b states cell m.0 m.1), subst (λ (s : State). IsMove table pattern s byte' m.0) (sym one.1.1) (subst (λ i. IsMove table pattern from i m.0) (sym one.1.0) m.2)))
            | inr other_cell ↦
                let is : cell_of b.cells other byte' ≡ cell_of a.cells other byte' =
                ap (λ (l : List ℕ). get_or l (place other byte') 0) cells ∙ get_or-set_other a.cells (place row byte) (place other byte') cell 0 other_cell in
                ∥∥₁_map (right.cells other byte' from' less' k' (subst (λ n. STOP < n) is below)) (λ m. (m.0, subst (λ n. IsRow b n m.0) (sym is) (row-same a b states _ m.0 m.1), m.2))
          ];
    }

-- ---- a row is added

pub right-added : (table : TableMap) (pattern : Compiled) (a b : Automaton) (s : State) → AreRowsRight table pattern a → b.states.items ≡ a.states.items ++ s ∷ [] → b.cells ≡ a.cells ++ replicate (added a.cells) UNKNOWN_CELL →
    AreRowsRight table pattern b
right-added table pattern a b s right states cells =
    let more = added a.cells in
    let many = ap (λ (l : List State). length l) states ∙ length-append a.states.items (s ∷ []) in
    let long = ap (λ (l : List ℕ). length l) cells ∙ length-append a.cells (replicate more UNKNOWN_CELL) ∙ ap (λ n. length a.cells + n) (length-replicate more UNKNOWN_CELL) in
    let grown = cells-added a.cells (length a.states.items) right.len in
    record {
      len = long ∙ grown ∙ ap cells_of (sym many);
      cells = λ row byte from less h below.
          let p = parity-small from in
          let within = got-within b.states.items h.0 from h.1 in
          elim (cases_lt h.0 (length a.states.items)) [
            | inl less_number ↦
                let k : IsRow a row from = (h.0, got-old a.states.items s h.0 from less_number (ap (λ (l : List State). slice_get l h.0) (sym states) ∙ h.1), h.2) in
                let is : cell_of b.cells row byte ≡ cell_of a.cells row byte =
                ap (λ (l : List ℕ). get_or l (place row byte) 0) cells ∙ get_or_append_left a.cells (replicate more UNKNOWN_CELL) 0 (place row byte) (row-within table pattern a row byte from right k less) in
                ∥∥₁_map (right.cells row byte from less k (subst (λ n. STOP < n) is below)) (λ m. (m.0, subst (λ n. IsRow b n m.0) (sym is) (row-more a b (s ∷ []) states _ m.0 m.1), m.2))
            | inr past ↦
                let behind : length a.cells ≤ place row byte = cells-before a.cells (length a.states.items) h.0 row byte right.len (omega (arith, h.2)) past in
                let all = some-cells (length a.states.items + 1) (omega arith) in
                let there : place row byte - length a.cells < more = omega (arith, within, many, all, grown, p, less, h.2, past, behind) in
                let unknown : cell_of b.cells row byte ≡ UNKNOWN_CELL =
                ap (λ (l : List ℕ). get_or l (place row byte) 0) cells ∙ get_or-append_right a.cells (replicate more UNKNOWN_CELL) (length a.cells) (place row byte) 0 refl behind
                ∙ get_or-replicate more (place row byte - length a.cells) UNKNOWN_CELL 0 there in
                absurd (omega (arith, unknown, below))
          ];
    }
