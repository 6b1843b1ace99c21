-- What blocks that pass say of the bytes of a piece.
use Rattle.std.proofs.Common.{◌≡◌, ◌↔◌, ◌∙◌, ℕ, zero, suc, ◌+◌, ◌-◌, ◌/◌, ◌%◌, ◌≤◌, ◌<◌, min, max, List, ◌∷◌, ◌++◌, length, slice_index, get_or, subst, sym, ap, ap₂, arith, inl, inr, bit_and, bit_or}
use Rattle.std.proofs.lemmas.Nat.{and_or_apart}
use Rattle.std.proofs.lemmas.List.{get_or_append_left, get_or-append-add}
use Rattle.std.proofs.lemmas.Bool.{cases_lt}
use Rattle.byte_blocks.specs.Lanes.{HasLanes}
use Rattle.byte_blocks.specs.declared.sets.AsciiSets.{AsciiSets}
use Rattle.byte_blocks.specs.declared.sets.TheConstants.{COLUMNS}
use Rattle.byte_blocks.proofs.LaneLemmas.{below-high, below-none, or-left, or-right, or-none}
use Rattle.byte_blocks.specs.Ascii.{DoesNotPass, PassNoFurther, HaltsDecide, KeysDecide, MayPass, Passes, PassesBehind}
use Rattle.byte_blocks.specs.Sets.{in_set}

-- A byte that is not in one set is not in another, whose lanes add nothing to those of the first.
pub in-neither : (set other lanes others : List ℕ) → HasLanes lanes (λ k. slice_index set (0 + k)) → HasLanes others (λ k. slice_index other (0 + k)) →
    ((k : ℕ) → k < 16 → bit_or (slice_index lanes k) (slice_index others k) ≡ slice_index others k) → (byte : ℕ) → in_set other byte ≡ 0 → in_set set byte ≡ 0
in-neither set other lanes others has has_other same byte none =
    let i = byte % 16 in
    let column = slice_index COLUMNS (byte / 16) in
    let less : i < 16 = omega arith in
    let first : slice_index set i ≡ slice_index lanes i = ap (λ (j : ℕ). slice_index set j) (omega arith) ∙ sym (has.each i less) in
    let second : slice_index other i ≡ slice_index others i = ap (λ (j : ℕ). slice_index other j) (omega arith) ∙ sym (has_other.each i less) in
    let all : bit_or (slice_index set i) (slice_index other i) ≡ slice_index other i = ap₂ bit_or first second ∙ same i less ∙ sym second in
    sym (and_or_apart column (slice_index set i) (slice_index other i) none) ∙ ap (λ (x : ℕ). bit_and x column) all ∙ none

-- ---- a lane, and what it says of its byte

pub lane-passes : (sets : AsciiSets) (before byte lane : ℕ) → byte < 256
    → lane ≡ bit_or (bit_or (in_set sets.halt byte) (min (in_set sets.key before) (in_set sets.later byte))) (bit_or (min (in_set sets.joins before) (in_set sets.inner byte)) (bit_and byte 128))
    → (lane ≡ 0) ↔ PassesBehind sets before byte
lane-passes sets before byte lane fits is = (
  λ none.
      let all = sym is ∙ none in
      let first = or-left _ _ all in
      let second = or-right _ _ all in
      record {
        ascii = below-high byte fits (or-right _ _ second);
        going = or-left _ _ first;
        keys = or-right _ _ first;
        units = or-left _ _ second;
      },
  λ p. is ∙ or-none (or-none p.going p.keys) (or-none p.units (below-none byte p.ascii)),
)

-- where keys alone decide it
pub lane-passes-by-keys : (sets : AsciiSets) (before byte lane : ℕ) → KeysDecide sets → byte < 256
    → lane ≡ bit_or (min (in_set sets.key before) (in_set sets.later byte)) (bit_and byte 128) → (lane ≡ 0) ↔ PassesBehind sets before byte
lane-passes-by-keys sets before byte lane decide fits is = (
  λ none.
      let all = sym is ∙ none in
      let apart = decide.inner byte fits in
      record {
        ascii = below-high byte fits (or-right _ _ all);
        going = decide.halt byte fits;
        keys = or-left _ _ all;
        units = omega (arith, apart);
      },
  λ p. is ∙ or-none p.keys (below-none byte p.ascii),
)

pub lane-may-pass : (sets : AsciiSets) (byte lane : ℕ) → byte < 256 → lane ≡ bit_or (in_set sets.halt byte) (bit_and byte 128) → (lane ≡ 0) ↔ MayPass sets byte
lane-may-pass sets byte lane fits is = (
  λ none.
      let all = sym is ∙ none in
      record { ascii = below-high byte fits (or-right _ _ all); going = or-left _ _ all },
  λ p. is ∙ or-none p.going (below-none byte p.ascii),
)

-- two neighbors, as they are loaded and as they are asked for
pub same-neighbors : (sets : AsciiSets) (bytes : List ℕ) (before here i j m n : ℕ) → before ≡ slice_index bytes i → here ≡ slice_index bytes j → i ≡ m → j ≡ n
    → PassesBehind sets before here ↔ PassesBehind sets (slice_index bytes m) (slice_index bytes n)
same-neighbors sets bytes before here i j m n is_before is_here same_before same_here =
    let b : before ≡ slice_index bytes m = is_before ∙ ap (λ t. slice_index bytes t) same_before in
    let h : here ≡ slice_index bytes n = is_here ∙ ap (λ t. slice_index bytes t) same_here in (
      λ p. subst (λ v. PassesBehind sets v (slice_index bytes n)) b (subst (λ v. PassesBehind sets before v) h p),
      λ p. subst (λ v. PassesBehind sets v here) (sym b) (subst (λ v. PassesBehind sets (slice_index bytes m) v) (sym h) p),
    )

-- ---- bytes that pass

-- one byte that does not halt passes
pub passes-one : (sets : AsciiSets) (bytes : List ℕ) → 1 ≤ length bytes → get_or bytes 0 0 < 128 → in_set sets.halt (get_or bytes 0 0) ≡ 0 → Passes sets bytes 1
passes-one sets bytes some low going = record {
  within = some;
  ascii = λ _. low;
  going = λ _. going;
  each = λ i less. absurd (omega (arith, less));
}

-- no more bytes pass than those before one that does not
pub ends : (sets : AsciiSets) (bytes : List ℕ) (m n : ℕ) → 1 ≤ m → m ≤ n → DoesNotPass sets (get_or bytes (m - 1) 0) (get_or bytes m 0) → PassNoFurther sets bytes n
ends sets bytes m n some within stop p =
    stop (subst (λ j. PassesBehind sets (get_or bytes (m - 1) 0) (get_or bytes j 0)) (omega (arith, some)) (p.each (m - 1) (omega (arith, some, within))))

pub passes-more : (sets : AsciiSets) (bytes : List ℕ) (len lanes : ℕ) → 1 ≤ len → len + lanes ≤ length bytes → Passes sets bytes len →
    ((k : ℕ) → k < lanes → PassesBehind sets (get_or bytes (len + k - 1) 0) (get_or bytes (len + k) 0)) → Passes sets bytes (len + lanes)
passes-more sets bytes len lanes some within p block = record {
  within = within;
  ascii = λ _. p.ascii some;
  going = λ _. p.going some;
  each = λ i less. at i less;
}
  where
    at : (i : ℕ) → suc i < len + lanes → PassesBehind sets (get_or bytes i 0) (get_or bytes (suc i) 0)
    at i less = elim (cases_lt (suc i) len) [
      | inl before ↦ p.each i before
      | inr behind ↦
          let k = suc i - len in
          let there : len + k ≡ suc i = omega (arith, behind) in
          let last : len + k - 1 ≡ i = omega (arith, behind) in
          subst (λ j. PassesBehind sets (get_or bytes i 0) (get_or bytes j 0)) there
          (subst (λ j. PassesBehind sets (get_or bytes j 0) (get_or bytes (len + k) 0)) last (block k (omega (arith, behind, less))))
    ]

-- the last of the bytes that pass does not halt
last-going : (sets : AsciiSets) (bytes : List ℕ) (n : ℕ) → 1 ≤ n → Passes sets bytes n → in_set sets.halt (get_or bytes (n - 1) 0) ≡ 0
last-going sets bytes zero some p = absurd (omega (arith, some))
last-going sets bytes (suc zero) some p = p.going some
last-going sets bytes (suc (suc n)) some p = subst (λ (j : ℕ). in_set sets.halt (get_or bytes j 0) ≡ 0) (omega arith) (p.each n (omega arith)).going

-- where the bytes that halt decide it, bytes that can be passed pass behind those that do
pub passes-halts : (sets : AsciiSets) (bytes : List ℕ) (len lanes : ℕ) → HaltsDecide sets → 1 ≤ len → len + lanes ≤ length bytes → Passes sets bytes len →
    ((k : ℕ) → k < lanes → MayPass sets (get_or bytes (len + k) 0)) → Passes sets bytes (len + lanes)
passes-halts sets bytes len lanes decide some within p may = passes-more sets bytes len lanes some within p (λ k less.
    let no_key = decide.key (get_or bytes (len + k - 1) 0) (before k less) in
    let apart = decide.inner (get_or bytes (len + k) 0) in
    record {
      ascii = (may k less).ascii;
      going = (may k less).going;
      keys = omega (arith, no_key);
      units = omega (arith, apart);
    })
  where
    before : (k : ℕ) → k < lanes → in_set sets.halt (get_or bytes (len + k - 1) 0) ≡ 0
    before zero less = subst (λ (j : ℕ). in_set sets.halt (get_or bytes j 0) ≡ 0) (omega arith) (last-going sets bytes len some p)
    before (suc k) less = subst (λ (j : ℕ). in_set sets.halt (get_or bytes j 0) ≡ 0) (omega arith) (may k (omega (arith, less))).going

-- a block that begins amid the bytes that pass
pub passes-over : (sets : AsciiSets) (bytes : List ℕ) (len at lanes n : ℕ) → 1 ≤ at → at ≤ len → at + lanes ≤ length bytes → len ≤ n → n ≤ max len (at + lanes) → Passes sets bytes len →
    ((k : ℕ) → k < lanes → PassesBehind sets (get_or bytes (at + k - 1) 0) (get_or bytes (at + k) 0)) → Passes sets bytes n
passes-over sets bytes len at lanes n some amid within more most p block =
    let long = p.within in
    record {
      within = omega (arith, long, within, most);
      ascii = λ _. p.ascii (omega (arith, some, amid));
      going = λ _. p.going (omega (arith, some, amid));
      each = λ i less. here i less;
    }
  where
    here : (i : ℕ) → suc i < n → PassesBehind sets (get_or bytes i 0) (get_or bytes (suc i) 0)
    here i less = elim (cases_lt (suc i) len) [
      | inl before ↦ p.each i before
      | inr behind ↦
          let k = suc i - at in
          let there : at + k ≡ suc i = omega (arith, behind, amid) in
          let last : at + k - 1 ≡ i = omega (arith, behind, amid) in
          subst (λ j. PassesBehind sets (get_or bytes i 0) (get_or bytes j 0)) there
          (subst (λ j. PassesBehind sets (get_or bytes j 0) (get_or bytes (at + k) 0)) last (block k (omega (arith, behind, less, most, amid))))
    ]

-- the first n bytes of two blocks, the lanes of which are loaded from around `at`
pub two_pass : (sets : AsciiSets) (bytes before here later_before later_here : List ℕ) (at n : ℕ) → 1 ≤ at → n ≤ 32
    → ((k : ℕ) → k < 16 → slice_index before k ≡ slice_index bytes (at - 1 + k)) → ((k : ℕ) → k < 16 → slice_index here k ≡ slice_index bytes (at + k))
    → ((k : ℕ) → k < 16 → slice_index later_before k ≡ slice_index bytes (at + 15 + k)) → ((k : ℕ) → k < 16 → slice_index later_here k ≡ slice_index bytes (at + 16 + k))
    → ((k : ℕ) → k < 16 → k < n → PassesBehind sets (slice_index before k) (slice_index here k))
    → ((k : ℕ) → k < 16 → 16 + k < n → PassesBehind sets (slice_index later_before k) (slice_index later_here k))
    → (k : ℕ) → k < n → PassesBehind sets (slice_index bytes (at + k - 1)) (slice_index bytes (at + k))
two_pass sets bytes before here later_before later_here at n behind within has_before has_here has_later has_last first second k less =
    elim (cases_lt k 16) [
      | inl low ↦
          (same-neighbors sets bytes _ _ _ _ (at + k - 1) (at + k) (has_before k low) (has_here k low) (omega (arith, behind)) (omega arith)).0 (first k low less)
      | inr high ↦
          let low : k - 16 < 16 = omega (arith, high, less, within) in
          (same-neighbors sets bytes _ _ _ _ (at + k - 1) (at + k) (has_later (k - 16) low) (has_last (k - 16) low) (omega (arith, behind, high)) (omega (arith, high))).0
          (second (k - 16) low (omega (arith, high, less)))
    ]

-- and the byte behind them does not
pub two_stop : (sets : AsciiSets) (bytes before here later_before later_here : List ℕ) (at n : ℕ) → 1 ≤ at → n < 32
    → ((k : ℕ) → k < 16 → slice_index before k ≡ slice_index bytes (at - 1 + k)) → ((k : ℕ) → k < 16 → slice_index here k ≡ slice_index bytes (at + k))
    → ((k : ℕ) → k < 16 → slice_index later_before k ≡ slice_index bytes (at + 15 + k)) → ((k : ℕ) → k < 16 → slice_index later_here k ≡ slice_index bytes (at + 16 + k))
    → (n < 16 → DoesNotPass sets (slice_index before n) (slice_index here n))
    → (16 ≤ n → DoesNotPass sets (slice_index later_before (n - 16)) (slice_index later_here (n - 16)))
    → DoesNotPass sets (slice_index bytes (at + n - 1)) (slice_index bytes (at + n))
two_stop sets bytes before here later_before later_here at n behind within has_before has_here has_later has_last first second p =
    elim (cases_lt n 16) [
      | inl low ↦ first low ((same-neighbors sets bytes _ _ _ _ (at + n - 1) (at + n) (has_before n low) (has_here n low) (omega (arith, behind)) (omega arith)).1 p)
      | inr high ↦
          let low : n - 16 < 16 = omega (arith, high, within) in
          second high
          ((same-neighbors sets bytes _ _ _ _ (at + n - 1) (at + n) (has_later (n - 16) low) (has_last (n - 16) low) (omega (arith, behind, high)) (omega (arith, high))).1 p)
    ]

-- a byte and the lanes that are loaded from behind it
pub behind-one : (bytes here : List ℕ) (at : ℕ) → 1 ≤ at → ((k : ℕ) → k < 16 → slice_index here k ≡ slice_index bytes (at + k)) → (k : ℕ) → k < 16 →
    slice_index (slice_index bytes (at - 1) ∷ here) k ≡ slice_index bytes (at - 1 + k)
behind-one bytes here at some has zero less = ap (λ (j : ℕ). slice_index bytes j) (omega (arith))
behind-one bytes here at some has (suc k) less = has k (omega (arith, less)) ∙ ap (λ (j : ℕ). slice_index bytes j) (omega (arith, some))

-- the keys of the byte before and of those behind it, all but the last
pub keys-one-back : (set : List ℕ) (before keys here : List ℕ) (byte : ℕ) → length before ≡ 16 → HasLanes keys (λ k. in_set set (slice_index here k)) → in_set set byte ≡ slice_index before 15 → (k : ℕ) → k < 16 →
    slice_index (before ++ keys) (15 + k) ≡ in_set set (slice_index (byte ∷ here) k)
keys-one-back set before keys here byte long has last zero less = get_or_append_left before keys 0 15 (omega (arith, long)) ∙ sym last
keys-one-back set before keys here byte long has last (suc k) less =
    ap (λ (j : ℕ). slice_index (before ++ keys) j) (omega (arith, long)) ∙ get_or-append-add before keys k 0 ∙ has.each k (omega (arith, less))
