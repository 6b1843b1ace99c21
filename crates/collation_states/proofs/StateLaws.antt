-- The words of a state that a search may hold pass the tests, and say that state.
use Rattle.std.proofs.Common.{◌≡◌, ℕ, ◌+◌, ◌-◌, ◌*◌, ◌%◌, ◌≤◌, ◌==◌, Bool, true, false, cond, ◌&&◌, ◌||◌, not, List, [], ◌∷◌, ◌++◌, length, take, drop, slice_index, Option, None, refl, sym, ap, ap₂, ◌∙◌, subst, arith, inl, inr, append_assoc, lt-ltb}
use Rattle.std.specs.Prelude.{bytes_eq}
use Rattle.std.specs.List.{list_all, All as AllOf}
use Rattle.std.proofs.Math.Dec.{eqb-suc-zero}
use Rattle.std.proofs.Math.Nat.{mul-mod_right}
use Rattle.std.proofs.Math.Seq.{take-append_seam, drop-append_seam}
use Rattle.std.proofs.lemmas.Bool.{and_from, le-leb, eq-eqb, ne_eqb, cases_Bool, or_right}
use Rattle.std.proofs.lemmas.List.{length-append}
use Rattle.std.proofs.lemmas.List.Elements.{All-head, All-tail}
use Rattle.unicode_normalization.specs.Lookups.{canonical_combining_class}
use Rattle.utf8_cut.specs.Characters.{is_incomplete_or_empty}
use Rattle.nfd_points.specs.declared.limits.TheConstants.{MOST_WAITING}
use Rattle.nfd_points.specs.declared.points.Point.{Point}
use Rattle.nfd_points.specs.Points.{decomposition}
use Rattle.collation_matches.specs.declared.faults.TextFault.{TextFault}
use Rattle.collation_matches.specs.declared.select.Select.{Select}
use Rattle.collation_matches.specs.declared.select.Select.TheVariants.{All, Chain}
use Rattle.collation_matches.specs.GoodPrefix.{most_bytes}
use Rattle.collation_states.specs.declared.states.Head.{Head}
use Rattle.collation_states.specs.declared.states.Sizes.{Sizes}
use Rattle.collation_states.specs.State.{SavedPlace, State, reported, flag_word, form_word, strength_word, variable_word, kind_word, fault_offset_word, number_of, place_words, point_words, head_of, head_words, chain_record, tail_words, words}
use Rattle.collation_states.specs.StateTests.{head_len, has_form, is_for, may_be_held, may_match_wait, has_records, is_open_head, is_chain_end, has_open_tail, is_reported, is_state, state_fault, place_part, window_part, waiting_part, decomposed, are_places, are_points, points_in, may_be_in_window, may_wait}
use Rattle.collation_states.specs.Reading.{places_in, last_end_in, open_in, state_in}
use Rattle.collation_states.specs.Laws.{AreInOrder, begins_with_first, IsPointBefore, IsOpen, IsStateAtFault, StatesAreAccepted, StatesAreReadBack, StatesAreRecords}
use Rattle.collation_states.proofs.HeldBytes.{bytes_in-held, held-few}
use Rattle.collation_states.proofs.StateLemmas.{flag-is, flag-read}

pub same : (n : ℕ) → (n == n) ≡ true
same n = eq-eqb n n refl

-- ---- how many words

pub place_words-length : (ps : List SavedPlace) → length (place_words ps) ≡ 4 * length ps
place_words-length [] = refl
place_words-length (p ∷ ps) = omega (arith, place_words-length ps)

pub point_words-length : (ps : List Point) → length (point_words ps) ≡ 4 * length ps
point_words-length [] = refl
point_words-length (p ∷ ps) = omega (arith, point_words-length ps)

chain_record-length : (select : Select) (end : ℕ) → 20 + length (chain_record select end) ≡ head_len select
chain_record-length All end = refl
chain_record-length Chain end = refl

pub states_are_records : StatesAreRecords
states_are_records r s =
    let chain = chain_record r.select s.last_end in
    let places = place_words s.places in
    let window = point_words s.window in
    let waiting = point_words s.waiting in
    omega (arith, length-append chain ((places ++ window) ++ waiting), chain_record-length r.select s.last_end, length-append (places ++ window) waiting, length-append places window, place_words-length s.places, point_words-length s.window, point_words-length s.waiting)

-- ---- the form, the sizes and the settings

four-head_len : (select : Select) (n : ℕ) → ((head_len select + 4 * n) % 4 == 0) ≡ true
four-head_len All n = eq-eqb _ 0 (ap (λ i. i % 4) (omega arith) ∙ mul-mod_right 4 (5 + n))
four-head_len Chain n = eq-eqb _ 0 (ap (λ i. i % 4) (omega arith) ∙ mul-mod_right 4 (6 + n))

has-form : (r : Sizes) (s : State) → has_form r.select (words r s) ≡ true
has-form r s =
    let many = states_are_records r s in
    let whole = ap (λ n. n % 4 == 0) many ∙ four-head_len r.select (length s.places + (length s.window + length s.waiting)) in
    and_from _ _ (le-leb (head_len r.select) (length (words r s)) (omega (arith, many))) (and_from _ _ whole (same (form_word r.select)))

is-for : (r : Sizes) (s : State) → is_for r (words r s) ≡ true
is-for r s =
    and_from _ _ (same r.pattern_len) (and_from _ _ (same r.longest_key) (and_from _ _ (same r.most_elements)
    (and_from _ _ (same (strength_word r.strength)) (same (variable_word r.variable)))))

accepted : (r : Sizes) (s : State) → is_state r (words r s) ≡ true → state_fault r (words r s) ≡ None
accepted r s state =
    let form = has-form r s in
    let sizes = is-for r s in
    rw (form, sizes, state) refl

-- ---- the records before those of places and points

before-tail : (select : Select) (r : Sizes) (h : Head) (end : ℕ) (tail : List ℕ) → drop (head_len select) (head_words r h ++ chain_record select end ++ tail) ≡ tail
before-tail All r h end tail = refl
before-tail Chain r h end tail = refl

-- the word after the first of the tail
before-second : (select : Select) (r : Sizes) (h : Head) (end : ℕ) (tail : List ℕ) →
    slice_index (head_words r h ++ chain_record select end ++ tail) (head_len select + 1) ≡ slice_index tail 1
before-second All r h end tail = refl
before-second Chain r h end tail = refl

before-last_end : (select : Select) (r : Sizes) (h : Head) (end : ℕ) (tail : List ℕ) → (select ≡ All → end ≡ 0) →
    last_end_in select (head_words r h ++ chain_record select end ++ tail) ≡ end
before-last_end All r h end tail none = sym (none refl)
before-last_end Chain r h end tail none = refl

before-chain_end : (select : Select) (r : Sizes) (h : Head) (end : ℕ) (tail : List ℕ) → end ≤ h.start →
    is_chain_end select h (head_words r h ++ chain_record select end ++ tail) ≡ true
before-chain_end All r h end tail below = refl
before-chain_end Chain r h end tail below = and_from _ _ (le-leb end h.start below) refl

-- ---- places

places-back : (ps : List SavedPlace) → places_in (place_words ps) ≡ ps
places-back [] = refl
places-back (p ∷ ps) =
    ap (λ b. record { start = p.start; is_first = b } ∷ places_in (place_words ps)) (flag-read p.is_first) ∙ ap (λ (l : List SavedPlace). p ∷ l) (places-back ps)

places-are : (least most : ℕ) (ps : List SavedPlace) → AreInOrder least most ps → are_places least most (place_words ps) ≡ true
places-are least most [] h = refl
places-are least most (p ∷ ps) h =
    let a = le-leb least p.start h.0 in
    let b = le-leb p.start most h.1 in
    let c = flag-is p.is_first in
    let d = places-are p.start most ps h.2 in
    rw (a, b, c, d) refl

-- ---- points

same-codes : (cs : List ℕ) → bytes_eq cs cs ≡ true
same-codes [] = refl
same-codes (c ∷ cs) = and_from _ _ (same c) (same-codes cs)

decomposed-back : (c : ℕ) → decomposition c ≡ c ∷ [] → decomposed c ≡ c
decomposed-back c itself = ap (λ b. cond b c 0) (ap (λ l. bytes_eq l (c ∷ [])) itself ∙ same-codes (c ∷ []))

point-back : (end : ℕ) (p : Point) → IsPointBefore end p → record { cp = decomposed p.cp; ccc = canonical_combining_class (decomposed p.cp); offset = p.offset; first = flag_word p.first == 1 } ≡ p
point-back end p is =
    ap (λ (c : ℕ). let q : Point = record { cp = c; ccc = canonical_combining_class c; offset = p.offset; first = flag_word p.first == 1 } in q) (decomposed-back p.cp is.itself) ∙
    ap₂ (λ (class : ℕ) (is_first : Bool). let q : Point = record { cp = p.cp; ccc = class; offset = p.offset; first = is_first } in q) (sym is.sound.class) (flag-read p.first)

points-back : (end : ℕ) (ps : List Point) → AllOf (IsPointBefore end) ps → points_in (point_words ps) ≡ ps
points-back end [] are = refl
points-back end (p ∷ ps) are =
    ap₂ (λ (q : Point) (qs : List Point). q ∷ qs) (point-back end p (All-head (IsPointBefore end) p ps are)) (points-back end ps (All-tail (IsPointBefore end) p ps are))

points-are : (end : ℕ) (ps : List Point) → AllOf (IsPointBefore end) ps → are_points end (point_words ps) ≡ true
points-are end [] are = refl
points-are end (p ∷ ps) are =
    let here = All-head (IsPointBefore end) p ps are in
    and_from _ _ here.sound.scalar (and_from _ _ (lt-ltb p.offset end here.before) (and_from _ _ (flag-is p.first)
    (and_from _ _ refl (points-are end ps (All-tail (IsPointBefore end) p ps are)))))

-- ---- where places and points stand

parts : (h : Head) (places window waiting : List ℕ) → length places ≡ 4 * h.state → length window ≡ 4 * h.window_len →
    let tail = (places ++ window) ++ waiting in
    (place_part h tail ≡ places) × (window_part h tail ≡ window) × (waiting_part h tail ≡ waiting)
parts h places window waiting state window_len =
    let joined = append_assoc places window waiting in
    let after_places : drop (4 * h.state) ((places ++ window) ++ waiting) ≡ window ++ waiting = ap₂ (λ n l. drop n l) (sym state) joined ∙ drop-append_seam places (window ++ waiting) in (
      ap₂ (λ n l. take n l) (sym state) joined ∙ take-append_seam places (window ++ waiting),
      ap₂ (λ n l. take n l) (sym window_len) after_places ∙ take-append_seam window waiting,
      ap₂ (λ n l. drop n l) (sym window_len) after_places ∙ drop-append_seam window waiting,
    )

-- ---- where no fault was reported

module _ (r : Sizes) (s : State) (o : IsOpen r s) where
  abbrev h : Head
  h = head_of s

  abbrev all : List ℕ
  all = words r s

  tail-is : drop (head_len r.select) all ≡ tail_words s
  tail-is = before-tail r.select r h s.last_end (tail_words s)

  stand : (place_part h (tail_words s) ≡ place_words s.places) × (window_part h (tail_words s) ≡ point_words s.window) × (waiting_part h (tail_words s) ≡ point_words s.waiting)
  stand = parts h (place_words s.places) (point_words s.window) (point_words s.waiting) (place_words-length s.places) (point_words-length s.window)

  held : may_be_held (length s.held) (number_of s.held) ≡ true
  held = and_from _ _ (le-leb (length s.held) 3 (held-few s.held o.held))
      (and_from _ _ (ap is_incomplete_or_empty (bytes_in-held s.held o.held) ∙ o.held) (none-is-zero s.held))
    where
      none-is-zero : (bytes : List ℕ) → (not (length bytes == 0) || number_of bytes == 0) ≡ true
      none-is-zero [] = refl
      none-is-zero (b ∷ bytes) = ap (λ empty. not empty || number_of (b ∷ bytes) == 0) (eqb-suc-zero (length bytes))

  records : has_records r h all ≡ true
  records = and_from _ _ (le-leb (length s.places) r.pattern_len o.few_places) (and_from _ _ (le-leb (length s.window) r.longest_key o.few_in_window)
      (and_from _ _ (le-leb (length s.waiting) MOST_WAITING o.few_waiting) (eq-eqb (length all) _ (states_are_records r s))))

  open_first : is_open_head r h all ≡ true
  open_first = and_from _ _ (ap (λ f. fault_offset_word f == 0) o.none) (and_from _ _ (flag-is s.after_variable) (and_from _ _ (flag-is s.has_keys)
      (and_from _ _ (flag-is s.waits) (and_from _ _ (le-leb (length s.held) s.taken o.within)
      (and_from _ _ held (and_from _ _ records (le-leb s.start (s.taken - length s.held) o.start)))))))

  second : (ps : List SavedPlace) (more : List ℕ) → begins_with_first ps ≡ true → slice_index (place_words ps ++ more) 1 ≡ 1
  second [] more first = cc
  second (p ∷ ps) more first = ap flag_word first

  waits : may_match_wait r h all ≡ true
  waits = elim (cases_Bool s.waits) [
    | inl some ↦
        let may = o.waits some in
        let state : (length s.places == r.pattern_len) ≡ true = eq-eqb (length s.places) r.pattern_len may.whole in
        let word : slice_index all (head_len r.select + 1) ≡ 1 =
        before-second r.select r h s.last_end (tail_words s)
        ∙ ap (λ l. slice_index l 1) (append_assoc (place_words s.places) (point_words s.window) (point_words s.waiting))
        ∙ second s.places (point_words s.window ++ point_words s.waiting) may.first in
        let flag : (slice_index all (head_len r.select + 1) == 1) ≡ true = ap (λ n. n == 1) word in
        let keyed : (flag_word s.has_keys == 1) ≡ true = flag-read s.has_keys ∙ may.has_keys in
        or_right (flag_word s.waits == 0) _ (and_from _ _ state (and_from _ _ flag keyed))
    | inr none ↦ ap (λ b. flag_word b == 0 || (length s.places == r.pattern_len && (slice_index all (head_len r.select + 1) == 1 && flag_word s.has_keys == 1))) none
  ]

  open_tail : has_open_tail h (tail_words s) ≡ true
  open_tail =
      let end = s.taken - length s.held in
      let window = ap points_in stand.1 ∙ points-back end s.window o.window in
      let waiting = ap points_in stand.2 ∙ points-back end s.waiting o.waiting in
      and_from _ _ (ap (are_places 0 s.start) stand.0 ∙ places-are 0 s.start s.places o.places)
      (and_from _ _ (ap (are_points end) stand.1 ∙ points-are end s.window o.window)
      (and_from _ _ (ap (are_points end) stand.2 ∙ points-are end s.waiting o.waiting)
      (and_from _ _ (ap may_be_in_window window ∙ o.may_be_in_window) (ap may_wait waiting ∙ o.may_wait))))

  open-state : is_state r all ≡ true
  open-state =
      let whole = and_from _ _ open_first (and_from _ _ waits (and_from _ _ (before-chain_end r.select r h s.last_end (tail_words s) o.last_end)
      (ap (has_open_tail h) tail-is ∙ open_tail))) in
      let chosen = ap (λ f. cond (kind_word f == 0) (is_open_head r h all && (may_match_wait r h all && (is_chain_end r.select h all && has_open_tail h (drop (head_len r.select) all)))) (is_reported r.select h all)) o.none ∙ whole in
      and_from _ _ (le-leb s.taken most_bytes o.short) (and_from _ _ refl (and_from _ _ refl chosen))

  open-back : state_in r.select all ≡ s
  open-back =
      let end = s.taken - length s.held in
      let none = o.none in
      let bytes = bytes_in-held s.held o.held in
      let after = flag-read s.after_variable in
      let keys = flag-read s.has_keys in
      let waiting_match = flag-read s.waits in
      let last = before-last_end r.select r h s.last_end (tail_words s) o.no_chain in
      let places = ap (λ l. places_in (place_part h l)) tail-is ∙ ap places_in stand.0 ∙ places-back s.places in
      let window = ap (λ l. points_in (window_part h l)) tail-is ∙ ap points_in stand.1 ∙ points-back end s.window o.window in
      let waiting = ap (λ l. points_in (waiting_part h l)) tail-is ∙ ap points_in stand.2 ∙ points-back end s.waiting o.waiting in
      ap (λ f. cond (kind_word f == 0) (open_in r.select all) (reported (record { kind = kind_word s.fault; offset = fault_offset_word s.fault }))) none
      ∙ same-state s none bytes after keys waiting_match last places window waiting
    where
      same-state : (s : State) {fault : Option TextFault} {held : List ℕ} {after keys waits : Bool} {end : ℕ} {places : List SavedPlace} {window waiting : List Point} →
          s.fault ≡ fault → held ≡ s.held → after ≡ s.after_variable → keys ≡ s.has_keys → waits ≡ s.waits → end ≡ s.last_end → places ≡ s.places → window ≡ s.window → waiting ≡ s.waiting →
          record { taken = s.taken; fault = fault; held = held; after_variable = after; start = s.start; has_keys = keys; waits = waits; last_end = end; places = places; window = window; waiting = waiting } ≡ s
      same-state s a b c d e f g i j = rw (sym a, b, c, d, e, f, g, i, j) refl

-- ---- where a fault was reported

-- no words follow, and those of a chain are 0
reported-rest : (select : Select) (r : Sizes) (f : TextFault) →
    let all = head_words r (head_of (reported f)) ++ chain_record select 0 ++ [] in
    (length all == head_len select && list_all (λ word. word == 0) (drop 9 all)) ≡ true
reported-rest All r f = refl
reported-rest Chain r f = refl

reported-state : (r : Sizes) (s : State) (e : IsStateAtFault s) → is_state r (words r (reported e.fault)) ≡ true
reported-state r s e =
    let f = e.fault in
    let all = words r (reported f) in
    let h = head_of (reported f) in
    let some : (f.kind == 0) ≡ false = ne_eqb f.kind 0 (λ none. let no : ⊥ = omega (arith, none, e.least) in no) in
    let ended : is_reported r.select h all ≡ true =
    and_from _ _ (le-leb 31 f.kind e.least) (and_from _ _ (le-leb f.kind 35 e.most) (and_from _ _ (same f.offset) (reported-rest r.select r f))) in
    let chosen = ap (λ b. cond b (is_open_head r h all && (may_match_wait r h all && (is_chain_end r.select h all && has_open_tail h (drop (head_len r.select) all)))) (is_reported r.select h all)) some ∙ ended in
    and_from _ _ (le-leb f.offset most_bytes e.short) (and_from _ _ refl (and_from _ _ refl chosen))

reported-back : (r : Sizes) (s : State) (e : IsStateAtFault s) → state_in r.select (words r (reported e.fault)) ≡ reported e.fault
reported-back r s e =
    let f = e.fault in
    let some : (f.kind == 0) ≡ false = ne_eqb f.kind 0 (λ none. let no : ⊥ = omega (arith, none, e.least) in no) in
    ap (λ b. cond b (open_in r.select (words r (reported f))) (reported f)) some

-- ---- the laws

pub states_are_accepted : StatesAreAccepted
states_are_accepted r s (inl o) = accepted r s (open-state r s o)
states_are_accepted r s (inr e) = subst (λ (t : State). state_fault r (words r t) ≡ None) (sym e.is) (accepted r (reported e.fault) (reported-state r s e))

pub states_are_read_back : StatesAreReadBack
states_are_read_back r s (inl o) = open-back r s o
states_are_read_back r s (inr e) = subst (λ (t : State). state_in r.select (words r t) ≡ t) (sym e.is) (reported-back r s e)
