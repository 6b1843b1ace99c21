-- Words that pass the tests are those of the state that they say.
use Rattle.std.proofs.Common.{◌≡◌, ℕ, zero, suc, ◌+◌, ◌-◌, ◌*◌, ◌/◌, ◌%◌, ◌^◌, ◌≤◌, ◌==◌, true, nat_le, nat_lt, cond, ◌&&◌, List, [], ◌∷◌, ◌++◌, length, take, drop, slice_index, Some, None, refl, sym, ap, ap₂, ◌∙◌, arith, inl, inr, append_assoc}
use Rattle.std.specs.Prelude.{replicate}
use Rattle.std.specs.List.{list_all}
use Rattle.std.proofs.lemmas.Bool.{and_parts, cases_Bool, leb-true, eqb-true}
use Rattle.std.proofs.lemmas.List.{drop_more, length-drop, length-take-le, take-append-drop}
use lib.Utf8.{scalar}
use Rattle.utf8_cut.specs.Characters.{is_incomplete_or_empty}
use Rattle.nfd_points.specs.declared.limits.TheConstants.{MOST_WAITING}
use Rattle.collation_matches.specs.declared.select.Select.{Select}
use Rattle.collation_matches.specs.declared.select.Select.TheVariants.{All, Chain}
use Rattle.collation_states.specs.declared.states.Head.{Head}
use Rattle.collation_states.specs.declared.states.Sizes.{Sizes}
use Rattle.collation_states.specs.State.{reported, four, flag_word, form_word, strength_word, variable_word, number_of, place_words, point_words, head_of, head_words, chain_record, tail_words, words}
use Rattle.collation_states.specs.StateTests.{head, head_len, has_form, is_for, is_flag, bytes_in, may_be_held, may_match_wait, has_records, is_open_head, is_chain_end, has_open_tail, is_reported, is_state, state_fault, place_part, window_part, waiting_part, decomposed, are_places, are_points, points_in}
use Rattle.collation_states.specs.Reading.{places_in, last_end_in, open_in}
use Rattle.collation_states.specs.Laws.{are_decomposed, all_points, WordsAreThoseOfTheirState}
use Rattle.collation_states.proofs.StateLaws.{place_words-length, point_words-length}

-- ---- records

flag-back : (n : ℕ) → is_flag n ≡ true → flag_word (n == 1) ≡ n
flag-back zero h = refl
flag-back (suc zero) h = refl
flag-back (suc (suc n)) h = let no : ⊥ = omega (arith, leb-true (suc (suc n)) 1 h) in elim no [ ]

zero-is : (n : ℕ) → (n == 0) ≡ true → n ≡ 0
zero-is n h = eqb-true n 0 h

places-there : (least most : ℕ) (ws : List ℕ) → are_places least most ws ≡ true → place_words (places_in ws) ≡ ws
places-there least most [] h = refl
places-there least most (s ∷ []) h = cc
places-there least most (s ∷ f ∷ []) h = cc
places-there least most (s ∷ f ∷ a ∷ []) h = cc
places-there least most (s ∷ f ∷ a ∷ b ∷ ws) h =
    let p = and_parts (nat_le least s) _ h in
    let q = and_parts (nat_le s most) _ p.1 in
    let t = and_parts (is_flag f) _ q.1 in
    let u = and_parts (a == 0) _ t.1 in
    let v = and_parts (b == 0) _ u.1 in
    ap (λ n. s ∷ n ∷ 0 ∷ 0 ∷ place_words (places_in ws)) (flag-back f t.0)
    ∙ ap₂ (λ x y. s ∷ f ∷ x ∷ y ∷ place_words (places_in ws)) (sym (zero-is a u.0)) (sym (zero-is b v.0))
    ∙ ap (λ l. s ∷ f ∷ a ∷ b ∷ l) (places-there s most ws v.1)

points-there : (end : ℕ) (ws : List ℕ) → are_points end ws ≡ true → are_decomposed ws ≡ true → point_words (points_in ws) ≡ ws
points-there end [] h d = refl
points-there end (c ∷ []) h d = cc
points-there end (c ∷ o ∷ []) h d = cc
points-there end (c ∷ o ∷ f ∷ []) h d = cc
points-there end (c ∷ o ∷ f ∷ a ∷ ws) h d =
    let p = and_parts (scalar c) _ h in
    let q = and_parts (nat_lt o end) _ p.1 in
    let t = and_parts (is_flag f) _ q.1 in
    let u = and_parts (a == 0) _ t.1 in
    let e = and_parts (decomposed c == c) _ d in
    ap₂ (λ n k. n ∷ o ∷ k ∷ 0 ∷ point_words (points_in ws)) (eqb-true (decomposed c) c e.0) (flag-back f t.0)
    ∙ ap (λ x. c ∷ o ∷ f ∷ x ∷ point_words (points_in ws)) (sym (zero-is a u.0))
    ∙ ap (λ l. c ∷ o ∷ f ∷ a ∷ l) (points-there end ws u.1 e.1)

-- those of the first points, and those of the points after them
four-more : (n : ℕ) → 4 * suc n ≡ suc (suc (suc (suc (4 * n))))
four-more n = omega arith

decomposed-take : (n : ℕ) (ws : List ℕ) → are_decomposed ws ≡ true → are_decomposed (take (4 * n) ws) ≡ true
decomposed-take zero [] h = refl
decomposed-take zero (w ∷ ws) h = refl
decomposed-take (suc n) [] h = ap (λ k. are_decomposed (take k [])) (four-more n)
decomposed-take (suc n) (c ∷ []) h = ap (λ k. are_decomposed (take k (c ∷ []))) (four-more n)
decomposed-take (suc n) (c ∷ o ∷ []) h = ap (λ k. are_decomposed (take k (c ∷ o ∷ []))) (four-more n)
decomposed-take (suc n) (c ∷ o ∷ f ∷ []) h = ap (λ k. are_decomposed (take k (c ∷ o ∷ f ∷ []))) (four-more n)
decomposed-take (suc n) (c ∷ o ∷ f ∷ a ∷ ws) h =
    let e = and_parts (decomposed c == c) _ h in
    ap (λ k. are_decomposed (take k (c ∷ o ∷ f ∷ a ∷ ws))) (four-more n) ∙ ap₂ (λ x y. x && y) e.0 (decomposed-take n ws e.1)

decomposed-drop : (n : ℕ) (ws : List ℕ) → are_decomposed ws ≡ true → are_decomposed (drop (4 * n) ws) ≡ true
decomposed-drop zero ws h = h
decomposed-drop (suc n) [] h = ap (λ k. are_decomposed (drop k [])) (four-more n)
decomposed-drop (suc n) (c ∷ []) h = ap (λ k. are_decomposed (drop k (c ∷ []))) (four-more n)
decomposed-drop (suc n) (c ∷ o ∷ []) h = ap (λ k. are_decomposed (drop k (c ∷ o ∷ []))) (four-more n)
decomposed-drop (suc n) (c ∷ o ∷ f ∷ []) h = ap (λ k. are_decomposed (drop k (c ∷ o ∷ f ∷ []))) (four-more n)
decomposed-drop (suc n) (c ∷ o ∷ f ∷ a ∷ ws) h =
    ap (λ k. are_decomposed (drop k (c ∷ o ∷ f ∷ a ∷ ws))) (four-more n) ∙ decomposed-drop n ws (and_parts (decomposed c == c) _ h).1

-- ---- the bytes held

number-back : (len held : ℕ) → may_be_held len held ≡ true → (length (bytes_in len held) ≡ len) × (number_of (bytes_in len held) ≡ held)
number-back zero held h = (refl, sym (zero-is held (and_parts (is_incomplete_or_empty (bytes_in 0 held)) _ h).1))
number-back (suc zero) held h = (refl, omega arith)
number-back (suc (suc zero)) held h = (refl, omega arith)
number-back (suc (suc (suc zero))) held h = (refl, let third : held / 256 / 256 ≡ held / 65536 = omega arith in omega (arith, third))
number-back (suc (suc (suc (suc n)))) held h = let no : ⊥ = omega (arith, leb-true (suc (suc (suc (suc n)))) 3 (and_parts (nat_le (suc (suc (suc (suc n)))) 3) _ h).0) in elim no [ ]

-- ---- the words before those of places and points

four-at : (n : ℕ) (ws : List ℕ) → n + 4 ≤ length ws →
    drop n ws ≡ four (slice_index ws n) (slice_index ws (n + 1)) (slice_index ws (n + 1 + 1)) (slice_index ws (n + 1 + 1 + 1)) ++ drop (n + 1 + 1 + 1 + 1) ws
four-at n ws long =
    drop_more ws n 0 (omega arith) ∙ ap (λ l. slice_index ws n ∷ l) (drop_more ws (n + 1) 0 (omega arith)
    ∙ ap (λ l. slice_index ws (n + 1) ∷ l) (drop_more ws (n + 1 + 1) 0 (omega arith) ∙ ap (λ l. slice_index ws (n + 1 + 1) ∷ l) (drop_more ws (n + 1 + 1 + 1) 0 (omega arith))))

head-same : (r : Sizes) (h : Head) (rest : List ℕ) {a b c d e f y z : ℕ} → a ≡ form_word r.select → b ≡ r.pattern_len → c ≡ r.longest_key → d ≡ r.most_elements →
    e ≡ strength_word r.strength → f ≡ variable_word r.variable → y ≡ 0 → z ≡ 0 →
    four a b c d ++ (four e f h.taken h.kind ++ (four h.fault_offset h.held_len h.held h.after_variable ++ (four h.start h.has_keys h.waits h.state ++ (four h.window_len h.waiting_len y z ++ rest)))) ≡ head_words r h ++ rest
head-same r h rest p q s t u v w x = rw (p, q, s, t, u, v, w, x) refl

front : (r : Sizes) (all : List ℕ) → 20 ≤ length all → has_form r.select all ≡ true → is_for r all ≡ true → slice_index all 18 ≡ 0 → slice_index all 19 ≡ 0 → all ≡ head_words r (head all) ++ drop 20 all
front r all long form sizes y z =
    let f = and_parts (nat_le (head_len r.select) (length all)) _ form in
    let g = and_parts (length all % 4 == 0) _ f.1 in
    let a = and_parts (slice_index all 1 == r.pattern_len) _ sizes in
    let b = and_parts (slice_index all 2 == r.longest_key) _ a.1 in
    let c = and_parts (slice_index all 3 == r.most_elements) _ b.1 in
    let d = and_parts (slice_index all 4 == strength_word r.strength) _ c.1 in
    four-at 0 all (omega arith)
    ∙ ap (λ l. four (slice_index all 0) (slice_index all 1) (slice_index all 2) (slice_index all 3) ++ l) (four-at 4 all (omega arith)
    ∙ ap (λ l. four (slice_index all 4) (slice_index all 5) (slice_index all 6) (slice_index all 7) ++ l) (four-at 8 all (omega arith)
    ∙ ap (λ l. four (slice_index all 8) (slice_index all 9) (slice_index all 10) (slice_index all 11) ++ l) (four-at 12 all (omega arith)
    ∙ ap (λ l. four (slice_index all 12) (slice_index all 13) (slice_index all 14) (slice_index all 15) ++ l) (four-at 16 all (omega arith)))))
    ∙ head-same r (head all) (drop 20 all) (eqb-true _ _ g.1) (eqb-true _ _ a.0) (eqb-true _ _ b.0) (eqb-true _ _ c.0) (eqb-true _ _ d.0) (eqb-true _ _ d.1) y z

-- the record of a chain, and the words after it
chain-there : (select : Select) (h : Head) (all : List ℕ) → head_len select ≤ length all → is_chain_end select h all ≡ true →
    chain_record select (last_end_in select all) ++ drop (head_len select) all ≡ drop 20 all
chain-there All h all long end = refl
chain-there Chain h all long end =
    let a = and_parts (nat_le (slice_index all 20) h.start) _ end in
    let b = and_parts (slice_index all 21 == 0) _ a.1 in
    let c = and_parts (slice_index all 22 == 0) _ b.1 in
    let x = zero-is (slice_index all 21) b.0 in
    let y = zero-is (slice_index all 22) c.0 in
    let z = zero-is (slice_index all 23) c.1 in
    sym (four-at 20 all long ∙ ap₂ (λ m n. slice_index all 20 ∷ m ∷ n ∷ slice_index all 23 ∷ drop 24 all) x y ∙ ap (λ n. slice_index all 20 ∷ 0 ∷ 0 ∷ n ∷ drop 24 all) z)

-- ---- where no fault was reported

head-is : (h : Head) {m n a b c d e f g i j k : ℕ} → m ≡ h.taken → n ≡ h.start → a ≡ h.kind → b ≡ h.fault_offset → c ≡ h.held_len → d ≡ h.held → e ≡ h.after_variable → f ≡ h.has_keys → g ≡ h.waits →
    i ≡ h.state → j ≡ h.window_len → k ≡ h.waiting_len →
    record { taken = m; kind = a; fault_offset = b; held_len = c; held = d; after_variable = e; start = n; has_keys = f; waits = g; state = i; window_len = j; waiting_len = k } ≡ h
head-is h l m p q s t u v w x y z = rw (l, m, p, q, s, t, u, v, w, x, y, z) refl

module _ (r : Sizes) (all : List ℕ) (form : has_form r.select all ≡ true) (sizes : is_for r all ≡ true) (y : slice_index all 18 ≡ 0) (z : slice_index all 19 ≡ 0)
    (own : are_decomposed (all_points r.select all) ≡ true) where
  abbrev h : Head
  h = head all

  abbrev tail : List ℕ
  tail = drop (head_len r.select) all

  long : head_len r.select ≤ length all
  long = leb-true (head_len r.select) (length all) (and_parts (nat_le (head_len r.select) (length all)) _ form).0

  least : (select : Select) → 20 ≤ head_len select
  least All = omega arith
  least Chain = omega arith

  head-there : all ≡ head_words r h ++ drop 20 all
  head-there = front r all (omega (arith, least r.select, long)) form sizes y z

  open-there : h.kind ≡ 0 → is_open_head r h all ≡ true → is_chain_end r.select h all ≡ true → has_open_tail h tail ≡ true → words r (open_in r.select all) ≡ all
  open-there none first chain last =
      let a = and_parts (h.fault_offset == 0) _ first in
      let b = and_parts (is_flag h.after_variable) _ a.1 in
      let c = and_parts (is_flag h.has_keys) _ b.1 in
      let d = and_parts (is_flag h.waits) _ c.1 in
      let e = and_parts (nat_le h.held_len h.taken) _ d.1 in
      let f = and_parts (may_be_held h.held_len h.held) _ e.1 in
      let g = and_parts (has_records r h all) (nat_le h.start (h.taken - h.held_len)) f.1 in
      let i = and_parts (nat_le h.state r.pattern_len) _ g.0 in
      let j = and_parts (nat_le h.window_len r.longest_key) _ i.1 in
      let k = and_parts (nat_le h.waiting_len MOST_WAITING) _ j.1 in
      let many : length all ≡ head_len r.select + 4 * (h.state + (h.window_len + h.waiting_len)) = eqb-true (length all) _ k.1 in
      let t_len : length tail ≡ 4 * (h.state + (h.window_len + h.waiting_len)) = omega (arith, many, length-drop (head_len r.select) all) in
      let points = drop (4 * h.state) tail in
      let p_len : length points ≡ 4 * (h.window_len + h.waiting_len) = omega (arith, t_len, length-drop (4 * h.state) tail) in
      let end = h.taken - h.held_len in
      let l = and_parts (are_places 0 h.start (place_part h tail)) _ last in
      let m = and_parts (are_points end (window_part h tail)) _ l.1 in
      let n = and_parts (are_points end (waiting_part h tail)) _ m.1 in
      let places = places-there 0 h.start (place_part h tail) l.0 in
      let window = points-there end (window_part h tail) m.0 (decomposed-take h.window_len points own) in
      let waiting = points-there end (waiting_part h tail) n.0 (decomposed-drop h.window_len points own) in
      let state_len : length (places_in (place_part h tail)) ≡ h.state = omega (arith, place_words-length (places_in (place_part h tail)), ap length places, length-take-le (4 * h.state) tail (omega (arith, t_len))) in
      let window_len : length (points_in (window_part h tail)) ≡ h.window_len = omega (arith, point_words-length (points_in (window_part h tail)), ap length window, length-take-le (4 * h.window_len) points (omega (arith, p_len))) in
      let waiting_len : length (points_in (waiting_part h tail)) ≡ h.waiting_len = omega (arith, point_words-length (points_in (waiting_part h tail)), ap length waiting, length-drop (4 * h.window_len) points, p_len) in
      let held = number-back h.held_len h.held f.0 in
      let same : head_of (open_in r.select all) ≡ h = head-is h refl refl (sym none) (sym (zero-is h.fault_offset a.0)) held.0 held.1 (flag-back h.after_variable b.0)
      (flag-back h.has_keys c.0) (flag-back h.waits d.0) state_len window_len waiting_len in
      let front_chain = chain_record r.select (last_end_in r.select all) in
      let rest : tail_words (open_in r.select all) ≡ tail =
      ap₂ (λ u v. (u ++ v) ++ point_words (points_in (waiting_part h tail))) places window ∙ ap (λ v. (place_part h tail ++ window_part h tail) ++ v) waiting
      ∙ append_assoc (place_part h tail) (window_part h tail) (waiting_part h tail)
      ∙ ap (λ v. place_part h tail ++ v) (take-append-drop (4 * h.window_len) points) ∙ take-append-drop (4 * h.state) tail in
      ap (λ (i : Head). head_words r i ++ (front_chain ++ tail_words (open_in r.select all))) same
      ∙ ap (λ v. head_words r h ++ (front_chain ++ v)) rest ∙ ap (λ v. head_words r h ++ v) (chain-there r.select h all long chain) ∙ sym head-there

  -- ---- where a fault was reported

  zeros : (ws : List ℕ) → list_all (λ word. word == 0) ws ≡ true → ws ≡ replicate (length ws) 0
  zeros [] h = refl
  zeros (w ∷ ws) h =
      let p = and_parts (w == 0) _ h in
      ap₂ (λ x l. x ∷ l) (zero-is w p.0) (zeros ws p.1)

  no-chain : (select : Select) → replicate (head_len select - 20) 0 ≡ chain_record select 0 ++ []
  no-chain All = refl
  no-chain Chain = refl

  ended-there : h.fault_offset ≡ h.taken → length all ≡ head_len r.select → list_all (λ word. word == 0) (drop 9 all) ≡ true →
      words r (reported (record { kind = h.kind; offset = h.fault_offset })) ≡ all
  ended-there offset exact none =
      let l = ap (λ ws. list_all (λ word. word == 0) (drop 9 ws)) (sym head-there) ∙ none in
      let a = and_parts (h.held_len == 0) _ l in
      let b = and_parts (h.held == 0) _ a.1 in
      let c = and_parts (h.after_variable == 0) _ b.1 in
      let d = and_parts (h.start == 0) _ c.1 in
      let e = and_parts (h.has_keys == 0) _ d.1 in
      let f = and_parts (h.waits == 0) _ e.1 in
      let g = and_parts (h.state == 0) _ f.1 in
      let i = and_parts (h.window_len == 0) _ g.1 in
      let j = and_parts (h.waiting_len == 0) _ i.1 in
      let rest : drop 20 all ≡ chain_record r.select 0 ++ [] =
      zeros (drop 20 all) j.1 ∙ ap (λ n. replicate n 0) (length-drop 20 all ∙ ap (λ n. n - 20) exact) ∙ no-chain r.select in
      let zero_is : (n : ℕ) → (n == 0) ≡ true → 0 ≡ n = λ n z. sym (zero-is n z) in
      let same : head_of (reported (record { kind = h.kind; offset = h.fault_offset })) ≡ h = head-is h offset (zero_is h.start d.0) refl refl
      (zero_is h.held_len a.0) (zero_is h.held b.0) (zero_is h.after_variable c.0) (zero_is h.has_keys e.0) (zero_is h.waits f.0)
      (zero_is h.state g.0) (zero_is h.window_len i.0) (zero_is h.waiting_len j.0) in
      ap (λ (x : Head). head_words r x ++ (chain_record r.select 0 ++ [])) same ∙ ap (λ v. head_words r h ++ v) (sym rest) ∙ sym head-there

parts-of : (r : Sizes) (all : List ℕ) → state_fault r all ≡ None → (has_form r.select all ≡ true) × (is_for r all ≡ true) × (is_state r all ≡ true)
parts-of r all none =
    let form : has_form r.select all ≡ true = elim (cases_Bool (has_form r.select all)) [
      | inl yes_form ↦ yes_form
      | inr no_form ↦ let e : state_fault r all ≡ Some 51 = rw no_form refl in let no : Some 51 ≡ None = sym e ∙ none in cc
    ] in
    let sizes : is_for r all ≡ true = elim (cases_Bool (is_for r all)) [
      | inl right ↦ right
      | inr wrong ↦ let e : state_fault r all ≡ Some 52 = rw (form, wrong) refl in let no : Some 52 ≡ None = sym e ∙ none in cc
    ] in
    let state : is_state r all ≡ true = elim (cases_Bool (is_state r all)) [
      | inl right ↦ right
      | inr wrong ↦ let e : state_fault r all ≡ Some 51 = rw (form, sizes, wrong) refl in let no : Some 51 ≡ None = sym e ∙ none in cc
    ] in
    (form, sizes, state)

pub words_are_those_of_their_state : WordsAreThoseOfTheirState
words_are_those_of_their_state r all none own =
    let p = parts-of r all none in
    let h = head all in
    let tail = drop (head_len r.select) all in
    let ended = reported (record { kind = h.kind; offset = h.fault_offset }) in
    let whole = is_open_head r h all && (may_match_wait r h all && (is_chain_end r.select h all && has_open_tail h tail)) in
    let a = and_parts (nat_le h.taken (2 ^ 62)) _ p.2 in
    let b = and_parts (slice_index all 18 == 0) _ a.1 in
    let c = and_parts (slice_index all 19 == 0) _ b.1 in
    let y = zero-is (slice_index all 18) b.0 in
    let z = zero-is (slice_index all 19) c.0 in
    elim (cases_Bool (h.kind == 0)) [
      | inl open_kind ↦
          let d = and_parts (is_open_head r h all) _ (ap (λ k. cond k whole (is_reported r.select h all)) (sym open_kind) ∙ c.1) in
          let e = and_parts (may_match_wait r h all) _ d.1 in
          let f = and_parts (is_chain_end r.select h all) _ e.1 in
          ap (λ k. words r (cond k (open_in r.select all) ended)) open_kind ∙ open-there r all p.0 p.1 y z own (zero-is h.kind open_kind) d.0 f.0 f.1
      | inr other_kind ↦
          let d = and_parts (nat_le 31 h.kind) _ (ap (λ k. cond k whole (is_reported r.select h all)) (sym other_kind) ∙ c.1) in
          let e = and_parts (nat_le h.kind 35) _ d.1 in
          let f = and_parts (h.fault_offset == h.taken) _ e.1 in
          let g = and_parts (length all == head_len r.select) _ f.1 in
          ap (λ k. words r (cond k (open_in r.select all) ended)) other_kind
          ∙ ended-there r all p.0 p.1 y z own (eqb-true h.fault_offset h.taken f.0) (eqb-true (length all) (head_len r.select) g.0) g.1
    ]
