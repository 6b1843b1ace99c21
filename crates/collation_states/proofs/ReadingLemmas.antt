-- The third test, and how many words follow the head.
use Rattle.std.specs.Prelude.{slice_index, nat_le, ◌*◌, ◌&&◌, cond, Option, IfSome}
use Rattle.std.proofs.lemmas.Bool.{and_parts, le-leb, leb-true, lt-leb, eq-eqb, ne_eqb, eqb-true}
use Rattle.std.proofs.Common.{◌≡◌, ℕ, ◌+◌, ◌-◌, ◌<◌, ◌≤◌, ◌==◌, Bool, true, false, List, length, take, drop, refl, sym, ap, ◌∙◌, subst, arith}
use Rattle.std.proofs.lemmas.List.{take_all, length-drop}
use Rattle.utf8_cut.specs.Characters.{is_incomplete_or_empty}
use Rattle.nfd_points.specs.declared.limits.TheConstants.{MOST_WAITING}
use Rattle.collation_matches.specs.GoodPrefix.{most_bytes}
use Rattle.collation_matches.specs.declared.select.Select.{Select}
use Rattle.collation_states.specs.declared.read_state.ReadState.{ReadState}
use Rattle.collation_states.specs.declared.states.Head.{Head}
use Rattle.collation_states.specs.declared.states.Sizes.{Sizes}
use Rattle.collation_states.specs.State.{State, reported}
use Rattle.collation_states.specs.Reading.{last_end_in, open_of, open_in, state_in, Says}
use Rattle.collation_states.specs.StateTests.{head, head_len, bytes_in, is_flag, may_be_held, has_records, is_open_head, may_match_wait, is_chain_end, has_open_tail, is_reported, is_state}

-- the slice of the words after so many
pub after-head : (n : ℕ) (words : List ℕ) → take (length words - n) (drop n words) ≡ drop n words
after-head n words = take_all (length words - n) (drop n words) (omega (arith, length-drop n words))

and-no : (a b : Bool) → b ≡ false → (a && b) ≡ false
and-no true b h = h
and-no false b h = refl

pub state-too_long : (r : Sizes) (words : List ℕ) → most_bytes < (head words).taken → is_state r words ≡ false
state-too_long r words long = let l = lt-leb (head words).taken most_bytes long in rw l refl

pub state-not_zero : (r : Sizes) (words : List ℕ) → (slice_index words 18 ≡ 0 → ⊥) → is_state r words ≡ false
state-not_zero r words some =
    and-no (nat_le (head words).taken most_bytes) _ (let x = ne_eqb (slice_index words 18) 0 some in rw x refl)

pub state-not_zero_last : (r : Sizes) (words : List ℕ) → (slice_index words 19 ≡ 0 → ⊥) → is_state r words ≡ false
state-not_zero_last r words some =
    and-no (nat_le (head words).taken most_bytes) _ (and-no (slice_index words 18 == 0) _ (let x = ne_eqb (slice_index words 19) 0 some in rw x refl))

-- the number of an open head spells bytes that properly begin a character
pub open_head-held : (r : Sizes) (h : Head) (words : List ℕ) → is_open_head r h words ≡ true → (h.held_len ≤ 3 → is_incomplete_or_empty (bytes_in h.held_len h.held) ≡ false) → ⊥
open_head-held r h words first none =
    let a = and_parts (h.fault_offset == 0) _ first in
    let b = and_parts (is_flag h.after_variable) _ a.1 in
    let c = and_parts (is_flag h.has_keys) _ b.1 in
    let d = and_parts (is_flag h.waits) _ c.1 in
    let e = and_parts (nat_le h.held_len h.taken) _ d.1 in
    let f = and_parts (may_be_held h.held_len h.held) _ e.1 in
    let g = and_parts (nat_le h.held_len 3) _ f.0 in
    let i = and_parts (is_incomplete_or_empty (bytes_in h.held_len h.held)) _ g.1 in
    let no : false ≡ true = sym (none (leb-true h.held_len 3 g.0)) ∙ i.0 in cc

pub state-reported : (r : Sizes) (words : List ℕ) → (head words).taken ≤ most_bytes → slice_index words 18 ≡ 0 → slice_index words 19 ≡ 0 → ((head words).kind ≡ 0 → ⊥) →
    is_state r words ≡ is_reported r.select (head words) words
state-reported r words short a b kind =
    let s = le-leb (head words).taken most_bytes short in
    let x = eq-eqb (slice_index words 18) 0 a in
    let y = eq-eqb (slice_index words 19) 0 b in
    let k = ne_eqb (head words).kind 0 kind in
    rw (s, x, y, k) refl

pub state-open : (r : Sizes) (words : List ℕ) → (head words).taken ≤ most_bytes → slice_index words 18 ≡ 0 → slice_index words 19 ≡ 0 → (head words).kind ≡ 0 →
    is_open_head r (head words) words ≡ true → may_match_wait r (head words) words ≡ true → is_chain_end r.select (head words) words ≡ true →
    is_state r words ≡ has_open_tail (head words) (drop (head_len r.select) words)
state-open r words short a b kind first waits chain_end =
    let s = le-leb (head words).taken most_bytes short in
    let x = eq-eqb (slice_index words 18) 0 a in
    let y = eq-eqb (slice_index words 19) 0 b in
    let k = eq-eqb (head words).kind 0 kind in
    rw (s, x, y, k, first, waits, chain_end) refl

-- so many words follow
pub records-follow : (r : Sizes) (h : Head) (words : List ℕ) → is_open_head r h words ≡ true → 4 * (h.state + (h.window_len + h.waiting_len)) ≡ length (take (length words - head_len r.select) (drop (head_len r.select) words))
records-follow r h words first =
    let a = and_parts (h.fault_offset == 0) _ first in
    let b = and_parts (is_flag h.after_variable) _ a.1 in
    let c = and_parts (is_flag h.has_keys) _ b.1 in
    let d = and_parts (is_flag h.waits) _ c.1 in
    let e = and_parts (nat_le h.held_len h.taken) _ d.1 in
    let f = and_parts (may_be_held h.held_len h.held) _ e.1 in
    let g = and_parts (has_records r h words) (nat_le h.start (h.taken - h.held_len)) f.1 in
    let i = and_parts (nat_le h.state r.pattern_len) _ g.0 in
    let j = and_parts (nat_le h.window_len r.longest_key) _ i.1 in
    let k = and_parts (nat_le h.waiting_len MOST_WAITING) _ j.1 in
    let n = head_len r.select in
    let many : length words ≡ n + 4 * (h.state + (h.window_len + h.waiting_len)) = eqb-true (length words) (n + 4 * (h.state + (h.window_len + h.waiting_len))) k.1 in
    omega (arith, many, ap length (after-head n words), length-drop n words)

-- what a head and the words after it say
pub open-says : (select : Select) (words : List ℕ) (h : Head) (bytes : List ℕ) (end : ℕ) (tail : List ℕ) → h ≡ head words → h.kind ≡ 0 →
    bytes ≡ bytes_in h.held_len h.held → end ≡ last_end_in select words → tail ≡ drop (head_len select) words → open_of h bytes end tail ≡ state_in select words
open-says select words h bytes end tail same kind held last rest =
    let ended = reported (record { kind = (head words).kind; offset = (head words).fault_offset }) in
    ap (λ l. open_of h l end tail) held ∙ ap (λ n. open_of h (bytes_in h.held_len h.held) n tail) last ∙ ap (open_of h (bytes_in h.held_len h.held) (last_end_in select words)) rest
    ∙ ap (λ (i : Head). open_of i (bytes_in i.held_len i.held) (last_end_in select words) (drop (head_len select) words)) same
    ∙ ap (λ b. cond b (open_in select words) ended) (sym (eq-eqb (head words).kind 0 (sym (ap (λ (i : Head). i.kind) same) ∙ kind)))

pub says-same : (o : Option ReadState) (s t : State) → s ≡ t → IfSome o (λ read. Says read s) → IfSome o (λ read. Says read t)
says-same o s t e h = subst (λ (x : State). IfSome o (λ read. Says read x)) e h
