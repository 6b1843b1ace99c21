-- The words say that a fault was reported, or a search that goes on.
use Rattle.std.specs.Prelude.{slice_index, nat_le, cond}
use Rattle.std.proofs.Common.{◌≡◌, ◌∙◌, ◌<◌, ◌≤◌, ◌-◌, ◌&&◌, ℕ, List, length, take, drop, refl, sym, ap, ap₂, subst}
use Rattle.std.proofs.lemmas.Bool.{and_left, and_right, and_parts, le-leb, leb-true, eq-eqb, ne_eqb}
use Rattle.collation_matches.specs.GoodPrefix.{most_bytes}
use Rattle.collation_states.specs.declared.states.Sizes.{Sizes}
use Rattle.collation_states.specs.State.{State, reported}
use Rattle.collation_states.specs.Reading.{Says, open_in}
use Rattle.collation_states.specs.declared.states.Head.{Head}
use Rattle.collation_states.specs.StateTests.{head_len, is_open_head, may_match_wait, is_chain_end, has_open_tail, head, is_reported, is_state}
use Rattle.collation_states.proofs.ReadingLemmas.{after-head, state-too_long, state-not_zero, state-not_zero_last, state-open, state-reported, open_head-held, records-follow, open-says, says-same}
use Rattle.collation_states.proofs.reading.read_state.Goals as goal
use Rattle.collation_states.proofs.reading.read_state.Goals.{then-not-is_open_head-via-then-not-is_open_head, then-not-is_open_head-via-else-not-is_open_head+then-not-may_match_wait, then-not-is_open_head-via-else-not-is_open_head+else-not-may_match_wait+then-not-is_chain_end, then-head-gt-MOST_BYTES-via-then-head-gt-MOST_BYTES, then-head-gt-MOST_BYTES-via-else-head-gt-MOST_BYTES+then-words-ne0, then-head-gt-MOST_BYTES-via-else-head-gt-MOST_BYTES+else-words-ne0+then-words-ne0-2}

pub returns-then-head-gt-MOST_BYTES-clause-right : goal.returns-then-head-gt-MOST_BYTES-clause-right
returns-then-head-gt-MOST_BYTES-clause-right c =
    let r = c.args.sizes.now in
    let words = c.args.words.now in
    let e = c.read_head-head.ensures in
    elim c.then-head-gt-MOST_BYTES.branch [
      | then-head-gt-MOST_BYTES-via-then-head-gt-MOST_BYTES w ↦ state-too_long r words (subst (λ (h : Head). 4611686018427387904 < h.taken) e w.if-head-gt-MOST_BYTES.true)
      | then-head-gt-MOST_BYTES-via-else-head-gt-MOST_BYTES+then-words-ne0 w ↦ state-not_zero r words w.if-words-ne0.true
      | then-head-gt-MOST_BYTES-via-else-head-gt-MOST_BYTES+else-words-ne0+then-words-ne0-2 w ↦ state-not_zero_last r words w.if-words-ne0-2.true
    ]

pub read_open-requires-clause-records : goal.read_open-requires-clause-records
read_open-requires-clause-records c =
    records-follow c.args.sizes.now c.read_head-head.result c.args.words.now (sym c.if-not-is_open_head.ensures)
    ∙ ap (λ n. length (take (length c.args.words.now - n) (drop n c.args.words.now))) (sym c.head_len.ensures.right)

pub returns-clause-right : goal.returns-clause-right
returns-clause-right c =
    let r = c.args.sizes.now in
    let words = c.args.words.now in
    let e = c.read_head-head.ensures in
    let whole = state-open r words
    (subst (λ (h : Head). h.taken ≤ 4611686018427387904) e c.if-head-gt-MOST_BYTES.false) c.if-words-ne0.false c.if-words-ne0-2.false
    (sym (ap (λ (h : Head). h.kind) e) ∙ c.if-head-ne0.false)
    (ap (λ (h : Head). is_open_head r h words) (sym e) ∙ sym c.if-not-is_open_head.ensures)
    (ap (λ (h : Head). may_match_wait r h words) (sym e) ∙ sym c.if-not-may_match_wait.ensures)
    (ap (λ (h : Head). is_chain_end r.select h words) (sym e) ∙ sym c.if-not-is_chain_end.ensures) in
    let n = head_len r.select in
    whole ∙ ap₂ (λ (h : Head) l. has_open_tail h l) (sym e) (sym (after-head n words) ∙ ap (λ k. take (length words - k) (drop k words)) (sym c.head_len.ensures.right))
    ∙ c.read_open.ensures.right

pub returns-clause-says : goal.returns-clause-says
returns-clause-says c =
    let words = c.args.words.now in
    let select = c.args.sizes.now.select in
    let slice = ap (λ i. take (length words - i) (drop i words)) c.head_len.ensures.right ∙ after-head (head_len select) words in
    says-same _ _ _ (open-says select words c.read_head-head.result _ _ _ c.read_head-head.ensures c.if-head-ne0.false c.in-Some.ensures.bytes c.last_end_in-last_end.ensures slice) c.read_open.ensures.says

pub returns-then-not-is_reported-clause-right : goal.returns-then-not-is_reported-clause-right
returns-then-not-is_reported-clause-right c =
    let r = c.args.sizes.now in
    let words = c.args.words.now in
    let e = c.read_head-head.ensures in
    state-reported r words (subst (λ (h : Head). h.taken ≤ 4611686018427387904) e c.if-head-gt-MOST_BYTES.false) c.if-words-ne0.false c.if-words-ne0-2.false
    (λ zero. c.if-head-ne0.true (ap (λ (h : Head). h.kind) e ∙ zero))
    ∙ ap (λ (h : Head). is_reported r.select h words) (sym e) ∙ sym c.is_reported.ensures ∙ c.if-not-is_reported.true

pub returns-then-head-ne0-clause-right : goal.returns-then-head-ne0-clause-right
returns-then-head-ne0-clause-right c =
    let r = c.args.sizes.now in
    let words = c.args.words.now in
    let e = c.read_head-head.ensures in
    state-reported r words (subst (λ (h : Head). h.taken ≤ 4611686018427387904) e c.if-head-gt-MOST_BYTES.false) c.if-words-ne0.false c.if-words-ne0-2.false
    (λ zero. c.if-head-ne0.true (ap (λ (h : Head). h.kind) e ∙ zero))
    ∙ ap (λ (h : Head). is_reported r.select h words) (sym e) ∙ sym c.is_reported.ensures ∙ c.if-not-is_reported.false

pub returns-then-head-ne0-clause-says : goal.returns-then-head-ne0-clause-says
returns-then-head-ne0-clause-says c =
    let words = c.args.words.now in
    let e = c.read_head-head.ensures in
    let ended = reported (record { kind = (head words).kind; offset = (head words).fault_offset }) in
    subst (λ (s : State). Says c.reported.result s)
    (ap (λ (h : Head). reported (record { kind = h.kind; offset = h.fault_offset })) e
    ∙ ap (λ b. cond b (open_in c.args.sizes.now.select words) ended) (sym (ne_eqb (head words).kind 0 (λ zero. c.if-head-ne0.true (ap (λ (h : Head). h.kind) e ∙ zero)))))
    c.reported.ensures.says

state-whole : (r : Sizes) (words : List ℕ) → (head words).taken ≤ most_bytes → slice_index words 18 ≡ 0 → slice_index words 19 ≡ 0 → (head words).kind ≡ 0 →
    is_state r words ≡ (is_open_head r (head words) words && (may_match_wait r (head words) words && (is_chain_end r.select (head words) words
    && has_open_tail (head words) (drop (head_len r.select) words))))
state-whole r words short a b kind =
    let s = le-leb (head words).taken most_bytes short in
    let x = eq-eqb (slice_index words 18) 0 a in
    let y = eq-eqb (slice_index words 19) 0 b in
    let k = eq-eqb (head words).kind 0 kind in
    rw (s, x, y, k) refl

pub returns-then-not-is_open_head-clause-right : goal.returns-then-not-is_open_head-clause-right
returns-then-not-is_open_head-clause-right c =
    let r = c.args.sizes.now in
    let words = c.args.words.now in
    let e = c.read_head-head.ensures in
    state-whole r words (subst (λ (h : Head). h.taken ≤ 4611686018427387904) e c.if-head-gt-MOST_BYTES.false) c.if-words-ne0.false c.if-words-ne0-2.false
    (sym (ap (λ (h : Head). h.kind) e) ∙ c.if-head-ne0.false)
    ∙ elim c.then-not-is_open_head.branch [
      | then-not-is_open_head-via-then-not-is_open_head w ↦
          and_left (is_open_head r (head words) words) _ (ap (λ (h : Head). is_open_head r h words) (sym e) ∙ sym c.is_open_head.ensures ∙ w.if-not-is_open_head.true)
      | then-not-is_open_head-via-else-not-is_open_head+then-not-may_match_wait w ↦
          and_right (is_open_head r (head words) words) _
          (and_left (may_match_wait r (head words) words) _ (ap (λ (h : Head). may_match_wait r h words) (sym e) ∙ sym w.may_match_wait.ensures ∙ w.if-not-may_match_wait.true))
      | then-not-is_open_head-via-else-not-is_open_head+else-not-may_match_wait+then-not-is_chain_end w ↦
          and_right (is_open_head r (head words) words) _ (and_right (may_match_wait r (head words) words) _
          (and_left (is_chain_end r.select (head words) words) _
          (ap (λ (h : Head). is_chain_end r.select h words) (sym e) ∙ sym w.is_chain_end.ensures ∙ w.if-not-is_chain_end.true)))
    ]

pub returns-in_default-clause-right : goal.returns-in_default-clause-right
returns-in_default-clause-right c =
    absurd (open_head-held c.args.sizes.now c.read_head-head.result c.args.words.now (sym c.if-not-is_open_head.ensures) c.in_default.ensures.none)

pub reported-requires-clause-kinds : goal.reported-requires-clause-kinds
reported-requires-clause-kinds c =
    let kind = c.read_head-head.result.kind in
    let least = and_parts (nat_le 31 kind) _ (sym c.if-not-is_reported.ensures) in
    let most = and_parts (nat_le kind 35) _ least.1 in
    (leb-true 31 kind least.0, leb-true kind 35 most.0)
