-- A run over a piece: that it comes to rows of states that were reached.
use Rattle.std.specs.Char.{len_utf8}
use Rattle.std.specs.Str.{chars, IsUtf8}
use Rattle.std.proofs.Common.{◌≡◌, ◌∙◌, ◌⊎◌, inl, inr, ℕ, ◌+◌, ◌-◌, ◌<◌, ◌≤◌, List, [], ◌∷◌, ◌++◌, length, take, drop, slice_index, Option, Some, None, IfSome, refl, sym, ap, append_assoc, subst, arith}
use Rattle.std.proofs.Math.Logic.{∥∥₁_elim, ∥∥₁_map, ∥∥₁_prop}
use Rattle.std.proofs.Props.{props}
use Rattle.std.specs.Prelude.{slice_range, All}
use Rattle.std.proofs.Math.Seq.{take-add}
use Rattle.std.proofs.lemmas.Option.{same_Some}
use Rattle.std.proofs.lemmas.List.{append-nil, length-take, take_more, take-take}
use Rattle.std.proofs.lemmas.List.Elements.{All-drop, All-head, All-tail, All-take}
use Rattle.byte_dfa.specs.declared.moves.Cursor.{Cursor}
use Rattle.byte_dfa.specs.Moves.{Accepts, Follows, HasRow, IsCursor, MovesLead, cell_of, row_after}
use Rattle.byte_dfa.proofs.MoveLemmas.{row_after-first}
use Rattle.utf8_cut.specs.Sequences.{SpellsCharacter}
use Rattle.nfd_points.specs.Points.{byte_len}
use Rattle.nfd_points.specs.Laws.{BytesOfParts}
use Rattle.collation_letters.proofs.ApartLemmas.{len_one as byte_len-one}
use Rattle.collation_table.specs.Table.{TableMap}
use Rattle.collation_pattern.specs.Compiled.{Compiled}
use Rattle.collation_skip.specs.declared.automaton.Automaton.{Automaton}
use Rattle.collation_skip.specs.declared.state.State.{State}
use Rattle.collation_skip.specs.Passed.{IsPassed}
use Rattle.collation_skip.specs.Reached.{HasReached, IsReached, IsMove}
use Rattle.collation_skip.specs.Rows.{AreRowsRight, IsRow, Stands}
use Rattle.collation_skip.proofs.PassedLemmas.{passed-had}
use Rattle.collation_skip.proofs.RowLemmas.{row-had, row-one}
use Rattle.collation_skip.proofs.TextLemmas.{cut-last, same-character}

-- the row is one of the cells
pub stands-had : (table : TableMap) (pattern : Compiled) (a : Automaton) (piece : List ℕ) (at row : ℕ) → AreRowsRight table pattern a → Stands table pattern a piece at row → HasRow a.cells row
stands-had table pattern a piece at row right h = ∥∥₁_elim h (hlevel props) (λ s. row-had table pattern a row s.0 right s.1)

-- a run may go on from a cursor that stands at such a row
pub stands-cursor : (table : TableMap) (pattern : Compiled) (a : Automaton) (piece : List ℕ) (cursor : Cursor) → AreRowsRight table pattern a → Stands table pattern a piece cursor.at cursor.row → cursor.at ≤ length piece → cursor.accepted_at ≤ cursor.at →
    IsCursor a.cells piece cursor
stands-cursor table pattern a piece cursor right h within order = record { spot = record { within = within; has_row = stands-had table pattern a piece cursor.at cursor.row right h }; order = order }

-- the state behind more bytes
stands-after : (table : TableMap) (pattern : Compiled) (a : Automaton) (before bytes : List ℕ) (row to : ℕ) (s : State) → AreRowsRight table pattern a → All (λ byte. byte < 256) bytes → IsRow a row s →
    ((start : ℕ) → HasReached table pattern s start before) → row_after a.cells row bytes ≡ Some to → ∥ ((t : State) × IsRow a to t × ((start : ℕ) → HasReached table pattern t start (before ++ bytes))) ∥₁
stands-after table pattern a before [] row to s right small is reached leads =
    let same = same_Some row to leads in
    ∣ (s, subst (λ n. IsRow a n s) same is, λ start. subst (HasReached table pattern s start) (sym (append-nil before)) (reached start)) ∣₁
stands-after table pattern a before (byte ∷ bytes) row to s right small is reached leads =
    let cell = cell_of a.cells row byte in
    let first = row_after-first a.cells row to byte bytes leads in
    let same : (before ++ byte ∷ []) ++ bytes ≡ before ++ byte ∷ bytes = append_assoc before (byte ∷ []) bytes in
    ∥∥₁_elim (right.cells row byte s (All-head (λ n. n < 256) byte bytes small) is first.0) ∥∥₁_prop (λ m.
    subst (λ (text : List ℕ). ∥ ((t : State) × IsRow a to t × ((start : ℕ) → HasReached table pattern t start text)) ∥₁) same
    (stands-after table pattern a (before ++ byte ∷ []) bytes cell to m.0 right (All-tail (λ n. n < 256) byte bytes small) m.1 (λ start. m.2 start before (reached start)) first.1))

-- where moves led
pub stands-leads : (table : TableMap) (pattern : Compiled) (a : Automaton) (piece : List ℕ) (at row to to_row : ℕ) → AreRowsRight table pattern a → All (λ byte. byte < 256) piece → MovesLead a.cells piece at row to to_row → Stands table pattern a piece at row →
    Stands table pattern a piece to to_row
stands-leads table pattern a piece at row to to_row right small h stands =
    let on = h.on in
    let longer : take to piece ≡ take at piece ++ slice_range piece at to = ap (λ n. take n piece) (omega (arith, on)) ∙ take-add at (to - at) piece in
    let between = All-take (λ n. n < 256) (to - at) (drop at piece) (All-drop (λ n. n < 256) at piece small) in
    ∥∥₁_elim stands ∥∥₁_prop (λ s.
    subst (λ (text : List ℕ). ∥ ((t : State) × IsRow a to_row t × ((start : ℕ) → HasReached table pattern t start text)) ∥₁) (sym longer)
    (stands-after table pattern a (take at piece) (slice_range piece at to) row to_row s.0 right between s.1 s.2 h.moves))

-- what is known where a run went on from a cursor: where it stands, and the last place where it accepted
pub stands-follows : (table : TableMap) (pattern : Compiled) (a : Automaton) (piece : List ℕ) (from to : Cursor) → AreRowsRight table pattern a → All (λ byte. byte < 256) piece → Follows a.cells piece from to → Stands table pattern a piece from.at from.row →
    Stands table pattern a piece to.at to.row
stands-follows table pattern a piece from to right small h = stands-leads table pattern a piece from.at from.row to.at to.row right small h.here

pub passed-follows : (table : TableMap) (pattern : Compiled) (a : Automaton) (piece : List ℕ) (from to : Cursor) → AreRowsRight table pattern a → All (λ byte. byte < 256) piece → Follows a.cells piece from to → Stands table pattern a piece from.at from.row →
    (0 < from.accepted_at → (from.accepted_at ≤ length piece) × Stands table pattern a piece from.accepted_at from.accepted_row) → 0 < to.accepted_at → (to.accepted_at ≤ length piece) × Stands table pattern a piece to.accepted_at to.accepted_row
passed-follows table pattern a piece from to right small h stands passed some = elim h.accepted [
  | inl same ↦
      let before = passed (omega (arith, some, same.0)) in
      (omega (arith, same.0, before.0), subst (λ n. Stands table pattern a piece n to.accepted_row) (sym same.0) (subst (Stands table pattern a piece from.accepted_at) (sym same.1) before.1))
  | inr met ↦ (met.0.spot.within, stands-leads table pattern a piece from.at from.row to.accepted_at to.accepted_row right small met.0 stands)
]

-- behind the first character
pub stands-first : (table : TableMap) (pattern : Compiled) (a : Automaton) (piece : List ℕ) (at row : ℕ) (s : State) → IsRow a row s → ((start : ℕ) → IsReached table pattern s start (take at piece)) → Stands table pattern a piece at row
stands-first table pattern a piece at row s is h = ∣ (s, is, λ start. ∣ h start ∣₁) ∣₁

-- the state whose row it is was reached
pub stands-state : (table : TableMap) (pattern : Compiled) (a : Automaton) (piece : List ℕ) (at row : ℕ) (s : State) → IsRow a row s → Stands table pattern a piece at row → (start : ℕ) → HasReached table pattern s start (take at piece)
stands-state table pattern a piece at row s is h start =
    ∥∥₁_elim h ∥∥₁_prop (λ t.
    let one = row-one a row row 0 0 t.0 s t.1 is (omega arith) (omega arith) refl in
    subst (λ (u : State). HasReached table pattern u start (take at piece)) one.1.1 (t.2 start))

-- where rows stay those of their states
pub stands-grown : (table : TableMap) (pattern : Compiled) (a b : Automaton) (piece : List ℕ) (at row : ℕ) → ((other : ℕ) (s : State) → IsRow a other s → IsRow b other s) → Stands table pattern a piece at row → Stands table pattern b piece at row
stands-grown table pattern a b piece at row grows h = ∥∥₁_map h (λ s. (s.0, grows row s.0 s.1, s.2))

-- in the whole piece too
pub stands-whole : (table : TableMap) (pattern : Compiled) (a : Automaton) (piece : List ℕ) (m at row : ℕ) → at ≤ length (take m piece) → Stands table pattern a (take m piece) at row → Stands table pattern a piece at row
stands-whole table pattern a piece m at row within h =
    let same : take at (take m piece) ≡ take at piece = take-take at m piece (omega (arith, within, length-take m piece)) in
    ∥∥₁_map h (λ s. (s.0, s.1, λ start. subst (HasReached table pattern s.0 start) same (s.2 start)))

-- one byte more, by a move that was just found
pub stands-learned : (table : TableMap) (pattern : Compiled) (a b : Automaton) (piece : List ℕ) (at row next : ℕ) → at < length piece →
    ((from : State) → IsRow a row from → (to : State) × IsRow b next to × IsMove table pattern from (slice_index piece at) to) → Stands table pattern a piece at row → Stands table pattern b piece (at + 1) next
stands-learned table pattern a b piece at row next within moves h =
    let byte = slice_index piece at in
    let longer : take (at + 1) piece ≡ take at piece ++ byte ∷ [] = take_more piece at 0 within in
    ∥∥₁_map h (λ s.
    let m = moves s.0 s.1 in (m.0, m.1, λ start. subst (HasReached table pattern m.0 start) (sym longer) (m.2 start (take at piece) (s.2 start))))

-- what is known of the last place where a run accepted, where a cursor came to a row
pub passed-on : (stands : ℕ → ℕ → Type 0) (len at row : ℕ) (old now : Cursor) → at ≤ len → stands at row → (0 < old.accepted_at → (old.accepted_at ≤ len) × stands old.accepted_at old.accepted_row) →
    (now.accepted_at ≡ old.accepted_at) × (now.accepted_row ≡ old.accepted_row) ⊎ (now.accepted_at ≡ at) × (now.accepted_row ≡ row) × Accepts row → 0 < now.accepted_at → (now.accepted_at ≤ len) × stands now.accepted_at now.accepted_row
passed-on stands len at row old now within here passed is some = elim is [
  | inl same ↦ let before = passed (omega (arith, some, same.0)) in (omega (arith, same.0, before.0), subst (λ n. stands n now.accepted_row) (sym same.0) (subst (stands old.accepted_at) (sym same.1) before.1))
  | inr new ↦ (omega (arith, new.0, within), subst (λ n. stands n now.accepted_row) (sym new.0) (subst (stands at) (sym new.1) here))
]

-- ---- what may be passed by

pub if-some : {A : Type 0} (o : Option A) (P Q : A → Type 0) → ((x : A) → P x → Q x) → IfSome o P → IfSome o Q
if-some None P Q f h = tt
if-some (Some x) P Q f h = f x h

record IsEnd (table : TableMap) (pattern : Compiled) (piece : List ℕ) (at : ℕ) (s : State) (start : ℕ) (next : ℕ) : Type 0 where
  is_text : IsUtf8 (take (at - s.len) piece)
  spelled : SpellsCharacter (take (len_utf8 next) (drop (at - s.len) piece)) next
  passed : IsPassed table pattern start (start + (at - s.len - s.before)) (chars (take (at - s.len) piece)) next

record HasEnd (table : TableMap) (pattern : Compiled) (piece : List ℕ) (at : ℕ) (s : State) (start : ℕ) : Type 0 where
  next : ℕ
  end : IsEnd table pattern piece at s start next

-- where the state says so, up to the last character
end-reached : BytesOfParts → (table : TableMap) (pattern : Compiled) (piece : List ℕ) (at : ℕ) (s : State) (start : ℕ) → at ≤ length piece → 0 < s.before → IsReached table pattern s start (take at piece) →
    HasEnd table pattern piece at s start
end-reached parts table pattern piece at s start within some r =
    let found = r.behind some in
    let b = found.1.1 in
    let one = r.one found.0 in
    let text : take at piece ≡ r.text = r.all ∙ ap (λ (l : List ℕ). r.text ++ l) found.1.0 ∙ append-nil r.text in
    let codes : chars (take at piece) ≡ r.before ++ r.first ∷ [] = ap chars text ∙ r.characters ∙ ap (λ (l : List ℕ). r.before ++ r.first ∷ l) one.0 in
    let cut = cut-last piece at r.before r.first within (subst IsUtf8 (sym text) r.is_text) codes in
    let long : byte_len r.before ≡ byte_len b.earlier + len_utf8 b.character = ap byte_len b.are ∙ parts b.earlier (b.character ∷ []) ∙ ap (λ n. byte_len b.earlier + n) (byte_len-one b.character) in
    let end : byte_len r.before ≡ at - s.len = let e = cut.end in let l = one.1 in omega (arith, e, l) in
    let begin : byte_len b.earlier ≡ at - s.len - s.before = let l = b.len_is in omega (arith, long, end, l) in
    record {
      next = r.first;
      end = record {
        is_text = subst (λ n. IsUtf8 (take n piece)) end cut.is_text;
        spelled = subst (λ n. SpellsCharacter (take (len_utf8 r.first) (drop n piece)) r.first) end cut.spelled;
        passed = subst (λ (cs : List ℕ). IsPassed table pattern start (start + (at - s.len - s.before)) cs r.first) (sym cut.characters ∙ ap (λ n. chars (take n piece)) end)
            (subst (λ n. IsPassed table pattern start (start + n) r.before r.first) begin b.passed);
      };
    }

pub text-passed : BytesOfParts → (table : TableMap) (pattern : Compiled) (piece : List ℕ) (at : ℕ) (s : State) → at ≤ length piece → 0 < s.before → HasReached table pattern s 0 (take at piece) → IsUtf8 (take (at - s.len) piece)
text-passed parts table pattern piece at s within some h =
    ∥∥₁_elim h (hlevel props) (λ r. (end-reached parts table pattern piece at s 0 within some r).end.is_text)

pub is-passed : BytesOfParts → (table : TableMap) (pattern : Compiled) (piece : List ℕ) (at : ℕ) (s : State) (start next : ℕ) → at ≤ length piece → 0 < s.before →
    SpellsCharacter (take (len_utf8 next) (drop (at - s.len) piece)) next → HasReached table pattern s start (take at piece) →
    IsPassed table pattern start (start + (at - s.len - s.before)) (chars (take (at - s.len) piece)) next
is-passed parts table pattern piece at s start next within some spelled h =
    let cs = chars (take (at - s.len) piece) in
    let last = start + (at - s.len - s.before) in
    passed-had table pattern start last cs next (∥∥₁_map h (λ r.
    let e = end-reached parts table pattern piece at s start within some r in
    subst (λ c. IsPassed table pattern start last cs c) (sym (same-character (drop (at - s.len) piece) e.next next e.end.spelled spelled)) e.end.passed))
