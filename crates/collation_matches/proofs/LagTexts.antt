-- However open bytes go on, what is answered are matches of a text that their whole characters begin.
use Rattle.std.proofs.Common.{◌≡◌, ℕ, ◌+◌, ◌-◌, ◌≤◌, Bool, true, false, ◌&&◌, nat_lt, List, ◌++◌, length, take, drop, flat_map, Some, None, sym, ap, ◌∙◌, subst, arith, refl, inl, inr, length-append}
use Rattle.std.specs.Str.{chars, IsUtf8}
use Rattle.std.proofs.lemmas.Bool.{cases_Bool, ltb-false}
use Rattle.std.proofs.lemmas.List.{take_all, drop_all, take-take, take-append-drop, take-append-le}
use Rattle.std.proofs.lemmas.Option.{none-some}
use Rattle.std.proofs.lemmas.Str.{chars-append}
use Rattle.utf8_cut.specs.Characters.{characters_end, is_incomplete_or_empty, is_utf8_prefix}
use Rattle.nfd_points.specs.Laws.{FaultAfter}
use Rattle.nfd_points.specs.Points.{decomposition, byte_len}
use Rattle.nfd_points.specs.PointFaults.{run_after, point_fault}
use Rattle.collation_table.specs.Table.{TableMap}
use Rattle.collation_elements.specs.declared.settings.Variable.{Variable}
use Rattle.collation_elements.specs.declared.settings.Strength.{Strength}
use Rattle.collation_matches.specs.declared.faults.TextFault.{TextFault}
use Rattle.collation_matches.specs.declared.faults.TheConstants.TextFault.{ILL_FORMED, TOO_LONG}
use Rattle.collation_matches.specs.GoodPrefix.{most_bytes, seen, whole, byte_fault, first_of, fault, good_prefix, prefix_at, is_good_so_far}
use Rattle.collation_matches.specs.Matches.{matches, settled}
use Rattle.collation_matches.specs.Answer.{Answer, answer, answer_at}
use Rattle.collation_matches.proofs.BridgeLists.{In, in_filter}
use Rattle.collation_matches.proofs.TextCheckLemmas.{seen_short, seen_prefix, open_short, open_good, next_offset}
use Rattle.collation_matches.proofs.SearchLemmas.{either, offset_of, byte_fault_at, before_fault, good_prefix_found}

-- the laws of the lower crates that this rests on
pub record TextLaws : Type 0 where
  pub text : (bytes : List ℕ) → IsUtf8 (take (characters_end bytes) bytes)
  pub longest : (bytes : List ℕ) (n : ℕ) → n ≤ length bytes → IsUtf8 (take n bytes) → n ≤ characters_end bytes
  pub within : (bytes : List ℕ) → characters_end bytes ≤ length bytes
  pub faults : FaultAfter

-- ---- texts that the whole characters of some bytes begin

abbrev pub BeginsWithWhole : List ℕ → List ℕ → Type 0
BeginsWithWhole taken good = take (characters_end taken) good ≡ whole taken

pub begins-append : TextLaws → (taken later : List ℕ) → BeginsWithWhole taken (taken ++ later)
begins-append laws taken later = take-append-le (characters_end taken) taken later (laws.within taken)

pub begins-take : (taken bytes : List ℕ) (n : ℕ) → characters_end taken ≤ n → BeginsWithWhole taken bytes → BeginsWithWhole taken (take n bytes)
begins-take taken bytes n h begins = take-take (characters_end taken) n bytes h ∙ begins

-- their code points go on from those of the whole characters
pub begins-chars : TextLaws → (taken good : List ℕ) → BeginsWithWhole taken good →
    chars good ≡ chars (whole taken) ++ chars (drop (characters_end taken) good)
begins-chars laws taken good begins =
    let n = characters_end taken in
    let parts : good ≡ whole taken ++ drop n good = sym (take-append-drop n good) ∙ ap (λ xs. xs ++ drop n good) begins in
    ap chars parts ∙ chars-append (whole taken) (drop n good) (laws.text taken)

-- ---- where a fault stands

-- the whole characters of the bytes are among those of any that go on
end_grows : TextLaws → (taken later : List ℕ) → is_good_so_far taken ≡ true →
    (characters_end taken ≤ characters_end (seen (taken ++ later))) × BeginsWithWhole taken (seen (taken ++ later))
end_grows laws taken later goes_on =
    let n = characters_end taken in
    let tail = take (most_bytes - length taken) later in
    let here : seen (taken ++ later) ≡ taken ++ tail = seen_prefix taken later (open_short taken goes_on) in
    let begins : BeginsWithWhole taken (seen (taken ++ later)) = ap (take n) here ∙ begins-append laws taken tail in
    let text : IsUtf8 (take n (seen (taken ++ later))) = subst IsUtf8 (sym begins) (laws.text taken) in
    let len = ap length here ∙ length-append taken tail in
    let inside = laws.within taken in
    (laws.longest (seen (taken ++ later)) n (omega (arith, len, inside)) text, begins)

-- a fault of bytes that go on stands after the whole characters of those so far
pub fault_after : TextLaws → (taken later : List ℕ) (at : TextFault) → is_good_so_far taken ≡ true → fault (taken ++ later) ≡ Some at → characters_end taken ≤ at.offset
fault_after laws taken later at goes_on h =
    let bytes = taken ++ later in
    let grows = end_grows laws taken later goes_on in
    elim (either (point_fault (chars (whole (seen bytes))))) [
      | inl none ↦
          let here : byte_fault bytes ≡ Some at = sym (ap (λ o. first_of o (byte_fault bytes)) none) ∙ h in
          let offset = byte_fault_at bytes at here in
          omega (arith, grows.0, offset)
      | inr some ↦
          let reported : Some (record { kind = some.0.1; offset = some.0.0 }) ≡ Some at = sym (ap (λ o. first_of o (byte_fault bytes)) some.1) ∙ h in
          let offset = offset_of (record { kind = some.0.1; offset = some.0.0 }) at reported in
          let xs = chars (whole taken) in
          let ys = chars (drop (characters_end taken) (whole (seen bytes))) in
          let parts : chars (whole (seen bytes)) ≡ xs ++ ys =
          begins-chars laws taken (whole (seen bytes)) (begins-take taken (seen bytes) (characters_end (seen bytes)) grows.0 grows.1) in
          let later_fault = sym (laws.faults 0 0 xs ys (open_good taken goes_on)) ∙ ap point_fault (sym parts) ∙ some.1 in
          let stands = (before_fault (0 + byte_len xs) (run_after 0 (flat_map decomposition xs)) ys some.0 later_fault).offset in
          let end = next_offset taken (laws.text taken) (laws.within taken) in
          omega (arith, offset, stands, end)
    ]

-- ---- bytes without a fault

no_byte_fault : TextLaws → (bytes : List ℕ) → byte_fault bytes ≡ None → IsUtf8 bytes
no_byte_fault laws bytes h =
    let n = characters_end (seen bytes) in
    elim (cases_Bool (nat_lt most_bytes (length bytes) && is_utf8_prefix (seen bytes))) [
      | inl e ↦
          let too_long : TextFault = record { kind = TOO_LONG; offset = n } in
          let some : Some too_long ≡ None = rw e at h in
          absurd (none-some too_long (sym some))
      | inr e ↦
          elim (cases_Bool (nat_lt n (length (seen bytes)))) [
            | inl f ↦
                let ill_formed : TextFault = record { kind = ILL_FORMED; offset = n } in
                let some : Some ill_formed ≡ None = rw (e, f) at h in
                absurd (none-some ill_formed (sym some))
            | inr f ↦
                let all = ltb-false n (length (seen bytes)) f in
                let text : IsUtf8 (seen bytes) = subst IsUtf8 (take_all n (seen bytes) all) (laws.text (seen bytes)) in
                let cut : is_utf8_prefix (seen bytes) ≡ true = ap is_incomplete_or_empty (drop_all n (seen bytes) all) in
                let few : nat_lt most_bytes (length bytes) ≡ false = not_both (nat_lt most_bytes (length bytes)) (is_utf8_prefix (seen bytes)) e cut in
                subst IsUtf8 (seen_short bytes (ltb-false most_bytes (length bytes) few)) text
          ]
    ]
  where
    not_both : (a b : Bool) → (a && b) ≡ false → b ≡ true → a ≡ false
    not_both true b h e = absurd cc
    not_both false b h e = refl

pub no_fault_text : TextLaws → (bytes : List ℕ) → fault bytes ≡ None → IsUtf8 bytes
no_fault_text laws bytes h =
    elim (either (point_fault (chars (whole (seen bytes))))) [
      | inl none ↦ no_byte_fault laws bytes (sym (ap (λ o. first_of o (byte_fault bytes)) none) ∙ h)
      | inr some ↦
          let at : TextFault = record { kind = some.0.1; offset = some.0.0 } in
          let reported : Some at ≡ None = sym (ap (λ o. first_of o (byte_fault bytes)) some.1) ∙ h in
          absurd (none-some at (sym reported))
    ]

-- ---- what is answered

-- a text that the whole characters of the bytes so far begin, and that has the ranges among its matches
pub record Answers (table : TableMap) (strength : Strength) (variable : Variable) (pattern taken bytes : List ℕ) : Type 0 where
  pub good : List ℕ
  pub text : IsUtf8 good
  pub begins : BeginsWithWhole taken good
  pub ranges : (r : ℕ × ℕ) → In (answer table strength variable pattern bytes).ranges r → In (matches table strength variable pattern good) r

pub answers : TextLaws → (table : TableMap) (strength : Strength) (variable : Variable) (pattern taken later : List ℕ) → is_good_so_far taken ≡ true →
    Answers table strength variable pattern taken (taken ++ later)
answers laws table strength variable pattern taken later goes_on =
    let bytes = taken ++ later in
    let at_fault = answer_at table strength variable pattern bytes in
    elim (either (fault bytes)) [
      | inl none ↦
          record {
            good = bytes;
            text = no_fault_text laws bytes none;
            begins = begins-append laws taken later;
            ranges = λ r h. subst (λ (a : Answer). In a.ranges r) (ap at_fault none) h;
          }
      | inr some ↦
          let at = some.0 in
          let there : good_prefix bytes ≡ take at.offset bytes = ap (prefix_at bytes) some.1 in
          let found = good_prefix_found laws.text laws.within bytes at some.1 in
          let text : IsUtf8 (take at.offset bytes) = subst IsUtf8 (sym found.1.taken) found.1.text in
          record {
            good = take at.offset bytes;
            text = text;
            begins = begins-take taken bytes at.offset (fault_after laws taken later at goes_on some.1) (begins-append laws taken later);
            ranges = λ r h.
                let reported : In (settled table strength variable pattern (good_prefix bytes)) r = subst (λ (a : Answer). In a.ranges r) (ap at_fault some.1) h in
                let inside : In (settled table strength variable pattern (take at.offset bytes)) r = subst (λ (t : List ℕ). In (settled table strength variable pattern t) r) there reported in
                (in_filter (λ range. nat_lt range.1 (length (take at.offset bytes))) (matches table strength variable pattern (take at.offset bytes)) r inside).0;
          }
    ]
