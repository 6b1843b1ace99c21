-- A text without a fault has few bytes, and is its own characters, none of which is at fault.
use Rattle.std.specs.Str.{chars, IsUtf8}
use Rattle.std.proofs.Common.{◌≡◌, ◌≤◌, ◌&&◌, ◌∙◌, ℕ, Bool, true, false, nat_lt, List, length, Some, None, refl, sym, ap, subst, arith, inl, inr}
use Rattle.std.proofs.lemmas.Bool.{cases_Bool, cond-true, eq-eqb, ltb-false}
use Rattle.std.proofs.lemmas.List.{take_all, drop_all}
use Rattle.std.proofs.lemmas.Option.{none-some}
use Rattle.utf8_cut.specs.Characters.{characters_end, first_fault, is_incomplete_or_empty, is_utf8_prefix}
use Rattle.nfd_points.specs.PointFaults.{point_fault}
use Rattle.collation_matches.specs.declared.faults.TextFault.{TextFault}
use Rattle.collation_matches.specs.declared.faults.TheConstants.TextFault.{ILL_FORMED, TOO_LONG}
use Rattle.collation_matches.specs.GoodPrefix.{most_bytes, seen, whole, byte_fault, first_of, fault}
use Rattle.collation_matches.proofs.LagTexts.{TextLaws, no_fault_text}
use Rattle.collation_matches.proofs.SearchLemmas.{either, whole_of_text}
use Rattle.collation_matches.proofs.TextCheckLemmas.{fault_by_code, seen_short}

not-first : (a b : Bool) → (a && b) ≡ false → b ≡ true → a ≡ false
not-first true b h e = absurd cc
not-first false b h e = refl

few-by-bytes : (bytes : List ℕ) → byte_fault bytes ≡ None → length bytes ≤ most_bytes
few-by-bytes bytes h =
    let here = seen bytes in
    let n = characters_end here in
    elim (cases_Bool (nat_lt most_bytes (length bytes) && is_utf8_prefix here)) [
      | inl e ↦
          let too_long : TextFault = record { kind = TOO_LONG; offset = n } in
          let some : Some too_long ≡ None = rw e at h in
          absurd (none-some too_long (sym some))
      | inr e ↦ elim (cases_Bool (nat_lt n (length here))) [
        | inl f ↦
            let ill_formed : TextFault = record { kind = ILL_FORMED; offset = n } in
            let some : Some ill_formed ≡ None = rw (e, f) at h in
            absurd (none-some ill_formed (sym some))
        | inr f ↦
            let prefix : is_utf8_prefix here ≡ true = ap is_incomplete_or_empty (drop_all n here (ltb-false n (length here) f)) in
            ltb-false most_bytes (length bytes) (not-first (nat_lt most_bytes (length bytes)) (is_utf8_prefix here) e prefix)
      ]
    ]

point-good : (bytes : List ℕ) → fault bytes ≡ None → point_fault (chars (whole (seen bytes))) ≡ None
point-good bytes h = elim (either (point_fault (chars (whole (seen bytes))))) [
  | inl none ↦ none
  | inr some ↦
      let at : TextFault = record { kind = some.0.1; offset = some.0.0 } in
      absurd (none-some at (sym h ∙ fault_by_code bytes some.0 some.1))
]

pub few-bytes : (bytes : List ℕ) → fault bytes ≡ None → length bytes ≤ most_bytes
few-bytes bytes h = few-by-bytes bytes (sym (ap (λ o. first_of o (byte_fault bytes)) (point-good bytes h)) ∙ h)

module _ (laws : TextLaws) (bytes : List ℕ) (good : fault bytes ≡ None) where
  utf8 : IsUtf8 bytes
  utf8 = no_fault_text laws bytes good

  pub whole-itself : whole bytes ≡ bytes
  whole-itself = whole_of_text laws.longest bytes utf8

  pub points-good : point_fault (chars bytes) ≡ None
  points-good =
      let here : whole (seen bytes) ≡ bytes = ap whole (seen_short bytes (few-bytes bytes good)) ∙ whole-itself in
      ap (λ (t : List ℕ). point_fault (chars t)) (sym here) ∙ point-good bytes good

  -- so no fault is found in its characters
  pub no-first_fault : first_fault bytes ≡ None
  no-first_fault =
      let all = laws.longest bytes (length bytes) (omega arith) (subst IsUtf8 (sym (take_all (length bytes) bytes (omega arith))) utf8) in
      let within = laws.within bytes in
      cond-true _ _ _ (eq-eqb (characters_end bytes) (length bytes) (omega (arith, all, within)))
