-- However bytes that a text may begin with go on, what stands before the first fault begins with their whole characters.
use Rattle.std.specs.Str.{chars, IsUtf8}
use Rattle.std.proofs.Common.{◌≡◌, ◌∙◌, ℕ, true, List, ◌++◌, take, drop, sym, ap, subst, inl, inr}
use Rattle.utf8_cut.specs.Characters.{characters_end}
use Rattle.collation_matches.specs.GoodPrefix.{fault, good_prefix, prefix_at, whole, is_good_so_far}
use Rattle.collation_matches.proofs.LagTexts.{TextLaws, begins-append, begins-take, begins-chars, fault_after, no_fault_text}
use Rattle.collation_matches.proofs.SearchLemmas.{either, good_prefix_found}

-- its code points are those and others
pub record CodesGoOn (taken bytes : List ℕ) : Type 0 where
  pub rest : List ℕ
  pub codes : chars (good_prefix bytes) ≡ chars (whole taken) ++ rest

pub codes_go_on : TextLaws → (taken later : List ℕ) → is_good_so_far taken ≡ true → CodesGoOn taken (taken ++ later)
codes_go_on laws taken later goes_on =
    let bytes = taken ++ later in
    let begins = begins-append laws taken later in
    elim (either (fault bytes)) [
      | inl none ↦
          let all : good_prefix bytes ≡ bytes = ap (prefix_at bytes) none in
          record { rest = chars (drop (characters_end taken) bytes); codes = ap chars all ∙ begins-chars laws taken bytes begins }
      | inr some ↦
          let at = some.0 in
          let good : good_prefix bytes ≡ take at.offset bytes = ap (prefix_at bytes) some.1 in
          let front = begins-take taken bytes at.offset (fault_after laws taken later at goes_on some.1) begins in
          record { rest = chars (drop (characters_end taken) (take at.offset bytes)); codes = ap chars good ∙ begins-chars laws taken (take at.offset bytes) front }
    ]

-- what stands before the first fault is a text
pub good_is_text : TextLaws → (bytes : List ℕ) → IsUtf8 (good_prefix bytes)
good_is_text laws bytes = elim (either (fault bytes)) [
  | inl none ↦ subst IsUtf8 (sym (ap (prefix_at bytes) none)) (no_fault_text laws bytes none)
  | inr some ↦
      let found = good_prefix_found laws.text laws.within bytes some.0 some.1 in
      subst IsUtf8 (sym (ap (prefix_at bytes) some.1 ∙ found.1.taken)) found.1.text
]
