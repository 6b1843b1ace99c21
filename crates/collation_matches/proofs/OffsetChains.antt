-- Calls that each begin at the end of the range before give the chain.
use Rattle.std.proofs.Common.{◌≡◌, ℕ, zero, suc, ◌+◌, ◌<◌, ◌≤◌, Bool, nat_le, List, [], ◌∷◌, length, take, drop, map, slice_get, Option, Some, None, refl, sym, ap, ap₂, ◌∙◌, subst, arith, inl, inr}
use Rattle.std.proofs.lemmas.Bool.{cases_Bool, cond-true, cond-false, leb-true, le-leb, lt-leb}
use Rattle.std.proofs.lemmas.Option.{slice_get-map}
use Rattle.std.specs.Option.{option_map}
use Rattle.collation_matches.specs.Answer.{Answer, answer}
use Rattle.collation_matches.specs.GoodPrefix.{most_bytes}
use Rattle.collation_matches.specs.Offsets.{range_moved, answer_from}
use Rattle.collation_matches.specs.OffsetLaws.{ranges_from, found_by_calls, MayGoOnFrom}
use Rattle.collation_matches.specs.Selecting.{chain, chain_after, selected}
use Rattle.collation_matches.specs.Sought.{Sought, answer_to}
use Rattle.collation_matches.proofs.BridgeLists.{In, in_filter}
use Rattle.collation_matches.proofs.OffsetAnswers.{answer-from, ends-cleanly}
use Rattle.collation_matches.proofs.OffsetBounds.{first-selected}
use Rattle.collation_matches.proofs.OffsetFaults.{RestLaws}
use Rattle.collation_matches.proofs.SelectingLemmas.{chain-taken, chain-passed}

-- ---- a chain

abbrev begins_from : ℕ → ℕ × ℕ → Bool
begins_from from r = nat_le from r.0

abbrev pub AreLong : List (ℕ × ℕ) → Type 0
AreLong ranges = (r : ℕ × ℕ) → In ranges r → r.0 < r.1

later-long : (r : ℕ × ℕ) (rs : List (ℕ × ℕ)) → AreLong (r ∷ rs) → AreLong rs
later-long r rs long s h = long s (inr h)

-- ranges that begin before an offset are no part of a chain from there on
chain-from : (from end : ℕ) (rs : List (ℕ × ℕ)) → from ≤ end → AreLong rs → chain_after end rs ≡ chain_after end (ranges_from from rs)
chain-from from end [] le long = refl
chain-from from end (r ∷ rs) le long =
    let more = later-long r rs long in
    elim (cases_Bool (nat_le end r.0)) [
      | inl taken ↦
          let reaches = leb-true end r.0 taken in
          let kept : ranges_from from (r ∷ rs) ≡ r ∷ ranges_from from rs = cond-true (nat_le from r.0) (r ∷ ranges_from from rs) (ranges_from from rs) (le-leb from r.0 (omega (arith, le, reaches))) in
          chain-taken end r rs taken
          ∙ ap (λ (l : List (ℕ × ℕ)). r ∷ l) (chain-from from r.1 rs (omega (arith, le, reaches, long r (inl refl))) more)
          ∙ sym (chain-taken end r (ranges_from from rs) taken)
          ∙ ap (chain_after end) (sym kept)
      | inr passed ↦
          chain-passed end r rs passed
          ∙ chain-from from end rs le more
          ∙ elim (cases_Bool (nat_le from r.0)) [
            | inl late ↦ sym (chain-passed end r (ranges_from from rs) passed) ∙ ap (chain_after end) (sym (cond-true (nat_le from r.0) (r ∷ ranges_from from rs) (ranges_from from rs) late))
            | inr early ↦ ap (chain_after end) (sym (cond-false (nat_le from r.0) (r ∷ ranges_from from rs) (ranges_from from rs) early))
          ]
    ]

-- the next range of a chain is the first one that begins at its end or after it
pub next-none : (from : ℕ) (all : List (ℕ × ℕ)) → AreLong all → ranges_from from all ≡ [] → chain_after from all ≡ []
next-none from all long e = chain-from from from all (omega arith) long ∙ ap (chain_after from) e

pub next-some : (from : ℕ) (all : List (ℕ × ℕ)) (r : ℕ × ℕ) (rs : List (ℕ × ℕ)) → AreLong all → ranges_from from all ≡ r ∷ rs →
    In all r × (chain_after from all ≡ r ∷ chain_after r.1 all)
next-some from all r rs long e =
    let k = in_filter (begins_from from) all r (subst (λ (l : List (ℕ × ℕ)). In l r) (sym e) (inl refl)) in
    let late = leb-true from r.0 k.1 in
    let some = long r k.0 in
    let after : chain_after r.1 all ≡ chain_after r.1 rs =
    chain-from from r.1 all (omega (arith, late, some)) long ∙ ap (chain_after r.1) e ∙ chain-passed r.1 r rs (lt-leb r.1 r.0 some) in (
      k.0,
      chain-from from from all (omega arith) long ∙ ap (chain_after from) e ∙ chain-taken from r rs k.1 ∙ ap (λ (l : List (ℕ × ℕ)). r ∷ l) (sym after),
    )

-- ---- calls

-- of a chain the first range is the first of all, also from an offset on
moved-first : (s : Sought) (text bytes : List ℕ) (by : ℕ) →
    slice_get (map (range_moved by) (answer_to s text bytes).ranges) 0 ≡ slice_get (map (range_moved by) (answer s.table s.pattern.strength s.pattern.variable text bytes).ranges) 0
moved-first s text bytes by =
    let all = (answer s.table s.pattern.strength s.pattern.variable text bytes).ranges in
    slice_get-map (range_moved by) (selected s.select all) 0
    ∙ ap (option_map (range_moved by)) (first-selected s.select all)
    ∙ sym (slice_get-map (range_moved by) all 0)

pub all-kept : (rs : List (ℕ × ℕ)) → map (range_moved 0) rs ≡ ranges_from 0 rs
all-kept [] = refl
all-kept (r ∷ rs) =
    let one : 0 + r.0 ≡ r.0 = omega arith in
    let two : 0 + r.1 ≡ r.1 = omega arith in
    ap₂ (λ (q : ℕ × ℕ) (l : List (ℕ × ℕ)). q ∷ l) (ap₂ (λ a b. (a, b)) one two) (all-kept rs) ∙ sym (cond-true (nat_le 0 r.0) (r ∷ ranges_from 0 rs) (ranges_from 0 rs) (le-leb 0 r.0 (omega arith)))

module _ (laws : RestLaws) (s : Sought) (text bytes : List ℕ) (few : length bytes ≤ most_bytes) where
  abbrev all : List (ℕ × ℕ)
  all = (answer s.table s.pattern.strength s.pattern.variable text bytes).ranges

  abbrev call : ℕ → Option (ℕ × ℕ)
  call from = slice_get (answer_from s text bytes from).ranges 0

  abbrev FindsNext : ℕ → Type 0
  FindsNext from = call from ≡ slice_get (ranges_from from all) 0

  finds-next : (from : ℕ) → MayGoOnFrom s.table bytes from → FindsNext from
  finds-next from m =
      moved-first s text (drop from bytes) from
      ∙ ap (λ (a : Answer). slice_get a.ranges 0) (answer-from laws s.table s.pattern.strength s.pattern.variable text bytes from m)

  finds-first : FindsNext 0
  finds-first = moved-first s text bytes 0 ∙ ap (λ (rs : List (ℕ × ℕ)). slice_get rs 0) (all-kept all)

  -- the calls, by what the first one finds
  abbrev calls_after : ℕ → Option (ℕ × ℕ) → List (ℕ × ℕ)
  calls_after n first = elim first [ None ↦ [] | Some range ↦ range ∷ found_by_calls n s text bytes range.1 ]

  abbrev Gives : ℕ → ℕ → Type 0
  Gives n from = found_by_calls n s text bytes from ≡ take n (chain_after from all)

  by-first : (long : AreLong all) → (n from : ℕ) → FindsNext from → ((later : ℕ) → FindsNext later → Gives n later) →
      (rs : List (ℕ × ℕ)) → ranges_from from all ≡ rs → calls_after n (call from) ≡ take (suc n) (chain_after from all)
  by-first long n from next calls [] e =
      ap (calls_after n) (next ∙ ap (λ (l : List (ℕ × ℕ)). slice_get l 0) e) ∙ ap (take (suc n)) (sym (next-none from all long e))
  by-first long n from next calls (r ∷ rs) e =
      let more = next-some from all r rs long e in
      let there = (ends-cleanly s.table s.pattern.strength s.pattern.variable text bytes few r more.0).1 in
      ap (calls_after n) (next ∙ ap (λ (l : List (ℕ × ℕ)). slice_get l 0) e)
      ∙ ap (λ (l : List (ℕ × ℕ)). r ∷ l) (calls r.1 (finds-next r.1 there))
      ∙ ap (take (suc n)) (sym more.1)

  calls : (long : AreLong all) → (n from : ℕ) → FindsNext from → Gives n from
  calls long zero from next = refl
  calls long (suc n) from next = by-first long n from next (calls long n) (ranges_from from all) refl

  pub calls-chain : AreLong all → (n : ℕ) → found_by_calls n s text bytes 0 ≡ take n (chain all)
  calls-chain long n = calls long n 0 finds-first
