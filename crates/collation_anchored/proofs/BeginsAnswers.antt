-- From where a pattern's keys were completed in a text to the answer.
use Rattle.std.proofs.Common.{◌≡◌, ◌≤◌, ◌<◌, ◌∙◌, ℕ, Bool, true, false, ◌&&◌, not, List, length, take, Option, Some, None, is_some, Result, Ok, Err, refl, sym, ap, arith, inl, inr}
use Rattle.std.proofs.lemmas.Bool.{cases_Bool, lt-ltb, le-ltb}
use Rattle.std.proofs.lemmas.List.{take_all, length-take-le}
use Rattle.collation_elements.specs.declared.keys.Key.{Key}
use Rattle.collation_pattern.specs.Border.{same_keys}
use Rattle.collation_pattern.proofs.KeyEquality.{same_keys-true, same_keys-same}
use Rattle.collation_matches.specs.declared.faults.TextFault.{TextFault}
use Rattle.collation_anchored.specs.Anchored.{is_begun}
use Rattle.collation_anchored.specs.Answers.{unless_fault, ends_before}
use Rattle.collation_anchored.proofs.BegunKeys.{begun-from}
use Rattle.collation_anchored.proofs.CompletedTexts.{BeginsBy}

abbrev pub answer_of : Bool → Option TextFault → ℕ → Option ℕ → Result (Option ℕ) TextFault
answer_of begun fault len end = unless_fault (begun && not (ends_before len end)) fault end

-- a match ends before the end of what is good
pub told : (begun : Bool) (fault : Option TextFault) (len at : ℕ) (end : Option ℕ) → end ≡ Some at → at < len → Ok (Some at) ≡ answer_of begun fault len end
told begun fault len at end is before = at_end begun ∙ ap (answer_of begun fault len) (sym is)
  where
    settled : (begun settles : Bool) → settles ≡ true → Ok (Some at) ≡ unless_fault (begun && not settles) fault (Some at)
    settled true true h = refl
    settled false true h = refl
    settled begun false h = cc

    at_end : (begun : Bool) → Ok (Some at) ≡ answer_of begun fault len (Some at)
    at_end begun = settled begun (ends_before len (Some at)) (lt-ltb at len before)

-- the keys differ, and none does
pub differing : (begun : Bool) (fault : Option TextFault) (len : ℕ) (end : Option ℕ) → begun ≡ false → end ≡ None → Ok None ≡ answer_of begun fault len end
differing true fault len end h is = cc
differing false fault len end h is = ap (λ (o : Option ℕ). Ok o) (sym is)

-- at a fault
pub at_fault : (begun : Bool) (fault : Option TextFault) (f : TextFault) (len : ℕ) (end : Option ℕ) → begun ≡ true → fault ≡ Some f → ends_before len end ≡ false → Err f ≡ answer_of begun fault len end
at_fault begun fault f len end h is open_end =
    let undecided : (begun && not (ends_before len end)) ≡ true = ap (λ (b : Bool). b && not (ends_before len end)) h ∙ ap not open_end in
    sym (ap (λ (b : Bool). unless_fault b fault end) undecided ∙ ap (λ (o : Option TextFault). unless_fault true o end) is)

-- without a fault
pub without_fault : (begun : Bool) (fault : Option TextFault) (len : ℕ) (end told : Option ℕ) → fault ≡ None → end ≡ told → Ok told ≡ answer_of begun fault len end
without_fault begun fault len end told none is =
    ap (λ (o : Option ℕ). Ok o) (sym is) ∙ no_fault (begun && not (ends_before len end)) ∙ ap (λ (o : Option TextFault). unless_fault (begun && not (ends_before len end)) o end) (sym none)
  where
    no_fault : (undecided : Bool) → Ok end ≡ unless_fault undecided None end
    no_fault true = refl
    no_fault false = refl

-- one that ends at the end of what is good doesn't end before it
pub not_before : (len : ℕ) (end : Option ℕ) → end ≡ Some len → ends_before len end ≡ false
not_before len end is = ap (ends_before len) is ∙ le-ltb len len (omega arith)

-- ---- by where the pattern's keys were completed

-- keys that are not the first of the pattern's are not the pattern's
pub not_all : (ks keys : List Key) → is_begun ks keys ≡ false → keys ≡ ks → ⊥
not_all ks keys apart same =
    let begun : is_begun ks ks ≡ true = begun-from ks ks (take_all (length ks) ks (omega arith)) in
    let both : true ≡ false = sym begun ∙ ap (is_begun ks) (sym same) ∙ apart in cc

-- Where the pattern's keys were completed, a match ends there; and where they were not, and the keys are not the first of the pattern's,
-- none begins.
pub answer_completed : (begun : Bool) (fault : Option TextFault) (end found completed : Option ℕ) (keys ks : List Key) (len : ℕ) → BeginsBy end found keys ks len → begun ≡ is_begun ks keys →
    completed ≡ found → (completed ≡ None → begun ≡ false) → Ok completed ≡ answer_of begun fault len end
answer_completed begun fault end found None keys ks len by is same none =
    let apart = none refl in
    differing begun fault len end apart (by.never (sym same) (not_all ks keys (sym is ∙ apart)))
answer_completed begun fault end found (Some at) keys ks len by is same none =
    let settled = by.settled at (sym same) in
    told begun fault len at end settled.0 settled.1

-- where they were not, a match that begins at 0 can only end at the end
pub open_end : (end found : Option ℕ) (keys ks : List Key) (len : ℕ) → BeginsBy end found keys ks len → found ≡ None → ends_before len end ≡ false
open_end end found keys ks len by none = elim (cases_Bool (same_keys keys ks)) [
  | inl same ↦ not_before len end (by.whole none (same_keys-true keys ks same))
  | inr other ↦ ap (ends_before len) (by.never none (λ e. let both : true ≡ false = sym (ap (λ (ls : List Key). same_keys ls ks) e ∙ same_keys-same ks) ∙ other in cc))
]

-- keys that are the first so many of the pattern's
pub all_of : (ks : List Key) (n : ℕ) → n ≡ length ks → take n ks ≡ ks
all_of ks n all = take_all n ks (omega (arith, all))

pub fewer_than : (ks : List Key) (n : ℕ) → n ≤ length ks → (n ≡ length ks → ⊥) → take n ks ≡ ks → ⊥
fewer_than ks n within fewer e = fewer (sym (length-take-le n ks within) ∙ ap length e)

pub none_of : (found : Option ℕ) → is_some found ≡ false → found ≡ None
none_of None h = refl
none_of (Some at) h = cc
