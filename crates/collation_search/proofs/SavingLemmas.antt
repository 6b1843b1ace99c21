-- Appends of records, one by one, and how many words a state has.
use Rattle.std.proofs.Common.{◌≡◌, ℕ, zero, suc, ◌+◌, ◌-◌, ◌*◌, ◌≤◌, List, [], ◌∷◌, ◌++◌, length, take, drop, slice_get, Option, Some, None, refl, sym, ap, ◌∙◌, arith, append_assoc, add-one, Result, Ok, Err, OnErr, true, false, is_some}
use Rattle.std.proofs.lemmas.List.{append-nil, length-drop, length-map}
use Rattle.utf8_cut.specs.Value.{CutState}
use Rattle.nfd_points.specs.declared.limits.TheConstants.{MOST_WAITING}
use Rattle.collation_table.specs.Table.{longest_mapped}
use Rattle.collation_matches.specs.declared.faults.TextFault.{TextFault}
use Rattle.collation_matches.specs.declared.select.Select.{Select}
use Rattle.collation_matches.specs.declared.select.Select.TheVariants.{All, Chain}
use Rattle.collation_matches.specs.Sought.{Sought}
use Rattle.collation_states.specs.declared.states.Head.{Head}
use Rattle.collation_states.specs.declared.states.Sizes.{Sizes}
use Rattle.collation_states.specs.Laws.{StatesAreRecords}
use Rattle.collation_states.specs.Saving.{AreWordsAppended}
use Rattle.collation_states.specs.State.{reported, head_of, head_words, chain_record, place_words, point_words, words}
use Rattle.collation_states.specs.StateTests.{head_len}
use Rattle.collation_finder.specs.declared.finder.Finder.{Finder}
use Rattle.collation_walk.specs.declared.walk.Walk.{Walk}
use Rattle.collation_search.specs.State.{sizes_of, kept_places, saved_places, open_state, state_of}
use Rattle.collation_search.specs.Saving.{HasRecords, records_before, most_records}

-- ---- what follows an index

pub drop-some : {A : Type 0} (xs : List A) (i : ℕ) (x : A) → slice_get xs i ≡ Some x → drop i xs ≡ x ∷ drop (i + 1) xs
drop-some [] i x h = cc
drop-some (y ∷ ys) zero x h = let e : y ≡ x = cc in ap (λ z. z ∷ ys) e
drop-some (y ∷ ys) (suc i) x h =
    let next : i + 1 ≡ suc i = add-one i in
    let later : suc i + 1 ≡ suc (suc i) = add-one (suc i) in
    drop-some ys i x h ∙ ap (λ n. x ∷ drop n ys) next ∙ sym (ap (λ n. x ∷ drop n (y ∷ ys)) later)

pub drop-none : {A : Type 0} (xs : List A) (i : ℕ) → slice_get xs i ≡ None → drop i xs ≡ []
drop-none [] zero h = refl
drop-none [] (suc i) h = refl
drop-none (y ∷ ys) zero h = cc
drop-none (y ∷ ys) (suc i) h = drop-none ys i h

-- ---- words after words

pub begins-all : (xs : List ℕ) → AreWordsAppended xs xs
begins-all xs = ([], sym (append-nil xs))

pub begins-more : (xs ys zs ms : List ℕ) → AreWordsAppended xs ys → zs ≡ ys ++ ms → AreWordsAppended xs zs
begins-more xs ys zs ms b e = (b.0 ++ ms, e ∙ ap (λ l. l ++ ms) b.1 ∙ append_assoc xs b.0 ms)

pub begins-through : (xs ys zs : List ℕ) → AreWordsAppended xs ys → AreWordsAppended ys zs → AreWordsAppended xs zs
begins-through xs ys zs a b = begins-more xs ys zs b.0 a b.1

pub take-begins : (xs ys : List ℕ) → AreWordsAppended xs ys → take (length xs) ys ≡ xs
take-begins xs ys b = ap (take (length xs)) b.1 ∙ prefix xs b.0
  where
    prefix : (xs ms : List ℕ) → take (length xs) (xs ++ ms) ≡ xs
    prefix [] ms = refl
    prefix (x ∷ xs) ms = ap (λ l. x ∷ l) (prefix xs ms)

-- one record more goes before those to come
pub record-first : (start before after one rest all : List ℕ) → before ++ (one ++ rest) ≡ start ++ all → after ≡ before ++ one → after ++ rest ≡ start ++ all
record-first start before after one rest all h e = ap (λ l. l ++ rest) e ∙ append_assoc before one rest ∙ h

-- ---- how many words

pub kept-length : (walk : Walk) → length (saved_places (kept_places walk)) ≡ length walk.places.items - (length walk.places.items - walk.state)
kept-length walk =
    length-map (kept_places walk) _ ∙ length-drop (length walk.places.items - walk.state) walk.places.items

head_len-records : (select : Select) → head_len select ≡ 4 * records_before select
head_len-records All = refl
head_len-records Chain = refl

pub state-records : StatesAreRecords → (s : Sought) (cut : CutState) (finder : Finder) (fault : Option TextFault) →
    finder.matcher.walk.state ≤ length s.pattern.keys → length finder.window.points ≤ longest_mapped s.table → length finder.reorder.held ≤ MOST_WAITING →
    HasRecords (words (sizes_of s) (state_of s.pattern cut finder fault)) (most_records s)
state-records law s cut finder (Some fault) state window waiting =
    (records_before s.select, omega arith, omega (arith, law (sizes_of s) (reported fault), head_len-records s.select))
state-records law s cut finder None state window waiting =
    let places = length (saved_places (kept_places finder.matcher.walk)) in (
      records_before s.select + (places + (length finder.window.points + length finder.reorder.held)),
      omega (arith, kept-length finder.matcher.walk),
      omega (arith, law (sizes_of s) (open_state s.pattern cut finder), head_len-records s.select),
    )

-- ---- the whole state

pub front-same : (w0 w1 : List ℕ) (r q : Sizes) (h i : Head) (e f : ℕ) → r ≡ q → h ≡ i → e ≡ f → w1 ≡ w0 ++ (head_words r h ++ chain_record r.select e) → w1 ≡ w0 ++ (head_words q i ++ chain_record q.select f)
front-same w0 w1 r q h i e f sizes head end a =
    a ∙ ap (λ (x : Sizes). w0 ++ (head_words x h ++ chain_record x.select e)) sizes ∙ ap (λ (x : Head). w0 ++ (head_words q x ++ chain_record q.select e)) head
    ∙ ap (λ n. w0 ++ (head_words q i ++ chain_record q.select n)) end

pub append-reported : (s : Sought) (cut : CutState) (finder : Finder) (fault : Option TextFault) (w0 w1 : List ℕ) → is_some fault ≡ true →
    (let state = state_of s.pattern cut finder fault in w1 ≡ w0 ++ (head_words (sizes_of s) (head_of state) ++ chain_record s.select state.last_end)) →
    w1 ≡ w0 ++ words (sizes_of s) (state_of s.pattern cut finder fault)
append-reported s cut finder None w0 w1 some a = cc
append-reported s cut finder (Some fault) w0 w1 some a =
    a ∙ ap (λ l. w0 ++ l) (sym (append-nil (head_words (sizes_of s) (head_of (reported fault)) ++ chain_record s.select 0)))

pub append-all : (s : Sought) (cut : CutState) (finder : Finder) (fault : Option TextFault) (w0 w1 w2 w3 w4 : List ℕ) → is_some fault ≡ false →
    (let state = state_of s.pattern cut finder fault in w1 ≡ w0 ++ (head_words (sizes_of s) (head_of state) ++ chain_record s.select state.last_end)) →
    w2 ≡ w1 ++ place_words (saved_places (kept_places finder.matcher.walk)) →
    w3 ≡ w2 ++ point_words finder.window.points →
    w4 ≡ w3 ++ point_words finder.reorder.held →
    w4 ≡ w0 ++ words (sizes_of s) (state_of s.pattern cut finder fault)
append-all s cut finder (Some fault) w0 w1 w2 w3 w4 none a b c d = cc
append-all s cut finder None w0 w1 w2 w3 w4 none a b c d =
    let front = head_words (sizes_of s) (head_of (open_state s.pattern cut finder)) ++ chain_record s.select finder.matcher.walk.last_end in
    let places = place_words (saved_places (kept_places finder.matcher.walk)) in
    let points = point_words finder.window.points in
    let held = point_words finder.reorder.held in
    d ∙ ap (λ l. l ++ held) (c ∙ ap (λ l. l ++ points) (b ∙ ap (λ l. l ++ places) a)) ∙ five w0 front places points held
  where
    five : (w0 front places points held : List ℕ) → (((w0 ++ front) ++ places) ++ points) ++ held ≡ w0 ++ (front ++ ((places ++ points) ++ held))
    five w0 front places points held = simp append_assoc

pub on_err : {A E : Type 0} (r : Result A E) (P : Type 0) → P → OnErr r P
on_err (Ok a) P p = tt
on_err (Err e) P p = p
