-- Text of ASCII that passes, character by character: its units, its items, and how many keys of the pattern match.
use Rattle.std.specs.Char.{len_utf8}
use Rattle.std.proofs.Common.{◌≡◌, ◌∙◌, ◌⊎◌, ℕ, zero, suc, ◌+◌, ◌≤◌, ◌<◌, min, true, false, List, [], ◌∷◌, ◌++◌, length, take, get_or, slice_get, inl, inr, refl, sym, ap, ap₂, subst, arith}
use Rattle.std.specs.Prelude.{Contains, slice_index_or}
use Rattle.std.proofs.lemmas.List.Elements.{Contains-append_cases}
use Rattle.std.proofs.lemmas.List.{append-nil}
use Rattle.std.proofs.lemmas.Str.{len_utf8_ascii}
use Rattle.std.proofs.lemmas.Option.{same_Some}
use Rattle.std.proofs.lemmas.Grind.{flat_map-append}
use Rattle.std.proofs.Math.Seq.{take-suc}
use Rattle.nfd_points.specs.declared.points.Point.{Point}
use Rattle.nfd_points.specs.Points.{ascii_point, byte_len, points_of, points_from, is_starter, begins_with_starter}
use Rattle.nfd_points.specs.Laws.{AsciiIsItself}
use Rattle.collation_table.specs.Table.{TableMap, ContinuesNoString}
use Rattle.collation_elements.specs.declared.keys.Key.{Key}
use Rattle.collation_elements.specs.declared.keys.Item.{Item}
use Rattle.collation_elements.specs.declared.keys.Item.TheVariants.{ClusterStart}
use Rattle.collation_elements.specs.declared.settings.Strength.{Strength}
use Rattle.collation_elements.specs.declared.settings.Variable.{Variable}
use Rattle.collation_elements.specs.declared.weigher.Weigher.{Weigher}
use Rattle.collation_elements.specs.Items.{items as items_of}
use Rattle.collation_elements.specs.ItemParts.{item_keys, keys_in}
use Rattle.collation_elements.specs.Units.{units}
use Rattle.collation_elements.specs.Weighing.{weigher, after_units, WeigherStandsFor}
use Rattle.collation_pattern.specs.Border.{border, border_up_to}
use Rattle.collation_pattern.specs.Compiled.{Compiled}
use Rattle.collation_letters.specs.Apart.{EndsBefore, IsNext}
use Rattle.collation_letters.specs.Letters.{ordered_from, AreApart, AreClosed, IsPossible}
use Rattle.collation_letters.specs.Laws.{LetterLaws}
use Rattle.collation_letters.proofs.ApartLemmas.{from_one, ordered_none, ordered_one, good_none, next-more, units-next, next_of_one}
use Rattle.collation_letters.proofs.CharacterLemmas.{ordered_is_shifted}
use Rattle.collation_letters.proofs.JoiningLemmas.{after-plain}
use Rattle.collation_letters.proofs.LetterApart.{BeforeLaw}
use Rattle.collation_letters.proofs.WeigherLaw.{WeighersGoOn}
use Rattle.collation_skip.specs.declared.classes.Classes.{Classes}
use Rattle.byte_blocks.specs.Ascii.{Passes}
use Rattle.byte_blocks.specs.Sets.{in_set}
use Rattle.collation_skip.specs.Blocks.{items_at, StartsInFront, most, AreClassesRight}
use Rattle.collation_skip.specs.Passed.{IsQuiet}
use Rattle.byte_blocks.proofs.LaneLemmas.{min-zero}

pub record RunLaws : Type 0 where
  pub points : LetterLaws
  pub before : BeforeLaw
  pub goes_on : WeighersGoOn

-- ---- lists of items

pub no_start : {A : Type 0} (start : ℕ) (before more : List Item) → [] ≡ before ++ ClusterStart start ∷ more → A
no_start start [] more h = absurd (cc)
no_start start (x ∷ before) more h = absurd (cc)

-- where a cluster starts in two lists one after the other
pub record InFirst (xs : List Item) (before : List Item) (start : ℕ) : Type 0 where
  pub more : List Item
  pub is : xs ≡ before ++ ClusterStart start ∷ more

pub record InSecond (xs ys : List Item) (before : List Item) (start : ℕ) : Type 0 where
  pub before' : List Item
  pub more : List Item
  pub is : ys ≡ before' ++ ClusterStart start ∷ more
  pub all : before ≡ xs ++ before'

start-of : (xs ys before more : List Item) (start : ℕ) → xs ++ ys ≡ before ++ ClusterStart start ∷ more → InFirst xs before start ⊎ InSecond xs ys before start
start-of [] ys before more start h = inr (record { before' = before; more = more; is = h; all = refl })
start-of (x ∷ xs) ys [] more start h = inl (record { more = xs; is = let e : x ≡ ClusterStart start = cc in ap (λ (i : Item). i ∷ xs) e })
start-of (x ∷ xs) ys (b ∷ before) more start h =
    let first : x ≡ b = cc in
    let rest : xs ++ ys ≡ before ++ ClusterStart start ∷ more = cc in
    elim (start-of xs ys before more start rest) [
      | inl f ↦ inl (record { more = f.more; is = ap₂ (λ (i : Item) (is : List Item). i ∷ is) first f.is })
      | inr s ↦ inr (record { before' = s.before'; more = s.more; is = s.is; all = ap₂ (λ (i : Item) (is : List Item). i ∷ is) (sym first) s.all })
    ]

pub keys-append : (xs ys : List Item) → item_keys (xs ++ ys) ≡ item_keys xs ++ item_keys ys
keys-append xs ys = flat_map-append keys_in xs ys

-- more items in which clusters start only in front
pub quiet-more : (pattern : List Key) (start : ℕ) (xs ys : List Item) → IsQuiet pattern xs → border pattern (item_keys xs) < length pattern → StartsInFront start ys → IsQuiet pattern (xs ++ ys)
quiet-more pattern start xs ys quiet state front = λ before more at h.
    elim (start-of xs ys before more at h) [
      | inl f ↦ quiet before f.more at f.is
      | inr s ↦
          let none = (front s.before' s.more at s.is).0 in
          let same : before ≡ xs = s.all ∙ ap (λ (l : List Item). xs ++ l) none ∙ append-nil xs in
          subst (λ (l : List Item). border pattern (item_keys l) < length pattern) (sym same) state
    ]

-- ---- the items of one character more

pub possible : (table : TableMap) (variable : Variable) (us : List (List Point)) → IsPossible variable (after_units table variable false us)
possible table variable us = λ plain. ap (λ v. after_units table v false us) plain ∙ after-plain table false us

pub items-more : WeighersGoOn → (table : TableMap) (strength : Strength) (variable : Variable) (us vs : List (List Point)) →
    (items_of table strength variable false (us ++ vs) ≡ items_of table strength variable false us ++ items_of table strength variable (after_units table variable false us) vs)
    × (after_units table variable false (us ++ vs) ≡ after_units table variable (after_units table variable false us) vs)
items-more law table strength variable us vs =
    let flag = after_units table variable false us in
    let w : Weigher = weigher strength variable flag in
    let h : WeigherStandsFor table w us (items_of table strength variable false us) = record { items = refl; after = refl } in
    let all = law table w us vs (items_of table strength variable false us) (items_of table strength variable flag vs) (after_units table variable flag vs) refl refl h in
    (sym all.items, sym all.after)

-- ---- where a cluster starts

pub record IsAt (xs : List Item) (x : Item) : Type 0 where
  pub before : List Item
  pub more : List Item
  pub is : xs ≡ before ++ x ∷ more

contained-at : (xs : List Item) (x : Item) (k : ℕ) → k < length xs → slice_index_or xs k x ≡ x → IsAt xs x
contained-at [] x k less h = absurd (omega (arith, less))
contained-at (y ∷ xs) x zero less h = record { before = []; more = xs; is = ap (λ (i : Item). i ∷ xs) h }
contained-at (y ∷ xs) x (suc k) less h =
    let r = contained-at xs x k (omega (arith, less)) h in record { before = y ∷ r.before; more = r.more; is = ap (λ (l : List Item). y ∷ l) r.is }

pub contained : (xs : List Item) (x : Item) → Contains xs x → IsAt xs x
contained xs x h = contained-at xs x h.0 h.1 h.2

pub front-one : (start : ℕ) → StartsInFront start (ClusterStart start ∷ [])
front-one start [] more at h = (refl, cc)
front-one start (b ∷ before) more at h = no_start at before more (cc)

-- ---- bytes of ASCII

pub begins-ascii : AsciiIsItself → (at c : ℕ) → c < 128 → begins_with_starter (points_of at c) ≡ true
begins-ascii law at c less = ap begins_with_starter (law at c less)

pub bytes-len : (bs : List ℕ) (n : ℕ) → n ≤ length bs → ((i : ℕ) → i < n → get_or bs i 0 < 128) → byte_len (take n bs) ≡ n
unfolding byte_len
bytes-len bs zero within ascii = refl
bytes-len [] (suc n) within ascii = absurd (omega (arith, within))
bytes-len (b ∷ bs) (suc n) within ascii =
    let one = len_utf8_ascii b (ascii 0 (omega arith)) in
    let rest = bytes-len bs n (omega (arith, within)) (λ i less. ascii (suc i) (omega (arith, less))) in
    omega (arith, one, rest)

-- no unit reaches from one character to the next
pub ends-one : RunLaws → (table : TableMap) (at end c d : ℕ) → d < 128 → (AreClosed table (ordered_from 0 (c ∷ [])) ⊎ AreApart table (points_from 0 (d ∷ []))) → EndsBefore table (points_of at c) end d
ends-one laws table at end c d less (inl closed) = λ x is more.
    subst (λ (ps : List Point). units table (ps ++ x ∷ more) ≡ units table ps ++ units table (x ∷ more)) (sym (ordered_is_shifted laws.points.shifted at (c ∷ [])) ∙ ordered_one at c) (closed at (x ∷ more))
ends-one laws table at end c d less (inr apart) = λ x is more.
    let same : ascii_point end d ≡ x = same_Some (ascii_point end d) x (sym (ap (λ (ps : List Point). slice_get ps 0) (laws.points.ascii end d less)) ∙ is) in
    let first = apart (ascii_point 0 d) (ap (λ (ps : List Point). slice_get ps 0) (from_one 0 d ∙ laws.points.ascii 0 d less)) in
    laws.before table (points_of at c) x more (ap is_starter (sym same)) (subst (λ (p : Point). ContinuesNoString table p.cp) same first.1)

-- ---- bytes that pass

pub ascii-at : (classes : Classes) (bytes : List ℕ) (total i : ℕ) → Passes classes.sets bytes total → i < total → get_or bytes i 0 < 128
ascii-at classes bytes total zero p less = p.ascii less
ascii-at classes bytes total (suc i) p less = (p.each i less).ascii

going-at : (classes : Classes) (bytes : List ℕ) (total i : ℕ) → Passes classes.sets bytes total → i < total → in_set classes.sets.halt (get_or bytes i 0) ≡ 0
going-at classes bytes total zero p less = p.going less
going-at classes bytes total (suc i) p less = (p.each i less).going

-- ---- the characters so far

abbrev pub run_items : TableMap → Compiled → ℕ → List ℕ → ℕ → List Item
run_items table pattern start bytes n = items_of table pattern.strength pattern.variable false (units table (ordered_from start (take n bytes)))

-- After the first n bytes of a text that passes: no match has ended, and not too many keys have matched.
pub record HasPassedAscii (table : TableMap) (pattern : Compiled) (classes : Classes) (start : ℕ) (bytes : List ℕ) (n : ℕ) : Type 0 where
  pub is_next : IsNext table start (take n bytes) (get_or bytes n 0)
  pub quiet : IsQuiet pattern.keys (run_items table pattern start bytes n)
  pub later : (at : ℕ) → Contains (run_items table pattern start bytes n) (ClusterStart at) → start ≤ at
  pub state : border pattern.keys (item_keys (run_items table pattern start bytes n)) ≤ most pattern.keys classes.place
  pub none : n ≡ 0 → border pattern.keys (item_keys (run_items table pattern start bytes n)) ≤ classes.place
  pub other : (p : ℕ) → n ≡ suc p → in_set classes.sets.key (get_or bytes p 0) ≡ 0 → border pattern.keys (item_keys (run_items table pattern start bytes n)) ≤ classes.place

border-nil : (pattern : List Key) → border pattern [] ≡ 0
border-nil pattern = let e : min (length pattern) 0 ≡ 0 = omega arith in ap (border_up_to pattern []) e

run-none : RunLaws → (table : TableMap) (pattern : Compiled) (classes : Classes) (start : ℕ) (bytes : List ℕ) → get_or bytes 0 0 < 128 → HasPassedAscii table pattern classes start bytes 0
run-none laws table pattern classes start bytes less =
    let nothing = ordered_none start in
    let d = get_or bytes 0 0 in
    let none : run_items table pattern start bytes 0 ≡ [] = ap (λ (ps : List Point). items_of table pattern.strength pattern.variable false (units table ps)) nothing in
    let zero : border pattern.keys (item_keys (run_items table pattern start bytes 0)) ≡ 0 = ap (λ (is : List Item). border pattern.keys (item_keys is)) none ∙ border-nil pattern.keys in
    record {
      is_next = record {
        good = good_none;
        begins = begins-ascii laws.points.ascii (start + byte_len []) d less;
        ends = λ x is more. ap (λ (t : List Point). units table (t ++ x ∷ more)) nothing ∙ ap (λ (t : List Point). units table t ++ units table (x ∷ more)) (sym nothing);
      };
      quiet = subst (IsQuiet pattern.keys) (sym none) (λ before more at h. no_start at before more h);
      later = λ at h. let r = contained (run_items table pattern start bytes 0) (ClusterStart at) h in no_start at r.before r.more (sym none ∙ r.is);
      state = omega (arith, zero);
      none = λ _. omega (arith, zero);
      other = λ p e _. absurd (omega (arith, e));
    }

-- before the next character not more keys have matched than the place says, or its key is not the one behind the place
low-or-not-later : (table : TableMap) (pattern : Compiled) (classes : Classes) (start : ℕ) (bytes : List ℕ) (total n : ℕ) → Passes classes.sets bytes total → n < total → HasPassedAscii table pattern classes start bytes n →
    (border pattern.keys (item_keys (run_items table pattern start bytes n)) ≤ classes.place) ⊎ (in_set classes.sets.later (get_or bytes n 0) ≡ 0)
low-or-not-later table pattern classes start bytes total zero p less h = inl (h.none refl)
low-or-not-later table pattern classes start bytes total (suc n) p less h =
    elim (min-zero (in_set classes.sets.key (get_or bytes n 0)) (in_set classes.sets.later (get_or bytes (suc n) 0)) (p.each n less).keys) [
      | inl none ↦ inl (h.other n refl none)
      | inr none ↦ inr none
    ]

-- the items of one character more, to which no unit reaches
pub items-next : RunLaws → (table : TableMap) (pattern : Compiled) (start : ℕ) (cs : List ℕ) (c : ℕ) → begins_with_starter (points_of (start + byte_len cs) c) ≡ true → EndsBefore table (ordered_from start cs) (start + byte_len cs) c →
    let us = units table (ordered_from start cs) in
    let flag = after_units table pattern.variable false us in
    let at = start + byte_len cs in
    (items_of table pattern.strength pattern.variable false (units table (ordered_from start (cs ++ c ∷ []))) ≡ items_of table pattern.strength pattern.variable false us ++ items_at table pattern flag at c)
    × (after_units table pattern.variable false (units table (ordered_from start (cs ++ c ∷ []))) ≡ after_units table pattern.variable flag (units table (ordered_from at (c ∷ []))))
items-next laws table pattern start cs c begins ends =
    let us = units table (ordered_from start cs) in
    let vs = units table (ordered_from (start + byte_len cs) (c ∷ [])) in
    let all : units table (ordered_from start (cs ++ c ∷ [])) ≡ us ++ vs = units-next laws.points table start c cs [] (c ∷ []) refl begins ends in
    let both = items-more laws.goes_on table pattern.strength pattern.variable us vs in
    (ap (items_of table pattern.strength pattern.variable false) all ∙ both.0, ap (after_units table pattern.variable false) all ∙ both.1)

-- the same of a byte of ASCII
pub run-items-more : RunLaws → (table : TableMap) (pattern : Compiled) (start : ℕ) (bytes : List ℕ) (n : ℕ) → n < length bytes → IsNext table start (take n bytes) (get_or bytes n 0) →
    let us = units table (ordered_from start (take n bytes)) in
    let flag = after_units table pattern.variable false us in
    let at = start + byte_len (take n bytes) in
    (run_items table pattern start bytes (suc n) ≡ run_items table pattern start bytes n ++ items_at table pattern flag at (get_or bytes n 0))
    × (after_units table pattern.variable false (units table (ordered_from start (take (suc n) bytes))) ≡ after_units table pattern.variable flag (units table (ordered_from at (get_or bytes n 0 ∷ []))))
run-items-more laws table pattern start bytes n less following =
    let more = take-suc bytes n 0 less in
    let next = items-next laws table pattern start (take n bytes) (get_or bytes n 0) following.begins following.ends in (
      ap (λ (t : List ℕ). items_of table pattern.strength pattern.variable false (units table (ordered_from start t))) more ∙ next.0,
      ap (λ (t : List ℕ). after_units table pattern.variable false (units table (ordered_from start t))) more ∙ next.1,
    )

run-more : RunLaws → (table : TableMap) (pattern : Compiled) (classes : Classes) → AreClassesRight table pattern classes → (start : ℕ) (bytes : List ℕ) (total n : ℕ) → Passes classes.sets bytes total → suc n < total → HasPassedAscii table pattern classes start bytes n →
    HasPassedAscii table pattern classes start bytes (suc n)
run-more laws table pattern classes rights start bytes total n p less h =
    let cs = take n bytes in
    let c = get_or bytes n 0 in
    let d = get_or bytes (suc n) 0 in
    let at = start + byte_len cs in
    let within : n < length bytes = let long = p.within in omega (arith, long, less) in
    let here' : n < total = omega (arith, less) in
    let us = units table (ordered_from start cs) in
    let flag = after_units table pattern.variable false us in
    let may = possible table pattern.variable us in
    let right = rights.each c (ascii-at classes bytes total n p here') in
    let halt = going-at classes bytes total n p here' in
    let I = run_items table pattern start bytes n in
    let J = items_at table pattern flag at c in
    let all = (run-items-more laws table pattern start bytes n within h.is_next).0 in
    let K = item_keys I in
    let keys : item_keys (run_items table pattern start bytes (suc n)) ≡ K ++ item_keys J = ap item_keys all ∙ keys-append I J in
    let bound : most pattern.keys classes.place < length pattern.keys = let place = rights.place in omega (arith, place) in
    let which = low-or-not-later table pattern classes start bytes total n p here' h in
    let ends = elim (min-zero (in_set classes.sets.joins c) (in_set classes.sets.inner d) (p.each n less).units) as (λ _. AreClosed table (ordered_from 0 (c ∷ [])) ⊎ AreApart table (points_from 0 (d ∷ []))) [
      | inl none ↦ inl (right.closed none)
      | inr none ↦ inr ((rights.each d (ascii-at classes bytes total (suc n) p less)).apart none)
    ] in
    let one : IsNext table at (c ∷ []) d = next_of_one laws.points table at c d (begins-ascii laws.points.ascii (at + len_utf8 c) d (ascii-at classes bytes total (suc n) p less)) (ends-one laws table at (at + len_utf8 c) c d (ascii-at classes bytes total (suc n) p less) ends) in
    record {
      is_next = subst (λ (t : List ℕ). IsNext table start t d) (sym (take-suc bytes n 0 within)) (next-more laws.points table start c d cs [] (c ∷ []) refl h.is_next one);
      quiet = subst (IsQuiet pattern.keys) (sym all) (quiet-more pattern.keys at I J h.quiet (let state = h.state in omega (arith, state, bound)) (right.whole halt flag may at));
      later = λ q has. elim (Contains-append_cases I J (ClusterStart q) (subst (λ (l : List Item). Contains l (ClusterStart q)) all has)) [
        | inl first ↦ h.later q first
        | inr second ↦
            let r = contained J (ClusterStart q) second in let same = (right.whole halt flag may at r.before r.more q r.is).1 in omega (arith, same)
      ];
      state = subst (λ (ks : List Key). border pattern.keys ks ≤ most pattern.keys classes.place) (sym keys) (elim which as (λ _. border pattern.keys (K ++ item_keys J) ≤ most pattern.keys classes.place) [
        | inl low ↦ right.any halt flag may at K low
        | inr none ↦ right.behind halt none flag may at K h.state
      ]);
      none = λ e. absurd (omega (arith, e));
      other = λ q e none'.
          let same : q ≡ n = omega (arith, e) in
          let none = subst (λ i. in_set classes.sets.key (get_or bytes i 0) ≡ 0) same none' in
          subst (λ (ks : List Key). border pattern.keys ks ≤ classes.place) (sym keys) (elim which as (λ _. border pattern.keys (K ++ item_keys J) ≤ classes.place) [
            | inl low ↦ right.other halt none flag may at K low
            | inr not_later ↦ right.back halt none not_later flag may at K h.state
          ]);
    }

pub run-to : RunLaws → (table : TableMap) (pattern : Compiled) (classes : Classes) → AreClassesRight table pattern classes → (start : ℕ) (bytes : List ℕ) (total n : ℕ) → Passes classes.sets bytes total → n < total → HasPassedAscii table pattern classes start bytes n
run-to laws table pattern classes rights start bytes total zero p less = run-none laws table pattern classes start bytes (p.ascii less)
run-to laws table pattern classes rights start bytes total (suc n) p less =
    run-more laws table pattern classes rights start bytes total n p less (run-to laws table pattern classes rights start bytes total n p (omega (arith, less)))
