-- A letter and a mark that joins it.
use Rattle.std.proofs.Common.{◌≡◌, ◌≢◌, ◌∙◌, ◌⊎◌, ℕ, ◌+◌, ◌≤◌, Bool, true, false, cond, not, nat_lt, ◌&&◌, List, [], ◌∷◌, ◌++◌, length, map, slice_get, Option, None, inl, inr, refl, sym, ap, ap₂, subst, arith, append_assoc, length-append}
use Rattle.std.proofs.lemmas.Bool.{false≢true, le-ltb}
use Rattle.std.proofs.lemmas.List.{map-append, same_from_push}
use Rattle.nfd_points.specs.declared.points.Point.{Point}
use Rattle.nfd_points.specs.Points.{byte_len, points_from, ordered, shifted, sink, is_reorderable, is_in_order, begins_with_starter}
use Rattle.nfd_points.specs.Laws.{PointsOfParts, PointsAreShifted}
use Rattle.nfd_points.proofs.OrderingLemmas.{length-ordered, ordered-ordered, ordered-prefix}
use Rattle.collation_table.specs.Table.{TableMap, ContinuesNoString}
use Rattle.collation_elements.proofs.Apart.{units-last_point}
use Rattle.collation_elements.specs.declared.keys.Key.{Key}
use Rattle.collation_elements.specs.declared.keys.Item.{Item}
use Rattle.collation_elements.specs.declared.keys.Item.TheVariants.{ClusterStart, Element}
use Rattle.collation_elements.specs.declared.settings.Strength.{Strength}
use Rattle.collation_elements.specs.declared.settings.Variable.{Variable}
use Rattle.collation_elements.specs.declared.settings.Variable.TheVariants.{NonIgnorable}
use Rattle.collation_elements.specs.Units.{units}
use Rattle.collation_elements.specs.Items.{items as items_of, unit_items, after_unit}
use Rattle.collation_elements.specs.Weighing.{after_units}
use Rattle.collation_pattern.specs.Compiled.{Compiled}
use Rattle.collation_letters.specs.declared.joining.TheConstants.{MOST_POINTS}
use Rattle.collation_letters.specs.declared.letter.Letter.{Letter}
use Rattle.collation_letters.specs.declared.letter.Role.{Role}
use Rattle.collation_letters.specs.declared.letter.Role.TheVariants.{Steps, Plain, Base, VariableBase, Silent, PrimaryMark, Mark}
use Rattle.collation_letters.specs.Symbols.{AreSymbolsAt, listed}
use Rattle.collation_letters.specs.Letters.{begins_cluster, is_mark, flag_after, counted, here, ordered_from, keys_alone, AreClosed, IsPossible, HaveItemsAt, IsKnown, IsKnownAt, IsLetterAt, IsLetterOf, IsLetter}
use Rattle.collation_letters.specs.Joining.{Joins}
use Rattle.collation_letters.proofs.LetterLemmas.{have-keys, letter-at}

pub is_so : (b : Bool) → not b ≡ false → b ≡ true
is_so true h = refl
is_so false h = absurd (false≢true (sym h))

-- ---- roles

pub base-not_mark : (r : Role) → begins_cluster r ≡ true → is_mark r ≡ false
base-not_mark Steps h = absurd (false≢true h)
base-not_mark Plain h = refl
base-not_mark Base h = refl
base-not_mark VariableBase h = refl
base-not_mark Silent h = absurd (false≢true h)
base-not_mark PrimaryMark h = absurd (false≢true h)
base-not_mark Mark h = absurd (false≢true h)

pub base-known : (r : Role) → begins_cluster r ≡ true → r ≢ Steps
base-known r h = λ steps. false≢true (ap begins_cluster (sym steps) ∙ h)

pub mark-known : (r : Role) → is_mark r ≡ true → r ≢ Steps
mark-known r h = λ steps. false≢true (ap is_mark (sym steps) ∙ h)

pub mark-begins_none : (r : Role) → is_mark r ≡ true → begins_cluster r ≡ false
mark-begins_none Steps h = refl
mark-begins_none Plain h = absurd (false≢true h)
mark-begins_none Base h = absurd (false≢true h)
mark-begins_none VariableBase h = absurd (false≢true h)
mark-begins_none Silent h = refl
mark-begins_none PrimaryMark h = refl
mark-begins_none Mark h = refl

base-counted : {A : Type 0} (r : Role) (after : Bool) (xs : List A) → begins_cluster r ≡ true → counted r after xs ≡ xs
base-counted Steps after xs h = refl
base-counted Plain after xs h = refl
base-counted Base after xs h = refl
base-counted VariableBase after xs h = refl
base-counted Silent after xs h = refl
base-counted PrimaryMark after xs h = refl
base-counted Mark after xs h = absurd (false≢true h)

-- ---- points

pub shifted-twice : (start k : ℕ) (ps : List Point) → here start (here k ps) ≡ here (start + k) ps
shifted-twice start k [] = refl
shifted-twice start k (p ∷ ps) =
    let at : start + (k + p.offset) ≡ (start + k) + p.offset = omega arith in
    ap₂ (λ i (qs : List Point). record p { offset = i } ∷ qs) at (shifted-twice start k ps)

here-two : (start k : ℕ) (ps qs : List Point) → here start (ps ++ here k qs) ≡ here start ps ++ here (start + k) qs
here-two start k ps qs = map-append (shifted start) ps (here k qs) ∙ ap (λ (l : List Point). here start ps ++ l) (shifted-twice start k qs)

begins-more : (ps qs : List Point) → 1 ≤ length ps → begins_with_starter (ps ++ qs) ≡ begins_with_starter ps
begins-more [] qs some = absurd (omega (arith, some))
begins-more (p ∷ ps) qs some = refl

first-more : (ps qs : List Point) → 1 ≤ length ps → slice_get (ps ++ qs) 0 ≡ slice_get ps 0
first-more [] qs some = absurd (omega (arith, some))
first-more (p ∷ ps) qs some = refl

in_order-more : (ps : List Point) (q : Point) → is_in_order ps ≡ true → ((before : List Point) (last : Point) → ps ≡ before ++ last ∷ [] → q.ccc ≡ 0 ⊎ last.ccc ≤ q.ccc) → is_in_order (ps ++ q ∷ []) ≡ true
unfolding is_in_order is_reorderable
in_order-more [] q h low = refl
in_order-more (p ∷ []) q h low = elim (low [] p refl) [
  | inl starter ↦ ap (λ n. not (nat_lt 0 n && nat_lt n p.ccc) && true) starter
  | inr rises ↦
      let below : nat_lt q.ccc p.ccc ≡ false = le-ltb q.ccc p.ccc rises in
      ap (λ b. not (nat_lt 0 q.ccc && b) && true) below ∙ none (nat_lt 0 q.ccc)
]
  where
    none : (b : Bool) → (not (b && false) && true) ≡ true
    none true = refl
    none false = refl
in_order-more (p ∷ r ∷ ps) q h low =
    let test = not (is_reorderable p r) in
    both test (is_in_order (r ∷ ps)) (is_in_order (r ∷ (ps ++ q ∷ []))) h
    (λ rest. in_order-more (r ∷ ps) q rest (λ before last is. low (p ∷ before) last (ap (λ (l : List Point). p ∷ l) is)))
  where
    both : (a b c : Bool) → (a && b) ≡ true → (b ≡ true → c ≡ true) → (a && c) ≡ true
    both true b c h f = f h
    both false b c h f = h

pub record IsOne (qs : List Point) : Type 0 where
  pub q : Point
  pub is : qs ≡ q ∷ []

pub only-one : (qs : List Point) → length qs ≡ 1 → IsOne qs
only-one [] h = absurd (omega (arith, h))
only-one (q ∷ []) h = record { q = q; is = refl }
only-one (q ∷ r ∷ qs) h = absurd (omega (arith, h))

-- one point is in order
pub one-ordered : (qs : List Point) → length qs ≡ 1 → ordered qs ≡ qs
unfolding ordered sink
one-ordered [] h = absurd (omega (arith, h))
one-ordered (q ∷ []) h = refl
one-ordered (q ∷ r ∷ qs) h = absurd (omega (arith, h))

-- ---- items of units in turn

pub items-append : (table : TableMap) (s : Strength) (v : Variable) (after : Bool) (us vs : List (List Point)) →
    items_of table s v after (us ++ vs) ≡ items_of table s v after us ++ items_of table s v (after_units table v after us) vs
items-append table s v after [] vs = refl
items-append table s v after (u ∷ us) vs =
    ap (λ (l : List Item). unit_items table s v after u ++ l) (items-append table s v (after_unit table v after u) us vs)
    ∙ sym (append_assoc (unit_items table s v after u) (items_of table s v (after_unit table v after u) us) (items_of table s v (after_units table v (after_unit table v after u) us) vs))

pub after-append : (table : TableMap) (v : Variable) (after : Bool) (us vs : List (List Point)) → after_units table v after (us ++ vs) ≡ after_units table v (after_units table v after us) vs
after-append table v after [] vs = refl
after-append table v after (u ∷ us) vs = after-append table v (after_unit table v after u) us vs

pub after-plain : (table : TableMap) (after : Bool) (us : List (List Point)) → after_units table NonIgnorable after us ≡ after
after-plain table after [] = refl
after-plain table after (u ∷ us) = after-plain table after us

pub possible-after : (table : TableMap) (v : Variable) (after flag : Bool) (us : List (List Point)) → IsPossible v after → after_units table v after us ≡ flag → IsPossible v flag
possible-after table v after flag us possible is = λ plain.
    sym is ∙ ap (λ w. after_units table w after us) plain ∙ after-plain table after us ∙ possible plain

-- ---- both

closed-both : (table : TableMap) (ps qs : List Point) (k : ℕ) → AreClosed table ps → AreClosed table qs → AreClosed table (ps ++ here k qs)
closed-both table ps qs k first second = λ start more.
    let U = units table in
    let A = here start ps in
    let Q = here (start + k) qs in
    let same = here-two start k ps qs in
    ap (λ (l : List Point). U (l ++ more)) same ∙ ap U (append_assoc A Q more) ∙ first start (Q ++ more) ∙ ap (λ (l : List (List Point)). U A ++ l) (second (start + k) more)
    ∙ sym (append_assoc (U A) (U Q) (U more)) ∙ ap (λ (l : List (List Point)). l ++ U more) (sym (first start Q)) ∙ ap (λ (l : List Point). U l ++ U more) (sym same)

-- no unit reaches from points to others that stand after them
abbrev pub ArePartsAt : TableMap → List Point → List Point → ℕ → Type 0
ArePartsAt table ps qs k = (start : ℕ) → units table (here start (ps ++ here k qs)) ≡ units table (here start ps) ++ units table (here (start + k) qs)

closed-parts : (table : TableMap) (ps qs : List Point) (k : ℕ) → AreClosed table ps → ArePartsAt table ps qs k
closed-parts table ps qs k closed = λ start. ap (units table) (here-two start k ps qs) ∙ closed start (here (start + k) qs)

last-parts : (table : TableMap) (ps : List Point) (q : Point) (k : ℕ) → ContinuesNoString table q.cp → ArePartsAt table ps (q ∷ []) k
last-parts table ps q k none = λ start. ap (units table) (here-two start k ps (q ∷ [])) ∙ units-last_point table (here start ps) (shifted (start + k) q) none

items-both : (depth : Option ℕ) (table : TableMap) (pattern : Compiled) (ps qs : List Point) (k : ℕ) (a m both : Letter) (after : Bool) → ArePartsAt table ps qs k → IsPossible pattern.variable after →
    IsKnownAt depth table pattern ps a → IsKnown table pattern qs m → Joins a m (both.role, both.symbols) →
    HaveItemsAt depth table pattern (ps ++ here k qs) after (begins_cluster both.role) (counted both.role after (listed both.symbols)) (flag_after both.role after)
items-both depth table pattern ps qs k a m both after cut possible ka km j =
    let U = units table in
    let s = pattern.strength in
    let v = pattern.variable in
    let A : ℕ → List (List Point) = λ start. U (here start ps) in
    let Q : ℕ → List (List Point) = λ start. U (here (start + k) qs) in
    let flag = flag_after a.role after in
    let ha = ka.items after possible in
    let hm = km.items flag (possible-after table v after flag (A 0) possible (ha.flag_is 0)) in
    let E : List Key → List Item = λ ks. map (λ key. Element key) ks in
    let first = keys_alone table pattern ps after in
    let later = keys_alone table pattern qs flag in
    have-keys depth table pattern (ps ++ here k qs) after (begins_cluster both.role) (first ++ later) (counted both.role after (listed both.symbols)) (flag_after both.role after)
    (λ start.
    let begun : List Item = ClusterStart start ∷ [] in
    ap (items_of table s v after) (cut start) ∙ items-append table s v after (A start) (Q start)
    ∙ ap₂ (λ (x y : List Item). x ++ y) (ha.items start ∙ ap (λ b. cond b begun [] ++ E first) j.base_begins)
    (ap (λ b. items_of table s v b (Q start)) (ha.flag_is start) ∙ hm.items (start + k) ∙ ap (λ b. cond b (ClusterStart (start + k) ∷ []) [] ++ E later) (mark-begins_none m.role j.mark_joins))
    ∙ ap (λ (l : List Item). ClusterStart start ∷ l) (sym (map-append (λ key. Element key) first later))
    ∙ ap (λ b. cond b begun [] ++ E (first ++ later)) (sym j.begins))
    (λ start.
    ap (after_units table v after) (cut start) ∙ after-append table v after (A start) (Q start) ∙ ap (λ b. after_units table v b (Q start)) (ha.flag_is start)
    ∙ hm.flag_is (start + k) ∙ sym (j.flag after))
    (subst (λ l. AreSymbolsAt depth pattern.keys (first ++ later) l) (sym (base-counted both.role after (listed both.symbols) j.begins))
    (j.symbols depth pattern.keys first later after
    (subst (λ l. AreSymbolsAt depth pattern.keys first l) (base-counted a.role after (listed a.symbols) j.base_begins) ha.symbols_are) hm.symbols_are))

known-both : (depth : Option ℕ) (table : TableMap) (pattern : Compiled) (ps qs : List Point) (k : ℕ) (a m both : Letter) → ArePartsAt table ps qs k → (m.class ≡ 0 ⊎ a.class ≤ m.class) → both.class ≡ m.class → both.points ≡ a.points + 1 → both.points ≤ MOST_POINTS →
    IsKnownAt depth table pattern ps a → IsKnown table pattern qs m → Joins a m (both.role, both.symbols) → IsKnownAt depth table pattern (ps ++ here k qs) both
known-both depth table pattern ps qs k a m both cut stays class points most ka km j =
    let one = only-one qs (km.one j.mark_joins) in
    let q = shifted k one.q in
    let all : ps ++ here k qs ≡ ps ++ q ∷ [] = ap (λ (l : List Point). ps ++ here k l) one.is in
    let of_mark : m.class ≡ q.ccc = km.class [] one.q one.is in
    let long = length-append ps (here k qs) in
    let short : length (here k qs) ≡ 1 = ap (λ (l : List Point). length (here k l)) one.is in
    let none = base-not_mark both.role j.begins in
    record {
      some = let some = ka.some in omega (arith, some, long);
      in_order = ap is_in_order all ∙ in_order-more ps q ka.in_order (λ before last is. elim stays [
        | inl starter ↦ inl (sym of_mark ∙ starter)
        | inr rises ↦ inr (omega (arith, rises, of_mark, ka.class before last is))
      ]);
      count = λ everywhere. omega (arith, points, ka.count everywhere, long, short);
      at_most = let before = ka.at_most in omega (arith, points, before, long, short);
      few = let before = ka.at_most in omega (arith, points, most, before, long, short);
      class = λ before last is. class ∙ of_mark ∙ ap (λ (p : Point). p.ccc) (same_from_push ps before q last (sym all ∙ is)).1;
      starter = λ no. begins-more ps (here k qs) ka.some ∙ ka.starter (base-not_mark a.role j.base_begins);
      one = λ yes. absurd (false≢true (sym none ∙ yes));
      items = λ after possible. items-both depth table pattern ps qs k a m both after cut possible ka km j;
    }

-- no shift
pub here-none : (ps : List Point) → here 0 ps ≡ ps
here-none [] = refl
here-none (p ∷ ps) =
    let same : 0 + p.offset ≡ p.offset = omega arith in
    ap₂ (λ i (qs : List Point). record p { offset = i } ∷ qs) same (here-none ps)

pub points-both : (depth : Option ℕ) (table : TableMap) (pattern : Compiled) (ps : List Point) (q : Point) (a m both : Letter) → a.is_closed ≡ true → m.is_closed ≡ true → (m.class ≡ 0 ⊎ a.class ≤ m.class) →
    both.class ≡ m.class → both.points ≡ a.points + 1 → both.points ≤ MOST_POINTS → both.role ≢ Plain → Joins a m (both.role, both.symbols) →
    IsLetterAt depth table pattern ps a → IsLetterOf table pattern (q ∷ []) m → IsLetterAt depth table pattern (ps ++ q ∷ []) both
points-both depth table pattern ps q a m both closed_base closed_mark stays class points most other j ha hm =
    let qs : List Point = q ∷ [] in
    let same = here-none qs in
    let ka = ha.known (base-known a.role j.base_begins) in
    let km = hm.known (mark-known m.role j.mark_joins) in
    let closed = ha.closed closed_base in
    record {
      closed = λ yes. subst (λ l. AreClosed table (ps ++ l)) same (closed-both table ps qs 0 closed (hm.closed closed_mark));
      known = λ some. subst (λ l. IsKnownAt depth table pattern (ps ++ l) both) same (known-both depth table pattern ps qs 0 a m both (closed-parts table ps qs 0 closed) stays class points most ka km j);
      plain = λ yes. absurd (other yes);
    }

-- behind points out of which a unit may reach
pub points-outer : (depth : Option ℕ) (table : TableMap) (pattern : Compiled) (ps : List Point) (q : Point) (a m both : Letter) → ContinuesNoString table q.cp → both.is_closed ≡ false → (m.class ≡ 0 ⊎ a.class ≤ m.class) →
    both.class ≡ m.class → both.points ≡ a.points + 1 → both.points ≤ MOST_POINTS → both.role ≢ Plain → Joins a m (both.role, both.symbols) →
    IsLetterAt depth table pattern ps a → IsLetterOf table pattern (q ∷ []) m → IsLetterAt depth table pattern (ps ++ q ∷ []) both
points-outer depth table pattern ps q a m both none is_open stays class points most other j ha hm =
    let qs : List Point = q ∷ [] in
    let ka = ha.known (base-known a.role j.base_begins) in
    let km = hm.known (mark-known m.role j.mark_joins) in
    record {
      closed = λ yes. absurd (false≢true (sym is_open ∙ yes));
      known = λ some. subst (λ l. IsKnownAt depth table pattern (ps ++ l) both) (here-none qs) (known-both depth table pattern ps qs 0 a m both (last-parts table ps q 0 none) stays class points most ka km j);
      plain = λ yes. absurd (other yes);
    }

pub letter-both : PointsOfParts → PointsAreShifted → (table : TableMap) (pattern : Compiled) (cs : List ℕ) (c : ℕ) (a m both : Letter) → a.is_closed ≡ true → m.is_closed ≡ true → (m.class ≡ 0 ⊎ a.class ≤ m.class) →
    both.is_apart ≡ a.is_apart → both.class ≡ m.class → both.points ≡ a.points + 1 → both.points ≤ MOST_POINTS → both.role ≢ Plain → Joins a m (both.role, both.symbols) →
    IsLetter table pattern cs a → IsLetter table pattern (c ∷ []) m → IsLetter table pattern (cs ++ c ∷ []) both
letter-both parts shift table pattern cs c a m both closed_base closed_mark stays apart class points most other j ha hm =
    let first = points_from 0 cs in
    let one = points_from 0 (c ∷ []) in
    let ps = ordered first in
    let qs = ordered one in
    let k = byte_len cs in
    let there : 0 + k ≡ k + 0 = omega arith in
    let all : points_from 0 (cs ++ c ∷ []) ≡ first ++ here k one =
    parts 0 cs (c ∷ []) ∙ ap (λ (l : List Point). first ++ l) (ap (λ i. points_from i (c ∷ [])) there ∙ shift k 0 (c ∷ [])) in
    let ka = ha.known (base-known a.role j.base_begins) in
    let km = hm.known (mark-known m.role j.mark_joins) in
    let closed = ha.closed closed_base in
    let kb = known-both None table pattern ps qs k a m both (closed-parts table ps qs k closed) stays class points most ka km j in
    let some : 1 ≤ length first = let some = ka.some in let count = length-ordered first in omega (arith, some, count) in
    let lone : length one ≡ 1 = let lone = km.one j.mark_joins in let count = length-ordered one in omega (arith, lone, count) in
    let same : ordered_from 0 (cs ++ c ∷ []) ≡ ps ++ here k qs =
    ap ordered all ∙ sym (ordered-prefix first (here k one)) ∙ ap (λ (l : List Point). ordered (ps ++ here k l)) (sym (one-ordered one lone))
    ∙ ordered-ordered (ps ++ here k qs) kb.in_order in
    letter-at table pattern (cs ++ c ∷ []) (ps ++ here k qs) both (sym same) other
    (λ yes. closed-both table ps qs k closed (hm.closed closed_mark))
    (λ yes. λ x is. ha.apart (sym apart ∙ yes) x (sym (first-more first (here k one) some) ∙ ap (λ (l : List Point). slice_get l 0) (sym all) ∙ is))
    (λ known. kb)
