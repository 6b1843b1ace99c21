-- Marks put in order: a mark that follows others of greater classes goes before them.
use Rattle.std.proofs.Common.{◌≡◌, ◌∙◌, ℕ, ◌+◌, ◌<◌, Bool, true, false, cond, List, [], ◌∷◌, ◌++◌, length, map, Option, None, refl, sym, ap, subst, arith, append_assoc}
use Rattle.std.proofs.lemmas.List.{same_from_push}
use Rattle.std.proofs.lemmas.Bool.{and_from, false≢true, lt-ltb}
use Rattle.nfd_points.specs.declared.points.Point.{Point}
use Rattle.nfd_points.specs.Points.{byte_len, points_from, ordered, shifted, is_reorderable, is_in_order}
use Rattle.nfd_points.specs.Laws.{PointsOfParts, PointsAreShifted}
use Rattle.nfd_points.proofs.OrderingLemmas.{length-ordered, ordered-exchange, ordered-ordered, ordered-prefix}
use Rattle.collation_table.specs.Table.{TableMap, ContinuesNoString}
use Rattle.collation_elements.specs.declared.keys.Item.{Item}
use Rattle.collation_elements.specs.declared.keys.Item.TheVariants.{ClusterStart, Element}
use Rattle.collation_elements.specs.Units.{units}
use Rattle.collation_elements.specs.Items.{items as items_of}
use Rattle.collation_elements.specs.Weighing.{after_units}
use Rattle.collation_pattern.specs.Compiled.{Compiled}
use Rattle.collation_letters.specs.declared.cluster.Cluster.{Cluster}
use Rattle.collation_letters.specs.declared.letter.Letter.{Letter}
use Rattle.collation_letters.specs.Letters.{begins_cluster, is_mark, flag_after, counted, here, ordered_from, keys_alone, IsLetterOf, IsLetter}
use Rattle.collation_letters.specs.Symbols.{listed}
use Rattle.collation_letters.specs.Clusters.{ContinuesNone, IsMarkOrNone, IsClusterAt}
use Rattle.collation_letters.proofs.LetterLemmas.{have-keys, known-with, letter-with}
use Rattle.collation_letters.proofs.JoiningLemmas.{mark-known, mark-begins_none, shifted-twice, only-one, one-ordered}

reorderable : (a b : Point) → 0 < b.ccc → b.ccc < a.ccc → is_reorderable a b ≡ true
unfolding is_reorderable
reorderable a b some below = and_from _ _ (lt-ltb 0 b.ccc some) (lt-ltb b.ccc a.ccc below)

-- the last two points change places
swap-last : (xs : List Point) (q r : Point) → 0 < r.ccc → r.ccc < q.ccc → ordered ((xs ++ q ∷ []) ++ r ∷ []) ≡ ordered ((xs ++ r ∷ []) ++ q ∷ [])
swap-last xs q r some below =
    ap ordered (append_assoc xs (q ∷ []) (r ∷ [])) ∙ ordered-exchange xs q r [] (reorderable q r some below) ∙ ap ordered (sym (append_assoc xs (r ∷ []) (q ∷ [])))

-- and so do the two before the last one
swap-inner : (xs : List Point) (p r q : Point) → 0 < r.ccc → r.ccc < p.ccc → ordered (((xs ++ p ∷ []) ++ r ∷ []) ++ q ∷ []) ≡ ordered (((xs ++ r ∷ []) ++ p ∷ []) ++ q ∷ [])
swap-inner xs p r q some below =
    let flat : (a b : Point) → ((xs ++ a ∷ []) ++ b ∷ []) ++ q ∷ [] ≡ xs ++ a ∷ b ∷ q ∷ [] =
    λ a b. append_assoc (xs ++ a ∷ []) (b ∷ []) (q ∷ []) ∙ append_assoc xs (a ∷ []) (b ∷ q ∷ []) in
    ap ordered (flat p r) ∙ ordered-exchange xs p r (q ∷ []) (reorderable p r some below) ∙ ap ordered (sym (flat r p))

-- a point goes before the last one
pub before-last : (xs : List Point) (q r : Point) → 0 < r.ccc → r.ccc < q.ccc → is_in_order ((xs ++ r ∷ []) ++ q ∷ []) ≡ true → ordered ((xs ++ q ∷ []) ++ r ∷ []) ≡ (xs ++ r ∷ []) ++ q ∷ []
before-last xs q r some below order = swap-last xs q r some below ∙ ordered-ordered ((xs ++ r ∷ []) ++ q ∷ []) order

-- and before the last two
pub before-both : (xs : List Point) (p q r : Point) → 0 < r.ccc → r.ccc < p.ccc → r.ccc < q.ccc → is_in_order (((xs ++ r ∷ []) ++ p ∷ []) ++ q ∷ []) ≡ true →
    ordered (((xs ++ p ∷ []) ++ q ∷ []) ++ r ∷ []) ≡ ((xs ++ r ∷ []) ++ p ∷ []) ++ q ∷ []
before-both xs p q r some below_p below_q order =
    swap-last (xs ++ p ∷ []) q r some below_q ∙ swap-inner xs p r q some below_p ∙ ordered-ordered (((xs ++ r ∷ []) ++ p ∷ []) ++ q ∷ []) order

pub first-same : (p q : Point) → p ∷ [] ≡ q ∷ [] → p ≡ q
first-same p q h = cc

-- a point of a mark
pub is-one : (table : TableMap) (pattern : Compiled) (q : Point) (l : Letter) (is_closed : Bool) → is_mark l.role ≡ true → IsLetterOf table pattern (q ∷ []) l → (is_closed ≡ false → ContinuesNoString table q.cp) → IsMarkOrNone table pattern (q ∷ []) l is_closed
is-one table pattern q l is_closed mark h free = record {
  one = λ _. (q, refl, h);
  none = λ no. absurd (false≢true (sym no ∙ mark));
  free = λ no p is. let same : q ≡ p = cc in subst (λ (r : Point). ContinuesNoString table r.cp) same (free no);
}

-- ---- characters

-- the letter of characters is that of their points
pub letter-of : (table : TableMap) (pattern : Compiled) (cs : List ℕ) (l : Letter) → IsLetter table pattern cs l → IsLetterOf table pattern (ordered_from 0 cs) l
letter-of table pattern cs l h = record { closed = h.closed; known = h.known; plain = h.plain }

-- and the other way, where nothing is said of units that reach into them
pub letter-from : (table : TableMap) (pattern : Compiled) (cs : List ℕ) (l : Letter) → IsLetterOf table pattern (ordered_from 0 cs) l → IsLetter table pattern cs (record l { is_apart = false })
letter-from table pattern cs l h = letter-with table pattern cs (ordered_from 0 cs) l false refl (λ yes. absurd (false≢true yes)) h

pub cluster-without_apart : (depth : Option ℕ) (table : TableMap) (pattern : Compiled) (ps : List Point) (it : Cluster) → IsClusterAt depth table pattern ps it →
    IsClusterAt depth table pattern ps (record { letter = record it.letter { is_apart = false }; base = it.base; before = it.before; last = it.last })
cluster-without_apart depth table pattern ps it h = record {
  first = h.first;
  before = h.before;
  last = h.last;
  all = h.all;
  letter = record { closed = h.letter.closed; known = λ some. known-with depth table pattern ps it.letter false (h.letter.known some); plain = h.letter.plain };
  base = h.base;
  closed = h.closed;
  before_is = h.before_is;
  last_is = h.last_is;
}

in_order-one : (q : Point) → is_in_order (q ∷ []) ≡ true
unfolding is_in_order
in_order-one q = refl

-- the point of a mark, wherever it stands
mark-shifted : (table : TableMap) (pattern : Compiled) (q : Point) (l : Letter) (k : ℕ) → is_mark l.role ≡ true → IsLetterOf table pattern (q ∷ []) l → IsLetterOf table pattern (shifted k q ∷ []) l
mark-shifted table pattern q l k mark h =
    let km = h.known (mark-known l.role mark) in
    let one : List Point = q ∷ [] in
    let there = shifted k q ∷ [] in
    let none = mark-begins_none l.role mark in
    record {
      closed = λ yes start more.
          let same = shifted-twice start k one in
          subst (λ (ps : List Point). units table (ps ++ more) ≡ units table ps ++ units table more) (sym same) (h.closed yes (start + k) more);
      known = λ some. record {
        some = km.some;
        in_order = in_order-one (shifted k q);
        count = km.count;
        at_most = km.at_most;
        few = km.few;
        class = λ before last is. km.class [] q refl ∙ ap (λ (p : Point). p.ccc) (same_from_push [] before (shifted k q) last is).1;
        starter = λ no. absurd (false≢true (sym no ∙ mark));
        one = λ yes. refl;
        items = λ after possible.
            let has = km.items after possible in
            let keys = keys_alone table pattern one after in
            let E : List Item = map (λ key. Element key) keys in
            have-keys None table pattern there after (begins_cluster l.role) keys (counted l.role after (listed l.symbols)) (flag_after l.role after)
            (λ start.
            ap (λ (ps : List Point). items_of table pattern.strength pattern.variable after (units table ps)) (shifted-twice start k one) ∙ has.items (start + k)
            ∙ ap (λ b. cond b (ClusterStart (start + k) ∷ []) [] ++ E) none ∙ sym (ap (λ b. cond b (ClusterStart start ∷ []) [] ++ E) none))
            (λ start. ap (λ (ps : List Point). after_units table pattern.variable after (units table ps)) (shifted-twice start k one) ∙ has.flag_is (start + k)) has.symbols_are;
      };
      plain = h.plain;
    }

-- a mark that follows is one point, which is put in order
pub characters-on : PointsOfParts → PointsAreShifted → (depth : Option ℕ) (table : TableMap) (pattern : Compiled) (cs : List ℕ) (c : ℕ) (m : Letter) (both : Cluster) (is_free : Bool) → (is_free ≡ true → ContinuesNone table (points_from 0 (c ∷ []))) → is_mark m.role ≡ true →
    ((q : Point) → (is_free ≡ true → ContinuesNoString table q.cp) → IsLetterOf table pattern (q ∷ []) m → IsClusterAt depth table pattern (ordered (ordered_from 0 cs ++ q ∷ [])) both) → IsLetter table pattern (c ∷ []) m → IsClusterAt depth table pattern (ordered_from 0 (cs ++ c ∷ [])) both
characters-on parts shift depth table pattern cs c m both is_free free mark on h =
    let first = points_from 0 cs in
    let one = points_from 0 (c ∷ []) in
    let k = byte_len cs in
    let of = letter-of table pattern (c ∷ []) m h in
    let lone : length one ≡ 1 = let count = length-ordered one in let long = (of.known (mark-known m.role mark)).one mark in omega (arith, long, count) in
    let q = only-one one lone in
    let itself : ordered one ≡ q.q ∷ [] = one-ordered one lone ∙ q.is in
    let there : 0 + k ≡ k + 0 = omega arith in
    let all : points_from 0 (cs ++ c ∷ []) ≡ first ++ shifted k q.q ∷ [] =
    parts 0 cs (c ∷ []) ∙ ap (λ (l : List Point). first ++ l) (ap (λ i. points_from i (c ∷ [])) there ∙ shift k 0 (c ∷ []) ∙ ap (λ (l : List Point). here k l) q.is) in
    subst (λ (l : List Point). IsClusterAt depth table pattern l both) (ordered-prefix first (shifted k q.q ∷ []) ∙ ap ordered (sym all))
    (on (shifted k q.q) (λ yes. free yes q.q q.is) (mark-shifted table pattern q.q m k mark (subst (λ (l : List Point). IsLetterOf table pattern l m) itself of)))
