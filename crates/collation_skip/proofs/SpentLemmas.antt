-- A letter is spent where no key waits behind it.
use Rattle.std.proofs.Common.{◌≡◌, ◌∙◌, ℕ, ◌<◌, ◌≤◌, false, List, [], ◌++◌, length, Option, Some, None, inl, inr, refl, sym, ap, subst, arith, length-append}
use Rattle.std.proofs.lemmas.List.{append-nil}
use Rattle.nfd_points.specs.declared.points.Point.{Point}
use Rattle.collation_table.specs.Table.{TableMap}
use Rattle.collation_elements.specs.declared.keys.Key.{Key}
use Rattle.collation_pattern.specs.Border.{border}
use Rattle.collation_pattern.specs.Compiled.{Compiled}
use Rattle.collation_letters.specs.declared.cluster.Cluster.{Cluster}
use Rattle.collation_letters.specs.declared.letter.Letter.{Letter}
use Rattle.collation_letters.specs.declared.symbols.Symbols.{Symbols}
use Rattle.collation_letters.specs.Letters.{begins_cluster, counted, flag_after, is_mark, keys_alone, HaveItemsAt, IsKnownAt, IsLetterAt, IsLetterOf}
use Rattle.collation_letters.specs.Clusters.{IsClusterAt, IsMarkOrNone}
use Rattle.collation_letters.specs.Symbols.{AreSymbolsAt, listed}
use Rattle.collation_letters.proofs.LetterApart.{starter-counted}
use Rattle.collation_letters.proofs.LetterLemmas.{known-with}
use Rattle.collation_letters.proofs.SymbolLemmas.{at-last, last-nil, listed-some}

some-or-none : (depth : ℕ) → ◌≡◌ {A = Option ℕ} (Some depth) None → ⊥
some-or-none depth h = cc

-- what is right everywhere is right at each depth
pub letter-held : (table : TableMap) (pattern : Compiled) (ps : List Point) (depth : ℕ) (l : Letter) → IsLetterOf table pattern ps l → IsLetterAt (Some depth) table pattern ps l
letter-held table pattern ps depth l h =
    record {
      closed = h.closed;
      known = λ known.
          let k = h.known known in
          record {
            some = k.some;
            in_order = k.in_order;
            count = λ none. absurd (some-or-none depth none);
            at_most = k.at_most;
            few = k.few;
            class = k.class;
            starter = k.starter;
            one = k.one;
            items = λ after possible.
                let has = k.items after possible in
                record {
                  items = has.items;
                  flag_is = has.flag_is;
                  symbols_are = at-last (Some depth) pattern.keys (keys_alone table pattern ps after) (counted l.role after (listed l.symbols)) has.symbols_are;
                };
          };
      plain = h.plain;
    }

-- nothing else speaks of units that reach into a letter
pub held-without_apart : (depth : Option ℕ) (table : TableMap) (pattern : Compiled) (ps : List Point) (l : Letter) → IsLetterAt depth table pattern ps l → IsLetterAt depth table pattern ps (record l { is_apart = false })
held-without_apart depth table pattern ps l h = record { closed = h.closed; known = λ some. known-with depth table pattern ps l false (h.known some); plain = h.plain }

-- a letter that is said to have more points
pub held-more : (table : TableMap) (pattern : Compiled) (ps : List Point) (depth : ℕ) (l k : Letter) → k.role ≡ l.role → k.is_closed ≡ l.is_closed → k.class ≡ l.class → l.points ≤ k.points → k.symbols ≡ l.symbols →
    IsLetterAt (Some depth) table pattern ps l → IsLetterAt (Some depth) table pattern ps k
held-more table pattern ps depth l k role closed class points symbols h =
    record {
      closed = λ yes. h.closed (sym closed ∙ yes);
      known = λ known.
          let of = h.known (λ steps. known (role ∙ steps)) in
          record {
            some = of.some;
            in_order = of.in_order;
            count = λ none. absurd (some-or-none depth none);
            at_most = let count = of.at_most in omega (arith, count, points);
            few = of.few;
            class = λ before last is. class ∙ of.class before last is;
            starter = λ no. of.starter (sym (ap is_mark role) ∙ no);
            one = λ yes. of.one (sym (ap is_mark role) ∙ yes);
            items = λ after possible.
                subst (λ r. HaveItemsAt (Some depth) table pattern ps after (begins_cluster r) (counted r after (listed k.symbols)) (flag_after r after)) (sym role)
                (subst (λ (s : Symbols). HaveItemsAt (Some depth) table pattern ps after (begins_cluster l.role) (counted l.role after (listed s)) (flag_after l.role after)) (sym symbols) (of.items after possible));
          };
      plain = λ plain.
          let is = h.plain (sym role ∙ plain) in (
            closed ∙ is.0,
            (ap (λ (s : Symbols). s.first) symbols ∙ is.1.0, ap (λ (s : Symbols). s.second) symbols ∙ is.1.1),
          );
    }

-- symbols are of some keys
pub keys-some : (depth : Option ℕ) (pattern keys : List Key) (ss : List ℕ) → 0 < length ss → AreSymbolsAt depth pattern keys ss → 0 < length keys
keys-some None pattern keys ss some h = let few = h.few in omega (arith, some, few)
keys-some (Some depth) pattern keys ss some (inl h) = let few = h.few in omega (arith, some, few)
keys-some (Some depth) pattern keys ss some (inr h) =
    let all = ap (λ (l : List Key). length l) h.keys_are ∙ length-append h.spent h.others in
    let more = h.some in omega (arith, all, more)

-- no key waits behind keys with these symbols, where so many of the pattern's first keys end what stands before
abbrev pub LeaveNone : List Key → ℕ → List ℕ → Type 0
LeaveNone pattern depth ss = (before keys : List Key) → AreSymbolsAt (Some depth) pattern keys ss → border pattern before ≡ depth → border pattern (before ++ keys) ≡ 0

-- the symbols of a spent letter
abbrev pub spent_symbols : Symbols
spent_symbols = record { first = 255; second = 255; third = 0 }

spent-symbols : (pattern keys : List Key) (depth : ℕ) (ss : List ℕ) → 0 < length ss → LeaveNone pattern depth ss → AreSymbolsAt (Some depth) pattern keys ss → AreSymbolsAt (Some depth) pattern keys (listed spent_symbols)
spent-symbols pattern keys depth ss some none h = inr (record {
  spent = keys;
  others = [];
  other_symbols = [];
  keys_are = sym (append-nil keys);
  some = keys-some (Some depth) pattern keys ss some h;
  none_waits = λ before at. none before keys h at;
  symbols_are = refl;
  others_are = last-nil pattern;
})

spent-known : (table : TableMap) (pattern : Compiled) (ps : List Point) (depth : ℕ) (l k : Letter) → is_mark l.role ≡ false → k.role ≡ l.role → k.class ≡ l.class → l.points ≤ k.points → k.symbols ≡ spent_symbols → l.symbols.third < 255 →
    LeaveNone pattern.keys depth (listed l.symbols) → IsKnownAt (Some depth) table pattern ps l → IsKnownAt (Some depth) table pattern ps k
spent-known table pattern ps depth l k starter role class points symbols some none h =
    record {
      some = h.some;
      in_order = h.in_order;
      count = λ none. absurd (some-or-none depth none);
      at_most = let count = h.at_most in omega (arith, count, points);
      few = h.few;
      class = λ before last is. class ∙ h.class before last is;
      starter = λ no. h.starter starter;
      one = λ yes. h.one (sym (ap is_mark role) ∙ yes);
      items = λ after possible.
          let has = h.items after possible in
          let keys = keys_alone table pattern ps after in
          let mine : AreSymbolsAt (Some depth) pattern.keys keys (listed l.symbols) = subst (λ ss. AreSymbolsAt (Some depth) pattern.keys keys ss) (starter-counted l.role after (listed l.symbols) starter) has.symbols_are in
          let its : AreSymbolsAt (Some depth) pattern.keys keys (listed k.symbols) =
          subst (λ (s : Symbols). AreSymbolsAt (Some depth) pattern.keys keys (listed s)) (sym symbols) (spent-symbols pattern.keys keys depth (listed l.symbols) (listed-some l.symbols some) none mine) in
          let of : HaveItemsAt (Some depth) table pattern ps after (begins_cluster l.role) (counted l.role after (listed k.symbols)) (flag_after l.role after) = record {
            items = has.items;
            flag_is = has.flag_is;
            symbols_are = subst (λ ss. AreSymbolsAt (Some depth) pattern.keys keys ss) (sym (starter-counted l.role after (listed k.symbols) starter)) its;
          } in
          subst (λ r. HaveItemsAt (Some depth) table pattern ps after (begins_cluster r) (counted r after (listed k.symbols)) (flag_after r after)) (sym role) of;
    }

pub spent-letter : (table : TableMap) (pattern : Compiled) (ps : List Point) (depth : ℕ) (l k : Letter) → is_mark l.role ≡ false → k.role ≡ l.role → k.is_closed ≡ l.is_closed → k.class ≡ l.class → l.points ≤ k.points → k.symbols ≡ spent_symbols →
    l.symbols.third < 255 → LeaveNone pattern.keys depth (listed l.symbols) → IsLetterAt (Some depth) table pattern ps l → IsLetterAt (Some depth) table pattern ps k
spent-letter table pattern ps depth l k starter role closed class points symbols some none h =
    record {
      closed = λ yes. h.closed (sym closed ∙ yes);
      known = λ known. spent-known table pattern ps depth l k starter role class points symbols some none (h.known (λ steps. known (role ∙ steps)));
      plain = λ plain. (
        closed ∙ (h.plain (sym role ∙ plain)).0,
        (ap (λ (s : Symbols). s.first) symbols, ap (λ (s : Symbols). s.second) symbols),
      );
    }

-- a cluster of which the letters of all and of the base are others, which are right too
pub cluster-with : (depth : Option ℕ) (table : TableMap) (pattern : Compiled) (ps : List Point) (it : Cluster) (letter base : Letter) → letter.is_closed ≡ it.letter.is_closed → base.is_closed ≡ it.base.is_closed →
    ((qs : List Point) → IsLetterAt depth table pattern qs it.letter → IsLetterAt depth table pattern qs letter) → ((qs : List Point) → IsLetterAt depth table pattern qs it.base → IsLetterAt depth table pattern qs base) → IsClusterAt depth table pattern ps it →
    IsClusterAt depth table pattern ps (record { letter = letter; base = base; before = it.before; last = it.last })
cluster-with depth table pattern ps it letter base closed closed_base of of_base h =
    record {
      first = h.first;
      before = h.before;
      last = h.last;
      all = h.all;
      letter = of ps h.letter;
      base = of_base h.first h.base;
      closed = closed ∙ h.closed ∙ sym closed_base;
      before_is = subst (λ b. IsMarkOrNone table pattern h.before it.before b) (sym closed_base) h.before_is;
      last_is = subst (λ b. IsMarkOrNone table pattern h.last it.last b) (sym closed_base) h.last_is;
    }
