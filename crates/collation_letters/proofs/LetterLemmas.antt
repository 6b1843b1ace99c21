-- What is found of a character's points is its letter.
use Rattle.std.specs.Option.{IfSome}
use Rattle.std.specs.List.{All}
use Rattle.std.proofs.Common.{◌≡◌, ◌≢◌, ◌∙◌, ℕ, ◌≤◌, Bool, true, false, cond, List, [], ◌∷◌, ◌++◌, length, map, Option, Some, None, refl, sym, ap, ap₂, subst, arith}
use Rattle.std.proofs.lemmas.List.Elements.{All-map}
use Rattle.nfd_points.specs.declared.limits.TheConstants.{MOST_WAITING}
use Rattle.nfd_points.specs.declared.points.Point.{Point}
use Rattle.nfd_points.specs.Points.{decomposition, points_of, points_from, shifted, is_in_order, begins_with_starter}
use Rattle.nfd_points.specs.Laws.{DecompositionsAreShort}
use Rattle.collation_table.specs.Table.{TableMap, BeginsNoLongerString}
use Rattle.collation_elements.specs.declared.keys.Key.{Key}
use Rattle.collation_elements.specs.declared.keys.Item.TheVariants.{ClusterStart, Element}
use Rattle.collation_elements.specs.declared.character.CharacterItems.{CharacterItems}
use Rattle.collation_elements.specs.CharacterItems.{AreItemsOfPoints, character_keys}
use Rattle.collation_elements.specs.Units.{units}
use Rattle.collation_elements.specs.Items.{items as items_of}
use Rattle.collation_elements.specs.ItemParts.{item_keys}
use Rattle.collation_elements.specs.Weighing.{weigher, after_units}
use Rattle.collation_pattern.specs.Compiled.{Compiled}
use Rattle.collation_letters.specs.declared.letter.Letter.{Letter}
use Rattle.collation_letters.specs.declared.letter.Role.{Role}
use Rattle.collation_letters.specs.declared.letter.Role.TheVariants.{Steps, Plain, Base, VariableBase, Silent, PrimaryMark, Mark}
use Rattle.collation_letters.specs.Symbols.{AreLastSymbols, AreSymbolsAt, listed}
use Rattle.std.proofs.lemmas.Bool.{false≢true}
use Rattle.collation_letters.specs.Letters.{begins_cluster, is_mark, flag_after, counted, here, ordered_from, keys_alone, AreClosed, AreApart, IsPossible, HaveItems, HaveItemsAt, IsKnown, IsKnownAt, IsPlainLetter, IsLetterAt, IsLetterOf, IsLetter}
use Rattle.collation_letters.specs.Finding.{IsLastClass, IsAs, HasRole}
use Rattle.collation_letters.proofs.ApartLemmas.{many_at}
use Rattle.collation_letters.proofs.SymbolLemmas.{last-nil}

-- ---- the points of one character

pub few-points : DecompositionsAreShort → (start c : ℕ) → length (points_of start c) ≤ MOST_WAITING
few-points law start c =
    let few = (law c).1 in
    let same = many_at start true (decomposition c) in omega (arith, few, same)

pub some-points : DecompositionsAreShort → (start c : ℕ) → 1 ≤ length (points_of start c)
some-points law start c =
    let some = (law c).0 in
    let same = many_at start true (decomposition c) in omega (arith, some, same)

-- ---- units

abbrev pub AloneLaw : Type 0
AloneLaw =
    (table : TableMap) (ps more : List Point) → All (λ p. BeginsNoLongerString table p.cp) ps → units table (ps ++ more) ≡ units table ps ++ units table more

pub closed-alone : AloneLaw → (table : TableMap) (ps : List Point) → All (λ p. BeginsNoLongerString table p.cp) ps → AreClosed table ps
closed-alone law table ps h = λ start more. law table (here start ps) more (All-map (λ p. BeginsNoLongerString table p.cp) (shifted start) ps h)

-- ---- items

item_keys-map : (ks : List Key) → item_keys (map (λ key. Element key) ks) ≡ ks
item_keys-map [] = refl
item_keys-map (k ∷ ks) = ap (λ (rest : List Key). k ∷ rest) (item_keys-map ks)

keys-given : (begins : Bool) (start : ℕ) (ks : List Key) → item_keys (cond begins (ClusterStart start ∷ []) [] ++ map (λ key. Element key) ks) ≡ ks
keys-given true start ks = item_keys-map ks
keys-given false start ks = item_keys-map ks

-- points with these items
pub have-keys : (depth : Option ℕ) (table : TableMap) (pattern : Compiled) (ps : List Point) (after begins : Bool) (ks : List Key) (ss : List ℕ) (flag : Bool) →
    ((start : ℕ) → items_of table pattern.strength pattern.variable after (units table (here start ps)) ≡ cond begins (ClusterStart start ∷ []) [] ++ map (λ key. Element key) ks) →
    ((start : ℕ) → after_units table pattern.variable after (units table (here start ps)) ≡ flag) → AreSymbolsAt depth pattern.keys ks ss → HaveItemsAt depth table pattern ps after begins ss flag
have-keys depth table pattern ps after begins ks ss flag items flag_is symbols =
    let same : keys_alone table pattern ps after ≡ ks = ap item_keys (items 0) ∙ keys-given begins 0 ks in
    record {
      items = λ start. items start ∙ ap (λ (ls : List Key). cond begins (ClusterStart start ∷ []) [] ++ map (λ key. Element key) ls) (sym same);
      flag_is = flag_is;
      symbols_are = subst (λ (ls : List Key). AreSymbolsAt depth pattern.keys ls ss) (sym same) symbols;
    }

counted-symbols : (pattern ks : List Key) (ss : List ℕ) (role : Role) (after : Bool) → AreLastSymbols pattern ks ss → AreLastSymbols pattern (counted role after ks) (counted role after ss)
counted-symbols pattern ks ss Steps after h = h
counted-symbols pattern ks ss Plain after h = h
counted-symbols pattern ks ss Base after h = h
counted-symbols pattern ks ss VariableBase after h = h
counted-symbols pattern ks ss Silent after h = h
counted-symbols pattern ks ss PrimaryMark after h = h
counted-symbols pattern ks ss Mark false h = h
counted-symbols pattern ks ss Mark true h = last-nil pattern

have-items : (table : TableMap) (pattern : Compiled) (ps : List Point) (plain it : CharacterItems) (role : Role) (after : Bool) (ss : List ℕ) → IsAs plain role after it →
    AreItemsOfPoints table (weigher pattern.strength pattern.variable after) ps it → AreLastSymbols pattern.keys (character_keys plain) ss →
    HaveItems table pattern ps after (begins_cluster role) (counted role after ss) (flag_after role after)
have-items table pattern ps plain it role after ss is are symbols =
    have-keys None table pattern ps after (begins_cluster role) (counted role after (character_keys plain)) (counted role after ss) (flag_after role after)
    (λ start. are.0 start ∙ ap₂ (λ b (ks : List Key). cond b (ClusterStart start ∷ []) [] ++ map (λ key. Element key) ks) is.0 is.1.1)
    (λ start. are.1 start ∙ is.1.0) (counted-symbols pattern.keys (character_keys plain) ss role after symbols)

-- what is known of the items where the flag is this
abbrev pub HasItems : TableMap → Compiled → List Point → CharacterItems → Option CharacterItems → Type 0
HasItems table pattern ps plain after =
    AreItemsOfPoints table (weigher pattern.strength pattern.variable false) ps plain
    × (IsPossible pattern.variable true → IfSome after (AreItemsOfPoints table (weigher pattern.strength pattern.variable true) ps) × (after ≢ None))

items_at : (table : TableMap) (pattern : Compiled) (ps : List Point) (plain : CharacterItems) (after : Option CharacterItems) (role : Role) (ss : List ℕ) (flag : Bool) → HasItems table pattern ps plain after →
    HasRole ps plain after role → AreLastSymbols pattern.keys (character_keys plain) ss → IsPossible pattern.variable flag →
    HaveItems table pattern ps flag (begins_cluster role) (counted role flag ss) (flag_after role flag)
items_at table pattern ps plain after role ss false are has symbols possible = have-items table pattern ps plain plain role false ss has.1.1.0 are.0 symbols
items_at table pattern ps plain (Some it) role ss true are has symbols possible =
    have-items table pattern ps plain it role true ss (has.1.1.1 it refl) (are.1 possible).0 symbols
items_at table pattern ps plain None role ss true are has symbols possible = absurd ((are.1 possible).1 refl)

-- ---- letters

pub letter-at : (table : TableMap) (pattern : Compiled) (cs : List ℕ) (ps : List Point) (l : Letter) → ps ≡ ordered_from 0 cs → l.role ≢ Plain → (l.is_closed ≡ true → AreClosed table ps) →
    (l.is_apart ≡ true → AreApart table (points_from 0 cs)) → (l.role ≢ Steps → IsKnown table pattern ps l) → IsLetter table pattern cs l
letter-at table pattern cs ps l same other closed apart known =
    record {
      closed = λ yes. subst (AreClosed table) same (closed yes);
      apart = apart;
      known = λ some. subst (λ (qs : List Point). IsKnown table pattern qs l) same (known some);
      plain = λ yes. absurd (other yes);
    }

pub known-at : (table : TableMap) (pattern : Compiled) (ps : List Point) (l : Letter) (plain : CharacterItems) (after : Option CharacterItems) → 1 ≤ length ps → length ps ≤ MOST_WAITING → is_in_order ps ≡ true →
    l.points ≡ length ps → IsLastClass ps l.class → HasItems table pattern ps plain after → HasRole ps plain after l.role → AreLastSymbols pattern.keys (character_keys plain) (listed l.symbols) →
    IsKnown table pattern ps l
known-at table pattern ps l plain after some few in_order count class are has symbols =
    record {
      some = some;
      in_order = in_order;
      count = λ everywhere. count;
      at_most = omega (arith, count);
      few = few;
      class = class;
      starter = has.0;
      one = has.1.0;
      items = λ flag possible. items_at table pattern ps plain after l.role (listed l.symbols) flag are has symbols possible;
    }

-- ---- how they begin

apart-begins : (table : TableMap) (ps : List Point) → AreApart table ps → begins_with_starter ps ≡ true
apart-begins table [] h = refl
apart-begins table (p ∷ ps) h = (h p refl).0

-- ---- a base that is plain

base-is_known : (r : Role) → r ≡ Base → r ≢ Steps
base-is_known r base = λ steps. differ (sym base ∙ steps)
  where
    differ : ◌≡◌ {A = Role} Base Steps → ⊥
    differ h = cc

plain-known : (depth : Option ℕ) (table : TableMap) (pattern : Compiled) (ps : List Point) (l : Letter) → l.role ≡ Base → IsKnownAt depth table pattern ps l → IsKnownAt depth table pattern ps (record l { role = Plain })
plain-known depth table pattern ps l base k =
    record {
      some = k.some;
      in_order = k.in_order;
      count = k.count;
      at_most = k.at_most;
      few = k.few;
      class = k.class;
      starter = λ no. k.starter (ap is_mark base ∙ no);
      one = λ yes. absurd (false≢true yes);
      items = λ after possible.
          subst (λ r. HaveItemsAt depth table pattern ps after (begins_cluster r) (counted r after (listed l.symbols)) (flag_after r after)) base (k.items after possible);
    }

pub letter-plain : (table : TableMap) (pattern : Compiled) (cs : List ℕ) (l : Letter) → l.role ≡ Base → IsPlainLetter l → IsLetter table pattern cs l → IsLetter table pattern cs (record l { role = Plain })
letter-plain table pattern cs l base plain h =
    record {
      closed = h.closed;
      apart = h.apart;
      known = λ some. plain-known None table pattern (ordered_from 0 cs) l base (h.known (base-is_known l.role base));
      plain = λ yes. plain;
    }

-- the same of points
pub points-plain : (depth : Option ℕ) (table : TableMap) (pattern : Compiled) (ps : List Point) (l : Letter) → l.role ≡ Base → IsPlainLetter l → IsLetterAt depth table pattern ps l → IsLetterAt depth table pattern ps (record l { role = Plain })
points-plain depth table pattern ps l base plain h =
    record {
      closed = h.closed;
      known = λ some. plain-known depth table pattern ps l base (h.known (base-is_known l.role base));
      plain = λ yes. plain;
    }

-- nothing else speaks of units that reach into a letter
pub known-with : (depth : Option ℕ) (table : TableMap) (pattern : Compiled) (ps : List Point) (l : Letter) (apart : Bool) → IsKnownAt depth table pattern ps l → IsKnownAt depth table pattern ps (record l { is_apart = apart })
known-with depth table pattern ps l apart k = record { some = k.some; in_order = k.in_order; count = k.count; at_most = k.at_most; few = k.few; class = k.class; starter = k.starter; one = k.one; items = k.items }

pub letter-without_apart : (table : TableMap) (pattern : Compiled) (cs : List ℕ) (l : Letter) → IsLetter table pattern cs l → IsLetter table pattern cs (record l { is_apart = false })
letter-without_apart table pattern cs l h =
    record {
      closed = h.closed;
      apart = λ yes. absurd (false≢true yes);
      known = λ some. known-with None table pattern (ordered_from 0 cs) l false (h.known some);
      plain = h.plain;
    }

-- what is said of them comes to the letter of the points
pub letter-with : (table : TableMap) (pattern : Compiled) (cs : List ℕ) (ps : List Point) (l : Letter) (apart : Bool) → ps ≡ ordered_from 0 cs → (apart ≡ true → AreApart table (points_from 0 cs)) → IsLetterOf table pattern ps l →
    IsLetter table pattern cs (record l { is_apart = apart })
letter-with table pattern cs ps l apart same begins h =
    record {
      closed = λ yes. subst (AreClosed table) same (h.closed yes);
      apart = begins;
      known = λ some. known-with None table pattern (ordered_from 0 cs) l apart (subst (λ (qs : List Point). IsKnown table pattern qs l) same (h.known some));
      plain = h.plain;
    }
