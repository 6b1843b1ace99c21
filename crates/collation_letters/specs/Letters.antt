-- What a letter says of the characters that it stands for, wherever they stand.
use Rattle.std.specs.Prelude.{◌≡◌, ◌≢◌, ℕ, ◌≤◌, Bool, true, false, List, [], ◌∷◌, ◌++◌, map, length, slice_get, if◌then◌else◌, Option, None}
use Rattle.std.specs.Option.{ForSome}
use Rattle.nfd_points.specs.declared.limits.TheConstants.{MOST_WAITING}
use Rattle.nfd_points.specs.declared.points.Point.{Point}
use Rattle.nfd_points.specs.Points.{points_from, ordered, shifted, is_starter, begins_with_starter, is_in_order}
use Rattle.collation_table.specs.Table.{TableMap, ContinuesNoString}
use Rattle.collation_elements.specs.declared.keys.Key.{Key}
use Rattle.collation_elements.specs.declared.keys.Item.{Item}
use Rattle.collation_elements.specs.declared.keys.Item.TheVariants.{ClusterStart, Element}
use Rattle.collation_elements.specs.declared.settings.Variable.{Variable}
use Rattle.collation_elements.specs.declared.settings.Variable.TheVariants.{NonIgnorable}
use Rattle.collation_elements.specs.Units.{units}
use Rattle.collation_elements.specs.Items.{items as items_of}
use Rattle.collation_elements.specs.ItemParts.{item_keys}
use Rattle.collation_elements.specs.Weighing.{after_units}
use Rattle.collation_pattern.specs.Compiled.{Compiled}
use Rattle.collation_letters.specs.declared.letter.Letter.{Letter}
use Rattle.collation_letters.specs.declared.letter.Role.{Role}
use Rattle.collation_letters.specs.declared.letter.Role.TheVariants.{Steps, Plain, Base, VariableBase, Silent, PrimaryMark, Mark}
use Rattle.collation_letters.specs.declared.symbols.TheConstants.{NO_SYMBOL}
use Rattle.collation_letters.specs.Symbols.{AreSymbolsAt, listed}

-- ---- roles

abbrev pub begins_cluster : Role → Bool
begins_cluster Steps = false
begins_cluster Plain = true
begins_cluster Base = true
begins_cluster VariableBase = true
begins_cluster Silent = false
begins_cluster PrimaryMark = false
begins_cluster Mark = false

abbrev pub is_mark : Role → Bool
is_mark Steps = false
is_mark Plain = false
is_mark Base = false
is_mark VariableBase = false
is_mark Silent = false
is_mark PrimaryMark = true
is_mark Mark = true

-- Whether, after characters of the role, the last element that was variable or primary was variable, where `after` says so of
-- what stands before them.
abbrev pub flag_after : Role → Bool → Bool
flag_after Steps after = after
flag_after Plain after = false
flag_after Base after = false
flag_after VariableBase after = true
flag_after Silent after = after
flag_after PrimaryMark after = false
flag_after Mark after = after

-- what counts of what characters of the role have: behind a variable element nothing of a mark without a primary weight
abbrev pub counted : {A : Type 0} → Role → Bool → List A → List A
counted Mark true xs = []
counted role after xs = xs

-- ---- characters by themselves, the first of which stands at an offset

-- their points in canonical order
abbrev pub ordered_from : ℕ → List ℕ → List Point
ordered_from start cs = ordered (points_from start cs)

abbrev pub here : ℕ → List Point → List Point
here start ps = map (shifted start) ps

-- no unit reaches from these points to what follows
abbrev pub AreClosed : TableMap → List Point → Type 0
AreClosed table ps = (start : ℕ) (more : List Point) → units table (here start ps ++ more) ≡ units table (here start ps) ++ units table more

-- no unit reaches into them: the first is a starter that stands in no mapped string after the first place
abbrev pub AreApart : TableMap → List Point → Type 0
AreApart table ps = ForSome (slice_get ps 0) (λ p. (is_starter p ≡ true) × ContinuesNoString table p.cp)

-- in non-ignorable weighting no element counts as variable
abbrev pub IsPossible : Variable → Bool → Type 0
IsPossible variable after = variable ≡ NonIgnorable → after ≡ false

-- the keys of these points by themselves, where `after` says whether the last element before them that was variable or primary was
-- variable
abbrev pub keys_alone : TableMap → Compiled → List Point → Bool → List Key
keys_alone table pattern ps after = item_keys (items_of table pattern.strength pattern.variable after (units table (here 0 ps)))

-- The items of these points by themselves, where `after` says whether the last element before them that was variable or primary was
-- variable: a cluster begins or not, and keys with these symbols follow; and that flag after them. The symbols are right everywhere, or at a
-- depth: where so many of the pattern's first keys end what stands before.
pub record HaveItemsAt (depth : Option ℕ) (table : TableMap) (pattern : Compiled) (ps : List Point) (after begins : Bool) (symbols : List ℕ) (flag : Bool) : Type 0 where
  pub items : (start : ℕ) → let begun : List Item = ClusterStart start ∷ [] in
      items_of table pattern.strength pattern.variable after (units table (here start ps)) ≡ (if begins then begun else []) ++ map (λ key. Element key) (keys_alone table pattern ps after)
  pub flag_is : (start : ℕ) → after_units table pattern.variable after (units table (here start ps)) ≡ flag
  pub symbols_are : AreSymbolsAt depth pattern.keys (keys_alone table pattern ps after) symbols

abbrev pub HaveItems : TableMap → Compiled → List Point → Bool → Bool → List ℕ → Bool → Type 0
HaveItems table pattern ps after begins symbols flag = HaveItemsAt None table pattern ps after begins symbols flag

-- ---- letters

-- What a letter says that is not left to the steps: the points of the characters are in canonical order, as many as it says, or at a
-- depth no more, too few for a run of non-starters that is a fault, the last of this class; they begin with a starter, or are the one point of a mark; and their
-- items are as its role and its symbols say.
pub record IsKnownAt (depth : Option ℕ) (table : TableMap) (pattern : Compiled) (ps : List Point) (l : Letter) : Type 0 where
  pub some : 1 ≤ length ps
  pub in_order : is_in_order ps ≡ true
  pub count : depth ≡ None → l.points ≡ length ps
  pub at_most : length ps ≤ l.points
  pub few : length ps ≤ MOST_WAITING
  pub class : (before : List Point) (last : Point) → ps ≡ before ++ last ∷ [] → l.class ≡ last.ccc
  pub starter : is_mark l.role ≡ false → begins_with_starter ps ≡ true
  pub one : is_mark l.role ≡ true → length ps ≡ 1
  pub items : (after : Bool) → IsPossible pattern.variable after
      → HaveItemsAt depth table pattern ps after (begins_cluster l.role) (counted l.role after (listed l.symbols)) (flag_after l.role after)

abbrev pub IsKnown : TableMap → Compiled → List Point → Letter → Type 0
IsKnown table pattern ps l = IsKnownAt None table pattern ps l

-- the role of most letters says besides that no unit reaches out of the characters, and that they have one symbol or none
abbrev pub IsPlainLetter : Letter → Type 0
IsPlainLetter l = (l.is_closed ≡ true) × ((l.symbols.first ≡ NO_SYMBOL) × (l.symbols.second ≡ NO_SYMBOL))

-- The letter of points, everywhere or at a depth. It says nothing of units that reach into them.
pub record IsLetterAt (depth : Option ℕ) (table : TableMap) (pattern : Compiled) (ps : List Point) (l : Letter) : Type 0 where
  pub closed : l.is_closed ≡ true → AreClosed table ps
  pub known : l.role ≢ Steps → IsKnownAt depth table pattern ps l
  pub plain : l.role ≡ Plain → IsPlainLetter l

abbrev pub IsLetterOf : TableMap → Compiled → List Point → Letter → Type 0
IsLetterOf table pattern ps l = IsLetterAt None table pattern ps l

-- The letter of some characters, in the order in which they stand in a text: it is that of their points in canonical order.
pub record IsLetter (table : TableMap) (pattern : Compiled) (cs : List ℕ) (l : Letter) : Type 0 where
  pub closed : l.is_closed ≡ true → AreClosed table (ordered_from 0 cs)
  pub apart : l.is_apart ≡ true → AreApart table (points_from 0 cs)
  pub known : l.role ≢ Steps → IsKnown table pattern (ordered_from 0 cs) l
  pub plain : l.role ≡ Plain → IsPlainLetter l

-- the letter is a cluster out of which no unit reaches, with a last key that the pattern does not have
abbrev pub IsClean : Letter → Type 0
IsClean l = (l.role ≡ Plain) × (l.symbols.third ≡ 0)
