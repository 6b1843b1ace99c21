-- How a weigher and a walk go over the units of a letter's characters.
use Rattle.std.proofs.Common.{◌≡◌, ◌≢◌, ◌∙◌, ℕ, false, List, ◌++◌, map, sym, ap, ap₂, subst}
use Rattle.nfd_points.specs.declared.points.Point.{Point}
use Rattle.nfd_points.specs.Points.{shifted}
use Rattle.nfd_points.specs.Laws.{PointsAreShifted}
use Rattle.collation_table.specs.Table.{TableMap}
use Rattle.collation_elements.specs.declared.keys.Key.{Key}
use Rattle.collation_elements.specs.declared.keys.Item.{Item}
use Rattle.collation_elements.specs.declared.settings.Strength.{Strength}
use Rattle.collation_elements.specs.declared.settings.Variable.{Variable}
use Rattle.collation_elements.specs.declared.weigher.Weigher.{Weigher}
use Rattle.collation_elements.specs.Items.{items as items_of}
use Rattle.collation_elements.specs.Units.{units}
use Rattle.collation_elements.specs.Weighing.{weigher, after_units, WeigherStandsFor}
use Rattle.collation_pattern.specs.Compiled.{Compiled}
use Rattle.collation_letters.specs.declared.letter.Letter.{Letter}
use Rattle.collation_letters.specs.declared.letter.Role.TheVariants.{Steps}
use Rattle.collation_letters.specs.Letters.{is_mark, flag_after, keys_alone, ordered_from, IsPossible, IsLetter}
use Rattle.collation_letters.specs.Symbols.{AreLastSymbols, listed}
use Rattle.collation_walk.specs.declared.matching.Matcher.{Matcher}
use Rattle.collation_walk.specs.Walked.{HasWalkedOn}
use Rattle.collation_walk.specs.Walks.{WalksOn, letter_items}
use Rattle.collation_letters.proofs.CharacterLemmas.{ordered_is_shifted}
use Rattle.collation_letters.proofs.JoiningLemmas.{after-plain}
use Rattle.collation_letters.proofs.LetterApart.{starter-counted}
use Rattle.collation_letters.proofs.WeigherLaw.{WeighersGoOn}
pub use Rattle.collation_letters.proofs.LetterApart.{plain-known, taken-known, next-of_letter}

-- in non-ignorable weighting a weigher never stands behind a variable element
possible : (table : TableMap) (w : Weigher) (us : List (List Point)) (given : List Item) → WeigherStandsFor table w us given → IsPossible w.variable w.after_variable
possible table w us given h = λ plain. h.after ∙ ap (λ v. after_units table v false us) plain ∙ after-plain table false us

pub walked-on : WeighersGoOn → PointsAreShifted → (table : TableMap) (pattern : Compiled) (m m' : Matcher) (start : ℕ) (cs : List ℕ) (l : Letter) (found : List (ℕ × ℕ)) → l.role ≢ Steps →
    is_mark l.role ≡ false → IsLetter table pattern cs l → m'.weigher ≡ weigher pattern.strength pattern.variable (flag_after l.role m.weigher.after_variable) →
    ((keys : List Key) → AreLastSymbols pattern.keys keys (listed l.symbols) → WalksOn pattern m.walk m'.walk (letter_items l.role start keys) found) →
    HasWalkedOn table pattern m m' (units table (ordered_from start cs)) found
walked-on law shift table pattern m m' start cs l found known starter h made walks = λ before ranges on.
    let w = m.weigher in
    let k = h.known known in
    let S : Strength = pattern.strength in
    let V : Variable = pattern.variable in
    let flag = w.after_variable in
    let may : IsPossible V flag = subst (λ (v : Variable). IsPossible v flag) on.variable (possible table w before on.items on.weighed) in
    let has = k.items flag may in
    let us = units table (ordered_from start cs) in
    let here : us ≡ units table (map (shifted start) (ordered_from 0 cs)) = ap (units table) (ordered_is_shifted shift start cs) in
    let given : List Item = letter_items l.role start (keys_alone table pattern (ordered_from 0 cs) flag) in
    let gives : items_of table w.strength w.variable flag us ≡ given =
    ap₂ (λ (s : Strength) (v : Variable). items_of table s v flag us) on.strength on.variable ∙ ap (items_of table S V flag) here ∙ has.items start in
    let leaves : after_units table w.variable flag us ≡ flag_after l.role flag =
    ap (λ (v : Variable). after_units table v flag us) on.variable ∙ ap (after_units table V flag) here ∙ has.flag_is start in
    let same : weigher w.strength w.variable (flag_after l.role flag) ≡ m'.weigher = ap₂ (λ (s : Strength) (v : Variable). weigher s v (flag_after l.role flag)) on.strength on.variable ∙ sym made in
    let symbols = subst (λ ss. AreLastSymbols pattern.keys (keys_alone table pattern (ordered_from 0 cs) flag) ss) (starter-counted l.role flag (listed l.symbols) starter) has.symbols_are in
    record {
      items = on.items ++ given;
      weighed = subst (λ (v : Weigher). WeigherStandsFor table v (before ++ us) (on.items ++ given)) same (law table w before us on.items given (flag_after l.role flag) gives leaves on.weighed);
      walked = walks (keys_alone table pattern (ordered_from 0 cs) flag) symbols on.items ranges on.walked;
      strength = ap (λ v. v.strength) made;
      variable = ap (λ v. v.variable) made;
    }
