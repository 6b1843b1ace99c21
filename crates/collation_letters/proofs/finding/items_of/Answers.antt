use Rattle.std.proofs.Common.{◌∙◌, true, false, List, refl, sym, subst, ap₂}
use Rattle.std.proofs.lemmas.Bool.{false≢true}
use Rattle.nfd_points.specs.declared.points.Point.{Point}
use Rattle.collation_table.specs.Table.{TableMap}
use Rattle.collation_elements.specs.declared.settings.Strength.{Strength}
use Rattle.collation_elements.specs.declared.settings.Variable.{Variable}
use Rattle.collation_elements.specs.declared.settings.Variable.TheVariants.{NonIgnorable, Shifted}
use Rattle.collation_elements.specs.declared.character.CharacterItems.{CharacterItems}
use Rattle.collation_elements.specs.declared.weigher.Weigher.{Weigher}
use Rattle.collation_elements.specs.CharacterItems.{AreItemsOfPoints, AreSameBehindVariable}
use Rattle.collation_elements.specs.Weighing.{weigher}
use Rattle.collation_letters.specs.Letters.{IsPossible}
use Rattle.collation_letters.proofs.finding.items_of.Goals as goal

behind-variable : (T : TableMap) (s : Strength) (v : Variable) (ps : List Point) (it : CharacterItems) → IsPossible v true → AreSameBehindVariable T ps → AreItemsOfPoints T (weigher s v false) ps it → AreItemsOfPoints T (weigher s v true) ps it
behind-variable T s NonIgnorable ps it possible same are = absurd (false≢true (sym (possible refl)))
behind-variable T s Shifted ps it possible same are = same s it are

pub returns-then-begin_anew-clause-after : goal.returns-then-begin_anew-clause-after
returns-then-begin_anew-clause-after g c = λ possible.
    let T = g.W.Weights.table c.args.table.now in
    let w = c.restore-plain.ensures.value ∙ ap₂ (λ (s : Strength) (v : Variable). weigher s v false) c.strength-strength.ensures c.variable-variable.ensures in
    behind-variable T c.args.pattern.now.strength c.args.pattern.now.variable c.args.points.now c.in_ok-plain.plain possible (c.begin_anew.ensures.anew c.if-begin_anew.true)
    (subst (λ (w : Weigher). AreItemsOfPoints T w c.args.points.now c.in_ok-plain.plain) w c.in_ok-plain.ensures.items)
