use Rattle.std.proofs.Common.{◌≡◌, true, false, List, ◌++◌, ap, sym, ◌∙◌}
use Rattle.nfd_points.specs.declared.points.Point.{Point}
use Rattle.collation_table.specs.Table.{TableMap}
use Rattle.collation_elements.specs.Units.{units}
use Rattle.collation_elements.specs.Windows.{Held, WindowStandsFor}
use Rattle.collation_elements.proofs.window.Window.restore.Goals as goal

not_ended : (h : Held) → h.has_ended ≡ false → h.has_ended ≡ true → ⊥
not_ended h unended ended = cc

-- what a window holds that was not ended is enough
stands_as : (table : TableMap) (read h : Held) (taken : List Point) (given : List (List Point)) → WindowStandsFor table read taken given → read.has_ended ≡ false
    → read.points ≡ h.points → WindowStandsFor table h taken given
stands_as table read h taken given stands unended same =
    record { continues = λ more _. stands.continues more (λ yes. absurd (not_ended read unended yes)) ∙ ap (λ ps. given ++ units table (ps ++ more)) same }

pub returns-clause-points : goal.returns-clause-points
returns-clause-points c =
    c.push_all.ensures.points ∙ ap (λ ps. record c.args.self.now { points = ps ++ c.args.points.now }) c.requires.empty

pub returns-clause-stands_for : goal.returns-clause-stands_for
returns-clause-stands_for c = λ table read taken given stands unended same.
    stands_as table read c.push_all.new.self taken given stands unended
    (same ∙ sym (ap (λ (h : Held). h.points) (c.push_all.ensures.points ∙ ap (λ ps. record c.args.self.now { points = ps ++ c.args.points.now }) c.requires.empty)))
