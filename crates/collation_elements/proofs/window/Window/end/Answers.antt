use Rattle.std.proofs.Common.{true, List, refl, sym, ap, subst}
use Rattle.nfd_points.specs.declared.points.Point.{Point}
use Rattle.collation_table.specs.Table.{TableMap}
use Rattle.collation_elements.specs.Windows.{Held, WindowStandsFor}
use Rattle.collation_elements.proofs.window.Window.end.Goals as goal

stands_ended : (table : TableMap) (h : Held) (taken : List Point) (given : List (List Point)) → WindowStandsFor table h taken given
    → WindowStandsFor table (record h { has_ended = true }) taken given
stands_ended table h taken given stands =
    record { continues = λ more closed. stands.continues more (λ _. closed refl) }

pub returns-clause-ended : goal.returns-clause-ended
returns-clause-ended c = ap (λ (h : Held). record h { has_ended = true }) c.self.view_is

pub returns-clause-stands : goal.returns-clause-stands
returns-clause-stands c = λ table taken given stands.
    stands_ended table _ taken given (subst (λ (h : Held). WindowStandsFor table h taken given) (sym c.self.view_is) stands)
