use Rattle.std.proofs.Common.{◌∷◌, sym}
use Rattle.std.proofs.lemmas.Bool.{cond-true, cond-false, and_from, and_left, and_right, eq-eqb, ne_eqb, lt-ltb, le-ltb}
use Rattle.collation_elements.specs.Elements.{begins_cluster_with}
use Rattle.collation_elements.proofs.short.cluster_start.Goals.{else-first_point-via-then-first_point+then-first_point-eq0+else-e-gt0, else-first_point-via-then-first_point+else-first_point-eq0, else-first_point-via-else-first_point}
use Rattle.collation_elements.proofs.short.cluster_start.Goals as goal

pub returns-then-e-gt0 : goal.returns-then-e-gt0
returns-then-e-gt0 c = λ es.
    sym (cond-true (begins_cluster_with c.args.first_point (c.args.e ∷ es)) _ _
    (and_from _ _ (and_from _ _ c.if-first_point.true (eq-eqb _ 0 c.if-first_point-eq0.true)) (lt-ltb 0 _ c.if-e-gt0.true)))

pub returns-else-first_point : goal.returns-else-first_point
returns-else-first_point c = λ es.
    sym (cond-false (begins_cluster_with c.args.first_point (c.args.e ∷ es)) _ _
    (elim c.else-first_point.branch [
      | else-first_point-via-then-first_point+then-first_point-eq0+else-e-gt0 w ↦ and_right _ _ (le-ltb 0 _ w.if-e-gt0.false)
      | else-first_point-via-then-first_point+else-first_point-eq0 w ↦ and_left _ _ (and_right _ _ (ne_eqb _ 0 w.if-first_point-eq0.false))
      | else-first_point-via-else-first_point w ↦ and_left _ _ (and_left _ _ w.if-first_point.false)
    ]))
