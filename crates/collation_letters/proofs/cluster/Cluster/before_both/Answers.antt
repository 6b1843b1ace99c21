use Rattle.std.proofs.Common.{◌≡◌, ◌∙◌, false, List, [], ◌∷◌, ◌++◌, refl, sym, ap, ap₂, subst, arith}
use Rattle.nfd_points.specs.declared.points.Point.{Point}
use Rattle.nfd_points.specs.Points.{ordered}
use Rattle.collation_table.specs.Table.{ContinuesNoString}
use Rattle.collation_letters.specs.declared.cluster.Cluster.{Cluster}
use Rattle.collation_letters.specs.Clusters.{IsClusterAt}
use Rattle.collation_letters.proofs.ClusterLemmas.{before-both, is-one}
use Rattle.collation_letters.proofs.JoiningLemmas.{base-known, mark-known}
use Rattle.collation_letters.proofs.cluster.Cluster.before_both.Goals as goal

pub returns : goal.returns
returns c = λ depth table pattern ps q free h hm.
    let last = h.last_is.one c.requires.last in
    let before = h.before_is.one c.requires.before in
    let p = last.0 in
    let b = before.0 in
    let closed = c.in_ok-base.ensures.closed in
    let free_b : c.in_ok-base.base.is_closed ≡ false → ContinuesNoString table b.cp = λ no. h.before_is.free (sym closed ∙ no) b before.1 in
    let free_p : c.in_ok-base.base.is_closed ≡ false → ContinuesNoString table p.cp = λ no. h.last_is.free (sym closed ∙ no) p last.1 in
    let base = c.in_ok-base.ensures.points depth table pattern h.first q free h.base hm in
    let inner = c.in_ok-inner.ensures.points depth table pattern (h.first ++ q ∷ []) b free_b base before.2 in
    let letter = c.in_ok-letter.ensures.points depth table pattern ((h.first ++ q ∷ []) ++ b ∷ []) p (λ no. free_p (sym c.in_ok-inner.ensures.closed ∙ no)) inner last.2 in
    let in_order = (letter.known (base-known c.in_ok-letter.letter.role c.in_ok-letter.ensures.begins)).in_order in
    let class = (hm.known (mark-known c.args.mark.role c.requires.mark)).class [] q refl in
    let class_of_last = (last.2.known (mark-known c.args.self.last.role c.requires.last)).class [] p refl in
    let class_before = (before.2.known (mark-known c.args.self.before.role c.requires.before)).class [] b refl in
    let order : ordered (ps ++ q ∷ []) ≡ ((h.first ++ q ∷ []) ++ b ∷ []) ++ p ∷ [] =
    ap (λ (l : List Point). ordered (l ++ q ∷ [])) (h.all ∙ ap₂ (λ (l k : List Point). (h.first ++ l) ++ k) before.1 last.1)
    ∙ before-both h.first b p q (omega (arith, class, c.requires.some)) (omega (arith, class, class_before, c.requires.below)) (omega (arith, class, class_of_last, c.requires.below_last)) in_order in
    let it : Cluster = record { letter = c.in_ok-letter.letter; base = c.in_ok-base.base; before = c.args.self.before; last = c.args.self.last } in
    subst (λ (l : List Point). IsClusterAt depth table pattern l it) (sym order)
    (record {
      first = h.first ++ q ∷ [];
      before = b ∷ [];
      last = p ∷ [];
      all = refl;
      letter = letter;
      base = base;
      closed = c.in_ok-letter.ensures.closed ∙ c.in_ok-inner.ensures.closed;
      before_is = is-one table pattern b c.args.self.before c.in_ok-base.base.is_closed c.requires.before before.2 free_b;
      last_is = is-one table pattern p c.args.self.last c.in_ok-base.base.is_closed c.requires.last last.2 free_p;
    })
