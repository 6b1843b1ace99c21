use Rattle.std.proofs.Common.{◌≡◌, ◌∙◌, false, List, [], ◌∷◌, ◌++◌, refl, sym, ap, subst, arith}
use Rattle.nfd_points.specs.declared.points.Point.{Point}
use Rattle.nfd_points.specs.Points.{ordered}
use Rattle.collation_table.specs.Table.{ContinuesNoString}
use Rattle.collation_letters.specs.declared.cluster.Cluster.{Cluster}
use Rattle.collation_letters.specs.Clusters.{IsClusterAt}
use Rattle.collation_letters.proofs.ClusterLemmas.{before-last, is-one}
use Rattle.collation_letters.proofs.JoiningLemmas.{base-known, mark-known}
use Rattle.collation_letters.proofs.cluster.Cluster.before_last.Goals as goal

pub returns : goal.returns
returns c = λ depth table pattern ps q free h hm.
    let front = h.first ++ h.before in
    let last = h.last_is.one c.requires.last in
    let p = last.0 in
    let closed = c.in_ok-base.ensures.closed in
    let free_q : c.in_ok-base.base.is_closed ≡ false → ContinuesNoString table q.cp = λ no. free (sym closed ∙ no) in
    let free_p : c.in_ok-base.base.is_closed ≡ false → ContinuesNoString table p.cp = λ no. h.last_is.free (sym closed ∙ no) p last.1 in
    let base = c.in_ok-base.ensures.letter depth table pattern h.first h.before h.base h.before_is in
    let inner = c.in_ok-inner.ensures.points depth table pattern front q free_q base hm in
    let letter = c.in_ok-letter.ensures.points depth table pattern (front ++ q ∷ []) p (λ no. free_p (sym c.in_ok-inner.ensures.closed ∙ no)) inner last.2 in
    let in_order = (letter.known (base-known c.in_ok-letter.letter.role c.in_ok-letter.ensures.begins)).in_order in
    let class = (hm.known (mark-known c.args.mark.role c.requires.mark)).class [] q refl in
    let class_of_last = (last.2.known (mark-known c.args.self.last.role c.requires.last)).class [] p refl in
    let order : ordered (ps ++ q ∷ []) ≡ (front ++ q ∷ []) ++ p ∷ [] =
    ap (λ (l : List Point). ordered (l ++ q ∷ [])) (h.all ∙ ap (λ (l : List Point). front ++ l) last.1)
    ∙ before-last front p q (omega (arith, class, c.requires.some)) (omega (arith, class, class_of_last, c.requires.below)) in_order in
    let it : Cluster = record { letter = c.in_ok-letter.letter; base = c.in_ok-base.base; before = c.args.mark; last = c.args.self.last } in
    subst (λ (l : List Point). IsClusterAt depth table pattern l it) (sym order)
    (record {
      first = front;
      before = q ∷ [];
      last = p ∷ [];
      all = refl;
      letter = letter;
      base = base;
      closed = c.in_ok-letter.ensures.closed ∙ c.in_ok-inner.ensures.closed;
      before_is = is-one table pattern q c.args.mark c.in_ok-base.base.is_closed c.requires.mark hm free_q;
      last_is = is-one table pattern p c.args.self.last c.in_ok-base.base.is_closed c.requires.last last.2 free_p;
    })
