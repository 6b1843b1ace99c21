use Rattle.std.proofs.Common.{rules, ◌≡◌, false, ℕ, List, ◌∙◌, ap, refl, sym, subst}
use Rattle.std.proofs.lemmas.Fn.{chained_keeps}
use Rattle.collation_search.specs.Feeding.{Feeds}
use Rattle.search_pieces.proofs.pieces.feed.Goals as goal

-- the calls leave the reference to what it was to, so the ranges that the sink holds at the end are these
pub returns : goal.returns
returns g c =
    let fed = c.feed-fault.ensures.fed in
    let kept = chained_keeps _ (λ ys s. s.0.now.is_refused ≡ false → s.0.now.items.items ≡ ys) (λ ys q x v i k. k.met.1 ys i) fed.0 _ _ (λ good. c.new-ranges.ensures.0) fed.1 in
    let ranges = c.ranges-2-1.given.1 (chained_keeps _ (λ ys s. c.ranges-1.given.0 ≡ s.0.ghost_name) (λ ys q x v i k. search rules) fed.0 _ _ refl fed.1) in
    let items = ap (λ r. r.items.items) ranges ∙ kept (ap (λ r. r.is_refused) (sym ranges) ∙ c.if-ranges.false) in
    let feeds = subst (λ (t : List (ℕ × ℕ)). Feeds {W = g.row.W.Denot} {G = g.W.Weights} c.args.search.now c.args.piece.now c.feed-fault.result t c.feed-fault.new.self) (sym items) fed.2 in
    record { fed = (c.feed-fault.result, feeds) }
