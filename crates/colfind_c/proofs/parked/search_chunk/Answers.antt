use Rattle.std.proofs.Common.{rules, ◌≡◌, ◌∷◌, [], refl, sym, subst}
use Rattle.std.proofs.lemmas.Fn.{chained_keeps}
use Rattle.colfind_c.specs.Queues.{Gets}
use Rattle.colfind_c.proofs.QueueLemmas.{gets_none, gets_more}
use Rattle.colfind_c.proofs.parked.search_chunk.Goals as goal

-- the calls leave the reference to what it was to, so what the sink holds at the end is what it is then
pub returns : goal.returns
returns g c = record {
  fed =
      let fed = c.feed_with.ensures.fed in
      let queue = c.queue-1.given.1 (chained_keeps _ (λ ys s. c.feed_with-arg-3-1.given ≡ s.0.ghost_name) (λ ys q x v i k. search rules) fed.0 _ _ refl fed.1) in (
        fed.0,
        fed.2,
        let here = chained_keeps _ (λ ys s. Gets c.args.queue.now ys s.0.now) (λ ys q x v i k. gets_more _ _ _ ys (x ∷ []) i k.met.1) fed.0 _ _ (gets_none c.args.queue.now) fed.1 in
            subst (λ q. Gets c.args.queue.now fed.0 q) (sym queue) here,
      );
}
