use Rattle.std.proofs.Common.{rules, ◌≡◌, ◌∷◌, [], refl, sym, subst}
use Rattle.std.proofs.lemmas.Fn.{chained_keeps}
use Rattle.collation_search.specs.Search.{sought}
use Rattle.collation_parts.specs.Parts.{part_answer}
use Rattle.colfind_c.specs.Queues.{Gets}
use Rattle.colfind_c.proofs.QueueLemmas.{gets_none, gets_more}
use Rattle.colfind_c.proofs.parked.search_part_into.Goals as goal

-- the calls leave the reference to what it was to, so what the sink holds at the end is what it is then
pub returns-clause-part : goal.returns-clause-part
returns-clause-part g c = record {
  ranges = λ p compiled.
      let fed = c.search_part.ensures.ranges p compiled in
      let found = (part_answer (sought c.args.search.now) p c.args.text.now c.args.from c.args.to).ranges in
      let queue = c.queue-1.given.1 (chained_keeps _ (λ ys s. c.search_part-arg-2-1.given ≡ s.0.ghost_name) (λ ys q x v i k. search rules) found _ _ refl fed) in
      let here = chained_keeps _ (λ ys s. Gets c.args.queue.now ys s.0.now) (λ ys q x v i k. gets_more _ _ _ ys (x ∷ []) i k.met.1) found _ _ (gets_none c.args.queue.now) fed in
      subst (λ q. Gets c.args.queue.now found q) (sym queue) here;
  fault = c.search_part.ensures.fault;
}
