use Rattle.std.proofs.Common.{◌∙◌, [], rules, refl, sym, ap, subst, arith}
use Rattle.std.proofs.lemmas.Str.{chars-nil}
use Rattle.collation_finder.specs.Caches.{IsCacheRight}
use Rattle.collation_finder.specs.Finding.{FinderStandsFor}
use Rattle.collation_finder.specs.declared.cache.Cache.{Cache}
use Rattle.collation_finder.specs.declared.finder.Finder.{Finder}
use Rattle.collation_search.proofs.StateLemmas.{none-left}
use Rattle.collation_search.proofs.search.Search.new_with.Goals as goal

pub invariant_of-result-2-clause-right : goal.invariant_of-result-2-clause-right
invariant_of-result-2-clause-right g c =
    let table = g.W.Weights.table c.args.table.now in
    subst (λ (k : Cache). IsCacheRight table c.args.pattern.now k) (sym c.in_ok-new-2.ensures.ok) (c.in_ok-cache.ensures.right table c.args.pattern.now)

pub returns-clause-stands : goal.returns-clause-stands
returns-clause-stands g c =
    let cut = c.new-3.ensures.stands_for in
    let table = g.W.Weights.table c.args.table.now in
    let finder = subst (λ (f : Finder). FinderStandsFor table c.args.pattern.now f [] []) (sym c.in_ok-new.ensures.ok) c.in_ok-finder.ensures.stands in
    record {
      cut_stands = search (rules, chars-nil);
      found = search (rules, chars-nil);
      open_bytes = search (rules, chars-nil);
      no_fault = refl;
      some_key = omega (arith, c.len-some.ensures.some, c.len-some.ensures.keys);
      left = ap (λ (f : Finder). f.window.points) c.in_ok-new.ensures.ok ∙ c.in_ok-finder.ensures.empty ∙ sym (none-left table);
    }
