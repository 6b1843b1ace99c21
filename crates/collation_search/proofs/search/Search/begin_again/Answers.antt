use Rattle.std.proofs.Common.{◌∙◌, rules, refl, sym, arith}
use Rattle.std.proofs.lemmas.Str.{chars-nil}
use Rattle.collation_search.proofs.StateLemmas.{none-left}
use Rattle.collation_search.proofs.search.Search.begin_again.Goals as goal

pub returns-clause-stands : goal.returns-clause-stands
returns-clause-stands g c =
    let cut = c.new-self.ensures.stands_for in
    let finder = c.begin_again.ensures.stands (g.W.Weights.table c.args.self.now.query.table.now) in
    record {
      cut_stands = search;
      found = search (rules, chars-nil);
      open_bytes = search (rules, chars-nil);
      no_fault = refl;
      some_key = omega (arith, c.len-some.ensures.some, c.len-some.ensures.keys);
      left = c.begin_again.ensures.empty ∙ sym (none-left (g.W.Weights.table c.args.self.now.query.table.now));
    }
