use Rattle.std.specs.Str.{chars}
use Rattle.std.proofs.Common.{◌+◌, take, arith}
use Rattle.collation_letters.proofs.SymbolLemmas.{some-map}
use Rattle.collation_skip.specs.Passed.{PassesTo}
use Rattle.collation_finder.specs.Caches.{SkipsText}
use Rattle.collation_finder.proofs.SkipSteps.{begins-whole, goes-on, some-passed}
use Rattle.collation_finder.proofs.cache.Cache.skip.Goals as goal

pub returns-clause-skips : goal.returns-clause-skips
returns-clause-skips g c =
    let table = g.W.Weights.table c.args.query.now.table.now in
    let pattern = c.args.query.now.pattern.now in
    let piece = c.args.piece.now in
    let offset = c.args.offset in
    some-map {P = PassesTo table pattern piece c.args.reach} {Q = SkipsText table pattern piece c.args.first c.args.reach offset} c.pass.result c.pass.ensures.passes (λ s e.
    let within = e.within in
    let cs = some-passed table pattern offset (offset + s.start) s.next (chars (take s.end piece)) (e.passed offset) in
    let begun = begins-whole piece s.end c.args.first cs.0 cs.1 (omega (arith, within)) e.text cs.2 c.requires.first.0 c.requires.first.1 in
    record {
      some = begun.0;
      passes = e;
      begun = begun.1;
      apart = (e.passed offset).is_next;
      walked = λ matcher plain none.
          goes-on c.laws_of_borders.ensures.go_on c.weighers_go_on.ensures table pattern matcher offset (offset + s.start) (chars (take s.end piece)) s.next plain none c.requires.later (e.passed offset);
    })
