use Rattle.std.specs.Str.{chars}
use Rattle.std.proofs.Common.{◌≡◌, ◌∙◌, ◌+◌, ◌<◌, ◌≤◌, ℕ, List, [], Ok, length, take, refl, sym, ap, subst, arith}
use Rattle.std.proofs.lemmas.List.{length-take-le}
use Rattle.utf8_cut.specs.Characters.{characters}
use Rattle.collation_matches.specs.GoodPrefix.{whole}
use Rattle.collation_finder.specs.declared.finder.Finder.{Finder}
use Rattle.collation_finder.specs.Finding.{FinderStandsFor}
use Rattle.collation_matches.specs.Sought.{Sought}
use Rattle.collation_search.specs.Early.{IsCutUpTo}
use Rattle.collation_search.proofs.FeedLemmas.{takes-kept, takes-good}
use Rattle.collation_search.proofs.FinderLemmas.{ready}
use Rattle.collation_search.proofs.CharactersTaken.{taken-text, offset-whole}
use Rattle.collation_search.specs.Feeding.{TakesPart}
use Rattle.collation_search.proofs.search.Search.feed_letters.Goals as goal
use Rattle.collation_search.proofs.search.Search.feed_letters.Goals.{then-reach-eq0-via-then-reach-eq0, then-reach-eq0-via-else-reach-eq0+then-held_start-count, then-reach-eq0-via-else-reach-eq0+else-held_start-count+then-count-piece}

pub returns-then-reach-eq0-clause-taken : goal.returns-then-reach-eq0-clause-taken
returns-then-reach-eq0-clause-taken g c =
    let none = c.requires.none in
    let same : TakesPart c.args.self.now c.args.reach [] (Ok tt) [] c.then-reach-eq0.self = elim c.then-reach-eq0.branch [
      | then-reach-eq0-via-then-reach-eq0 w ↦ takes-kept c.args.self.now _ _ c.args.reach w.self-is none none refl (λ place u handed h. h)
      | then-reach-eq0-via-else-reach-eq0+then-held_start-count w ↦ takes-kept c.args.self.now _ _ c.args.reach w.self-is none none refl (λ place u handed h. h)
      | then-reach-eq0-via-else-reach-eq0+else-held_start-count+then-count-piece w ↦ takes-kept c.args.self.now _ _ c.args.reach w.self-is none none refl (λ place u handed h. h)
    ] in
    ([], refl, same)

pub take_letters-len-requires-clause-ready : goal.take_letters-len-requires-clause-ready
take_letters-len-requires-clause-ready g c = ready c.args.self.now _ c.deref_mut.ensures.value c.requires.none

pub returns-clause-taken : goal.returns-clause-taken
returns-clause-taken g c =
    let search = c.args.self.now in
    let table = g.W.Weights.table search.query.table.now in
    let n = c.take_letters-len.result in
    let text = take n c.args.piece.now in
    let there = c.deref_mut.ensures.value in
    let taken = c.take_letters-len.ensures.taken in
    let run = taken.2 in
    let cut = c.take_characters.ensures in
    let within = run.within in
    let long : n ≡ length text = sym (length-take-le n c.args.piece.now within) in
    let count = c.count-count.ensures.value in
    let some : 0 < c.args.reach = omega (arith, c.if-reach-eq0.false) in
    let far : (place : ℕ) (u : List ℕ) → search.cut.count ≡ length u → (0 < c.args.reach → length u + c.args.reach ≤ place) → c.count-count.result + c.args.reach ≤ place =
    λ place u same within. omega (arith, count, same, within some) in
    let between : search.cut.start ≡ search.cut.count = sym c.held_start.ensures.value ∙ c.if-held_start-count.false ∙ count in (
      taken.0,
      taken.1,
      takes-good search _ c.args.reach text taken.0 c.requires.none c.requires.none
          (ap (λ select. let s : Sought = record { table = table; pattern = search.query.pattern.now; select = select } in s) (run.goes_on.setup.select ∙ ap (λ (f : Finder). f.matcher.walk.select) there))
          (λ place u handed m.
          let h = m.1 in
          let before = subst (λ (f : Finder). FinderStandsFor table search.query.pattern.now f (chars (whole u)) handed) (sym there) h.found in
          let left = subst (λ (f : Finder). IsCutUpTo table place (chars (whole u)) f.window.points) (sym there) h.left in
          let at = offset-whole table search.query.pattern.now search.cut search.finder.value search.fault place u handed h between
          (c.whole_characters_are_the_longest_text.ensures.text u) (c.whole_characters_are_the_longest_text.ensures.within u) in
          taken-text table search.query.pattern.now search.cut c.take_characters.new.self search.finder.value c.take_letters-len.new.self search.fault
          place u text (chars text) n handed taken.0 h long (omega (arith, count, within, c.if-count-piece.false)) cut.state
          (cut.stands_for u text (characters u) h.cut_stands (sym long) run.text)
          (run.stands (chars (whole u)) handed before (count ∙ at))
          (run.left place (chars (whole u)) handed (subst (λ k. k + c.args.reach ≤ place) (count ∙ at) (far place u h.cut_stands.count m.0), record { stands = before; cut = left }) (count ∙ at))),
    )
