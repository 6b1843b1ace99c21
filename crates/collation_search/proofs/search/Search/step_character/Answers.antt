use Rattle.std.specs.Prelude.{Result, OnOk, Ok}
use Rattle.std.specs.Char.{len_utf8}
use Rattle.std.specs.Str.{chars, IsAscii}
use Rattle.std.proofs.Common.{◌≡◌, ◌∙◌, ◌<◌, ◌≤◌, ℕ, List, [], ◌++◌, get_or, inl, length, take, refl, sym, ap, subst, arith, eqb-true}
use Rattle.std.proofs.lemmas.Bool.{ltb-true}
use Rattle.std.proofs.lemmas.List.{get_or-take, length-take, length-take-le, nil_from_length}
use Rattle.std.proofs.lemmas.Str.{chars-IsAscii, encode_ascii, len_utf8_ascii}
use Rattle.utf8_cut.specs.Characters.{characters}
use Rattle.utf8_cut.specs.Sequences.{SpellsCharacter}
use Rattle.collation_matches.specs.GoodPrefix.{whole}
use Rattle.collation_finder.specs.declared.finder.Finder.{Finder}
use Rattle.collation_finder.specs.Finding.{FinderStandsFor}
use Rattle.collation_finder.proofs.CharacterLemmas.{one_taken}
use Rattle.collation_matches.specs.Sought.{Sought}
use Rattle.collation_matches.proofs.SearchLemmas.{take_within}
use Rattle.collation_search.specs.Early.{IsCutUpTo}
use Rattle.collation_search.specs.Feeding.{TakesPart}
use Rattle.collation_search.proofs.FeedLemmas.{takes-good, takes-kept}
use Rattle.collation_search.proofs.FinderLemmas.{ready}
use Rattle.collation_search.proofs.CharactersTaken.{taken-text, offset-whole}
use Rattle.collation_search.proofs.search.Search.step_character.Goals.{then-held_start-count-via-then-held_start-count, then-held_start-count-via-else-held_start-count+then-count-bytes, then-held_start-count-via-else-held_start-count+else-count-bytes+then-not-is_empty}
use Rattle.collation_search.proofs.search.Search.step_character.Goals as goal

pub take_ascii-len-requires-clause-ready : goal.take_ascii-len-requires-clause-ready
take_ascii-len-requires-clause-ready g c = ready c.args.self.now _ c.deref_mut.ensures.value c.requires.none

pub take-requires-clause-ready : goal.take-requires-clause-ready
take-requires-clause-ready g c = ready c.args.self.now _ c.deref_mut-2.ensures.value c.requires.none

on_ok-there : {E X : Type 0} → (r : Result (Unit {0}) E) → r ≡ Ok tt → OnOk r X → X
on_ok-there {E} {X} r same h = subst (λ (t : Result (Unit {0}) E). OnOk t X) same h

pub returns-clause-taken : goal.returns-clause-taken
returns-clause-taken g c =
    let search = c.args.self.now in
    let table = g.W.Weights.table search.query.table.now in
    let pattern = search.query.pattern.now in
    let n = c.len_utf8-len.result in
    let text = take n c.args.bytes.now in
    let first = c.in-Some.c in
    let some = c.in-Some.ensures in
    let there = c.deref_mut-2.ensures.value in
    let one = one_taken c.args.bytes.now n first c.len_utf8-len.ensures.value some.1 in
    let waits = sym c.waiting.ensures.value ∙ nil_from_length c.waiting.result.now (eqb-true (length c.waiting.result.now) 0 (sym c.is_empty.ensures ∙ c.if-not-is_empty.false)) in
    let none = ap (λ (f : Finder). f.reorder.held) (there ∙ sym c.deref.ensures) ∙ waits in
    let taken = on_ok-there c.take.result (c.take.ensures.apart none) c.take.ensures.taken in
    let found = c.take.new.found.items in
    let later = c.take.new.self in
    let cut = c.take_characters.ensures in
    let within : n ≤ length c.args.bytes.now = let fits = some.0 in let len = c.len_utf8-len.ensures.value in omega (arith, fits, len) in
    let long : n ≡ length text = sym (length-take-le n c.args.bytes.now within) in
    let count = c.count-count.ensures.value in
    let between : search.cut.start ≡ search.cut.count = sym c.held_start.ensures.value ∙ c.if-held_start-count.false ∙ count in
    takes-good search _ 0 text found c.requires.none c.requires.none
    (ap (λ select. let s : Sought = record { table = table; pattern = pattern; select = select } in s) (c.take.ensures.goes_on.setup.select ∙ ap (λ (f : Finder). f.matcher.walk.select) there))
    (λ place u handed m.
    let h = m.1 in
    let before = subst (λ (f : Finder). FinderStandsFor table pattern f (chars (whole u)) handed) (sym there) h.found in
    let left = subst (λ (f : Finder). IsCutUpTo table place (chars (whole u)) f.window.points) (sym there) h.left in
    let at = offset-whole table pattern search.cut search.finder.value search.fault place u handed h between
    (c.whole_characters_are_the_longest_text.ensures.text u) (c.whole_characters_are_the_longest_text.ensures.within u) in
    taken-text table pattern search.cut c.take_characters.new.self search.finder.value later search.fault
    place u text (chars text) n handed found h long (omega (arith, count, within, c.if-count-bytes.false)) cut.state
    (cut.stands_for u text (characters u) h.cut_stands (sym long) one.0)
    (subst (λ (cs : List ℕ). FinderStandsFor table pattern later (chars (whole u) ++ cs) (handed ++ found)) (sym one.1) (taken.stands (chars (whole u)) handed (inl before) (count ∙ at)))
    (subst (λ (cs : List ℕ). IsCutUpTo table place (chars (whole u) ++ cs) later.window.points) (sym one.1) (taken.left place (chars (whole u)) handed (inl (record { stands = before; cut = left })) (count ∙ at))))

-- ---- ASCII

-- the byte in front of the character's
first_byte : (bytes : List ℕ) (c : ℕ) → c < 128 → SpellsCharacter (take (len_utf8 c) bytes) c → get_or bytes 0 0 ≡ c
first_byte bytes c low spells =
    let one = len_utf8_ascii c low in
    let first : get_or (take 1 bytes) 0 0 ≡ c = ap (λ (t : List ℕ). get_or t 0 0) (ap (λ k. take k bytes) (sym one) ∙ spells.1 ∙ encode_ascii c low) in
    sym (get_or-take 1 bytes 0 0 (omega arith)) ∙ first

pub returns-then-is_ascii-clause-taken : goal.returns-then-is_ascii-clause-taken
returns-then-is_ascii-clause-taken g c =
    let search = c.args.self.now in
    let table = g.W.Weights.table search.query.table.now in
    let pattern = search.query.pattern.now in
    let bytes = c.args.bytes.now in
    let n = c.take_ascii-len.result in
    let text = take n bytes in
    let run = c.take_ascii-len.ensures in
    let there = c.deref_mut.ensures.value in
    let front : take n (take c.min.result bytes) ≡ text = take_within n c.min.result bytes run.within in
    let ascii : IsAscii text = subst IsAscii front run.ascii in
    let codes : chars (take n (take c.min.result bytes)) ≡ text = ap chars front ∙ chars-IsAscii text ascii in
    let found = c.take_ascii-len.new.found.items in
    let later = c.take_ascii-len.new.self in
    let cut = c.take_ascii.ensures in
    let long : n ≡ length text = sym (ap length (sym front) ∙ length-take-le n (take c.min.result bytes) run.within) in
    let count = c.count-count.ensures.value in
    let between : search.cut.start ≡ search.cut.count = sym c.held_start.ensures.value ∙ c.if-held_start-count.false ∙ count in
    takes-good search _ 0 text found c.requires.none c.requires.none
    (ap (λ select. let s : Sought = record { table = table; pattern = pattern; select = select } in s) (run.goes_on.setup.select ∙ ap (λ (f : Finder). f.matcher.walk.select) there))
    (λ place u handed m.
    let h = m.1 in
    let before = subst (λ (f : Finder). FinderStandsFor table pattern f (chars (whole u)) handed) (sym there) h.found in
    let left = subst (λ (f : Finder). IsCutUpTo table place (chars (whole u)) f.window.points) (sym there) h.left in
    let at = offset-whole table pattern search.cut search.finder.value search.fault place u handed h between
    (c.whole_characters_are_the_longest_text.ensures.text u) (c.whole_characters_are_the_longest_text.ensures.within u) in
    taken-text table pattern search.cut c.take_ascii.new.self search.finder.value later search.fault
    place u text text n handed found h long (omega (arith, count, long, length-take n bytes, c.if-count-bytes.false)) cut.state
    (cut.stands_for u text (characters u) h.cut_stands (sym long) ascii)
    (subst (λ (cs : List ℕ). FinderStandsFor table pattern later (chars (whole u) ++ cs) (handed ++ found)) codes (run.taken.stands (chars (whole u)) handed (inl before) (count ∙ at)))
    (subst (λ (cs : List ℕ). IsCutUpTo table place (chars (whole u) ++ cs) later.window.points) codes (run.taken.left place (chars (whole u)) handed (inl (record { stands = before; cut = left })) (count ∙ at))))

pub returns-then-is_ascii-clause-nothing : goal.returns-then-is_ascii-clause-nothing
returns-then-is_ascii-clause-nothing g c = λ zero.
    let bytes = c.args.bytes.now in
    let k = c.min.result in
    let x = c.in-Some.c in
    let low : x < 128 = ltb-true x 128 (sym c.is_ascii.ensures ∙ c.if-is_ascii.true) in
    let fits = c.in-Some.ensures.0 in
    let one = len_utf8_ascii x low in
    let least = c.min.ensures in
    let most = c.requires.most in
    let some : 0 < k = omega (arith, fits, one, least, most) in
    let within : k ≤ length bytes = omega (arith, least) in
    let first = get_or-take k bytes 0 0 some ∙ first_byte bytes x low c.in-Some.ensures.1 in
    let long = length-take-le k bytes within in
    let waits = sym c.waiting.ensures.value ∙ nil_from_length c.waiting.result.now (eqb-true (length c.waiting.result.now) 0 (sym c.is_empty.ensures ∙ c.if-not-is_empty.false)) in
    let none = ap (λ (f : Finder). f.reorder.held) (c.deref_mut.ensures.value ∙ sym c.deref.ensures) ∙ waits in
    let taken = c.take_ascii-len.ensures.some none (omega (arith, long, some)) (omega (arith, first, low)) in
    absurd (omega (arith, zero, taken))

-- ---- none

pub returns-then-held_start-count-clause-taken : goal.returns-then-held_start-count-clause-taken
returns-then-held_start-count-clause-taken g c =
    let search = c.args.self.now in
    let now = c.then-held_start-count.self in
    let found = λ (t : TakesPart search 0 [] (Ok tt) [] now). subst (λ (items : List (ℕ × ℕ)). TakesPart search 0 [] (Ok tt) items now) (sym c.clear.ensures) t in
    elim c.then-held_start-count.branch [
      | then-held_start-count-via-then-held_start-count w ↦ found (takes-kept search _ now 0 w.self-is c.requires.none c.requires.none refl (λ place u handed m. m))
      | then-held_start-count-via-else-held_start-count+then-count-bytes w ↦ found (takes-kept search _ now 0 w.self-is c.requires.none c.requires.none refl (λ place u handed m. m))
      | then-held_start-count-via-else-held_start-count+else-count-bytes+then-not-is_empty w ↦ found (takes-kept search _ now 0 w.self-is c.requires.none c.requires.none refl (λ place u handed m. m))
    ]
