use Rattle.std.specs.Str.{chars}
use Rattle.std.proofs.Common.{◌≡◌, ◌<◌, ◌≤◌, ◌∙◌, ℕ, List, [], ◌∷◌, ◌++◌, length, true, inl, Some, sym, ap, subst, arith, refl}
use Rattle.std.proofs.lemmas.List.{append-nil}
use Rattle.utf8_cut.specs.Characters.{characters}
use Rattle.utf8_cut.specs.State.{StandsFor}
use Rattle.nfd_points.specs.Points.{byte_len}
use Rattle.nfd_points.specs.PointFaults.{point_fault}
use Rattle.collation_table.specs.Table.{TableMap}
use Rattle.collation_pattern.specs.Compiled.{Compiled}
use Rattle.collation_matches.specs.GoodPrefix.{most_bytes, whole}
use Rattle.collation_finder.specs.declared.finder.Finder.{Finder}
use Rattle.collation_finder.specs.Finding.{FinderStandsFor}
use Rattle.collation_search.specs.Early.{IsCutUpTo, Taken}
use Rattle.collation_matches.proofs.TextCheckLemmas.{fault_by_length, not_open_by_length, open_good, same_codes, still_open, fault_by_code, not_open_by_code, IsIllAfter, ill_after, fault_ill, not_open_ill}
use Rattle.collation_search.proofs.ByteLemmas.{came, character-at_fault}
use Rattle.collation_search.proofs.FinderLemmas.{ready}
use Rattle.collation_search.proofs.search.Search.take.Given.{Over}
use Rattle.collation_search.proofs.search.Search.take.Goals as goal
use Rattle.collation_search.proofs.search.Search.take.Goals.{In-Bad}

pub returns-then-count-ge-MOST_BYTES-clause-fault : goal.returns-then-count-ge-MOST_BYTES-clause-fault
returns-then-count-ge-MOST_BYTES-clause-fault g c = λ place u more ranges h.
    let count = c.count.ensures.stands_for u (characters u) h.cut_stands in
    let full : most_bytes ≤ length u = omega (arith, c.if-count-ge-MOST_BYTES.true) in
    let start = c.held_start-offset.ensures.stands_for u (characters u) h.cut_stands in
    rw start (fault_by_length u c.args.byte more h.open_bytes full)

pub returns-then-count-ge-MOST_BYTES-clause-closed : goal.returns-then-count-ge-MOST_BYTES-clause-closed
returns-then-count-ge-MOST_BYTES-clause-closed g c = λ place u more ranges h.
    let count = c.count.ensures.stands_for u (characters u) h.cut_stands in
    let full : most_bytes ≤ length u = omega (arith, c.if-count-ge-MOST_BYTES.true) in
    not_open_by_length u c.args.byte more full

pub returns-in-More-clause-stands : goal.returns-in-More-clause-stands
returns-in-More-clause-stands g c = λ place u ranges h.
    let table = g.W.Weights.table c.args.self.now.query.table.now in
    let pattern = c.args.self.now.query.pattern.now in
    let count = c.count.ensures.stands_for u (characters u) h.cut_stands in
    let short : length u < most_bytes = omega (arith, c.if-count-ge-MOST_BYTES.false) in
    let stands = c.in-More.ensures.stands_for u (characters u) h.cut_stands in
    let codes = same_codes u c.args.byte (sym stands.characters_given) in
    let formed = c.in-More.ensures.bad u (characters u) h.cut_stands in
    let listed = sym (ap (λ t. ranges ++ t) c.requires.empty ∙ append-nil ranges) in
    record {
      cut_stands = subst (λ t. StandsFor c.push.new.self (u ++ c.args.byte ∷ []) t) stands.characters_given stands;
      found = subst (λ t. FinderStandsFor table pattern c.args.self.now.finder.value (chars (whole (u ++ c.args.byte ∷ []))) t) listed
          (subst (λ cs. FinderStandsFor table pattern c.args.self.now.finder.value cs ranges) (sym codes) h.found);
      open_bytes = still_open u c.args.byte short (sym formed) (ap point_fault codes ∙ open_good u h.open_bytes);
      no_fault = h.no_fault;
      some_key = h.some_key;
      left = subst (λ cs. IsCutUpTo table place cs c.args.self.now.finder.value.window.points) (sym codes) h.left;
    }

-- what is known once an ill-formed sequence was met
ill : (g : Over) (c : In-Bad g) (table : TableMap) (pattern : Compiled) (place : ℕ) (u : List ℕ) (ranges : List (ℕ × ℕ)) →
    Taken table pattern c.args.self.now.cut c.args.self.now.finder.value c.args.self.now.fault place u ranges → IsIllAfter (u ++ c.args.byte ∷ []) c.in-Bad.offset
ill g c table pattern place u ranges h =
    let x = u ++ c.args.byte ∷ [] in
    let state = c.in-Bad.ensures.state in
    let bad : c.push.new.self.is_bad ≡ true = ap (λ s. s.is_bad) state in
    let start : c.push.new.self.start ≡ c.in-Bad.offset = ap (λ s. s.start) state ∙ sym c.in-Bad.ensures.bad_start in
    let stands = c.in-Bad.ensures.stands_for u (characters u) h.cut_stands in
    let now = subst (λ t. StandsFor c.push.new.self x t) stands.characters_given stands in
    ill_after x c.in-Bad.offset
    (λ more. c.any_bytes_may_follow.ensures.characters c.push.new.self x more (characters x) now ∙ rw bad refl)
    (λ more. c.any_bytes_may_follow.ensures.stays_bad c.push.new.self x more (characters x) now bad ∙ ap (λ n. Some n) start)
    (λ more. c.any_bytes_may_follow.ensures.fault c.push.new.self x more (characters x) now ∙ rw bad (ap (λ n. Some n) start))
    c.whole_characters_are_the_longest_text.ensures.within

pub returns-in-Bad-clause-fault : goal.returns-in-Bad-clause-fault
returns-in-Bad-clause-fault g c = λ place u more ranges h.
    let count = c.count.ensures.stands_for u (characters u) h.cut_stands in
    let short : length u < most_bytes = omega (arith, c.if-count-ge-MOST_BYTES.false) in
    let stands = c.in-Bad.ensures.stands_for u (characters u) h.cut_stands in
    let codes = same_codes u c.args.byte (sym stands.characters_given) in
    fault_ill u c.args.byte more c.in-Bad.offset h.open_bytes short codes (ill g c _ _ place u ranges h)

pub returns-in-Bad-clause-closed : goal.returns-in-Bad-clause-closed
returns-in-Bad-clause-closed g c = λ place u more ranges h.
    let count = c.count.ensures.stands_for u (characters u) h.cut_stands in
    let short : length u < most_bytes = omega (arith, c.if-count-ge-MOST_BYTES.false) in
    not_open_ill u c.args.byte more c.in-Bad.offset short (ill g c _ _ place u ranges h)

-- ---- a character

pub take-requires-clause-ready : goal.take-requires-clause-ready
take-requires-clause-ready g c = ready c.args.self.now _ c.deref_mut.ensures.value c.requires.none

pub returns-in-Ok-clause-stands : goal.returns-in-Ok-clause-stands
returns-in-Ok-clause-stands g c = λ place u ranges h.
    let table = g.W.Weights.table c.args.self.now.query.table.now in
    let pattern = c.args.self.now.query.pattern.now in
    let known = came u c.args.byte c.in-Char.c c.in-Char.offset c.args.self.now.cut c.push.new.self h.cut_stands (c.in-Char.ensures.stands_for u (characters u) h.cut_stands)
    (let count = c.count.ensures.stands_for u (characters u) h.cut_stands in omega (arith, c.if-count-ge-MOST_BYTES.false)) c.in-Char.ensures.char_start
    (c.whole_characters_are_the_longest_text.ensures.text u) (c.whole_characters_are_the_longest_text.ensures.within u)
    (λ more now. c.any_bytes_may_follow.ensures.begins c.push.new.self (u ++ c.args.byte ∷ []) more (characters (u ++ c.args.byte ∷ [])) now) in
    let formed = c.in-Char.ensures.bad u (characters u) h.cut_stands in
    let there = sym c.deref_mut.ensures.value in
    let before = subst (λ (f : Finder). FinderStandsFor table pattern f (chars (whole u)) ranges) there h.found in
    let left = subst (λ (f : Finder). IsCutUpTo table place (chars (whole u)) f.window.points) there h.left in
    let next = c.in-Ok.ensures.taken.stands (chars (whole u)) ranges (inl before) known.offset in
    let good = ap point_fault known.codes ∙ next.reordered.good in
    record {
      cut_stands = known.stands;
      found = subst (λ cs. FinderStandsFor table pattern c.take.new.self cs (ranges ++ c.take.new.found.items)) (sym known.codes) next;
      open_bytes = still_open u c.args.byte known.short (sym formed) good;
      no_fault = h.no_fault;
      some_key = h.some_key;
      left = subst (λ cs. IsCutUpTo table place cs c.take.new.self.window.points) (sym known.codes) (c.in-Ok.ensures.taken.left place (chars (whole u)) ranges (inl (record { stands = before; cut = left })) known.offset);
    }

pub returns-in-Err-clause-fault : goal.returns-in-Err-clause-fault
returns-in-Err-clause-fault g c = λ place u more ranges h.
    let known = came u c.args.byte c.in-Char.c c.in-Char.offset c.args.self.now.cut c.push.new.self h.cut_stands (c.in-Char.ensures.stands_for u (characters u) h.cut_stands)
    (let count = c.count.ensures.stands_for u (characters u) h.cut_stands in omega (arith, c.if-count-ge-MOST_BYTES.false)) c.in-Char.ensures.char_start
    (c.whole_characters_are_the_longest_text.ensures.text u) (c.whole_characters_are_the_longest_text.ensures.within u)
    (λ more now. c.any_bytes_may_follow.ensures.begins c.push.new.self (u ++ c.args.byte ∷ []) more (characters (u ++ c.args.byte ∷ [])) now) in
    let before = subst (λ (f : Finder). FinderStandsFor (g.W.Weights.table c.args.self.now.query.table.now) c.args.self.now.query.pattern.now f (chars (whole u)) ranges) (sym c.deref_mut.ensures.value) h.found in
    let at = character-at_fault u c.args.byte c.in-Char.c c.in-Char.offset c.push.new.self more c.in-Err.fault.kind known (λ rest. c.in-Err.ensures.fault (chars (whole u)) rest ranges before) in
    fault_by_code (u ++ c.args.byte ∷ more) (byte_len (chars (whole u)), c.in-Err.fault.kind) at ∙ ap (λ o. Some (record { kind = c.in-Err.fault.kind; offset = o })) (sym known.offset)

pub returns-in-Err-clause-closed : goal.returns-in-Err-clause-closed
returns-in-Err-clause-closed g c = λ place u more ranges h.
    let known = came u c.args.byte c.in-Char.c c.in-Char.offset c.args.self.now.cut c.push.new.self h.cut_stands (c.in-Char.ensures.stands_for u (characters u) h.cut_stands)
    (let count = c.count.ensures.stands_for u (characters u) h.cut_stands in omega (arith, c.if-count-ge-MOST_BYTES.false)) c.in-Char.ensures.char_start
    (c.whole_characters_are_the_longest_text.ensures.text u) (c.whole_characters_are_the_longest_text.ensures.within u)
    (λ more now. c.any_bytes_may_follow.ensures.begins c.push.new.self (u ++ c.args.byte ∷ []) more (characters (u ++ c.args.byte ∷ [])) now) in
    let before = subst (λ (f : Finder). FinderStandsFor (g.W.Weights.table c.args.self.now.query.table.now) c.args.self.now.query.pattern.now f (chars (whole u)) ranges) (sym c.deref_mut.ensures.value) h.found in
    let at = character-at_fault u c.args.byte c.in-Char.c c.in-Char.offset c.push.new.self more c.in-Err.fault.kind known (λ rest. c.in-Err.ensures.fault (chars (whole u)) rest ranges before) in
    not_open_by_code (u ++ c.args.byte ∷ more) (byte_len (chars (whole u)), c.in-Err.fault.kind) at
