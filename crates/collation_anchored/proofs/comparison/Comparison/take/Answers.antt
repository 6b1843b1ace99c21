use Rattle.std.specs.Str.{chars}
use Rattle.std.proofs.Common.{◌≡◌, ◌<◌, ◌≤◌, ◌∙◌, ℕ, List, [], ◌∷◌, ◌++◌, length, Bool, true, false, Some, Result, Ok, sym, ap, subst, arith, refl, append_assoc}
use Rattle.utf8_cut.specs.Characters.{characters}
use Rattle.utf8_cut.specs.State.{StandsFor}
use Rattle.nfd_points.specs.declared.faults.PointFault.{PointFault}
use Rattle.nfd_points.specs.Points.{points, byte_len}
use Rattle.nfd_points.specs.PointFaults.{point_fault}
use Rattle.nfd_points.specs.Reordering.{HasReordered}
use Rattle.collation_elements.specs.Keys.{keys}
use Rattle.collation_matches.specs.GoodPrefix.{most_bytes, good_prefix, whole, is_good_so_far}
use Rattle.collation_matches.proofs.LagTexts.{TextLaws}
use Rattle.collation_matches.proofs.TextCheckLemmas.{fault_by_length, open_good, same_codes, still_open, fault_by_code, code_at_fault, ill_after, fault_ill}
use Rattle.collation_anchored.specs.Anchored.{is_begun}
use Rattle.collation_anchored.specs.Compared.{completed}
use Rattle.collation_anchored.specs.Comparing.{HasCompared}
use Rattle.collation_anchored.proofs.GoodTexts.{codes_go_on}
use Rattle.collation_anchored.proofs.NextCharacter.{next_character}
use Rattle.collation_anchored.proofs.comparison.Comparison.take.Goals as goal

pub returns-then-count-ge-MOST_BYTES_COMPARED-clause-fault : goal.returns-then-count-ge-MOST_BYTES_COMPARED-clause-fault
returns-then-count-ge-MOST_BYTES_COMPARED-clause-fault g c = λ u more h.
    let count = c.count.ensures.stands_for u (characters u) h.cut_stands in
    let full : most_bytes ≤ length u = omega (arith, c.if-count-ge-MOST_BYTES_COMPARED.true) in
    let start = c.held_start-offset.ensures.stands_for u (characters u) h.cut_stands in
    rw start (fault_by_length u c.args.byte more h.open_bytes full)

pub returns-in-More-clause-stands : goal.returns-in-More-clause-stands
returns-in-More-clause-stands g c = λ u h alike.
    let count = c.count.ensures.stands_for u (characters u) h.cut_stands in
    let short : length u < most_bytes = omega (arith, c.if-count-ge-MOST_BYTES_COMPARED.false) in
    let stands = c.in-More.ensures.stands_for u (characters u) h.cut_stands in
    let codes = same_codes u c.args.byte (sym stands.characters_given) in
    let formed = c.in-More.ensures.bad u (characters u) h.cut_stands in
    record {
      cut_stands = subst (λ t. StandsFor c.push.new.self (u ++ c.args.byte ∷ []) t) stands.characters_given stands;
      compared = record {
        points = h.compared.points;
        reordered = subst (λ (cs : List ℕ). HasReordered c.args.self.now.reorder cs h.compared.points) (sym codes) h.compared.reordered;
        came = h.compared.came;
      };
      open_bytes = still_open u c.args.byte short (sym formed) (ap point_fault codes ∙ open_good u h.open_bytes);
    }

pub returns-in-Bad-clause-fault : goal.returns-in-Bad-clause-fault
returns-in-Bad-clause-fault g c = λ u more h.
    let x = u ++ c.args.byte ∷ [] in
    let count = c.count.ensures.stands_for u (characters u) h.cut_stands in
    let short : length u < most_bytes = omega (arith, c.if-count-ge-MOST_BYTES_COMPARED.false) in
    let state = c.in-Bad.ensures.state in
    let bad : c.push.new.self.is_bad ≡ true = ap (λ s. s.is_bad) state in
    let start : c.push.new.self.start ≡ c.in-Bad.offset = ap (λ s. s.start) state ∙ sym c.in-Bad.ensures.bad_start in
    let stands = c.in-Bad.ensures.stands_for u (characters u) h.cut_stands in
    let now = subst (λ t. StandsFor c.push.new.self x t) stands.characters_given stands in
    let codes = same_codes u c.args.byte (sym stands.characters_given) in
    let ill = ill_after x c.in-Bad.offset
    (λ more. c.any_bytes_may_follow.ensures.characters c.push.new.self x more (characters x) now ∙ rw bad refl)
    (λ more. c.any_bytes_may_follow.ensures.stays_bad c.push.new.self x more (characters x) now bad ∙ ap (λ n. Some n) start)
    (λ more. c.any_bytes_may_follow.ensures.fault c.push.new.self x more (characters x) now ∙ rw bad (ap (λ n. Some n) start))
    c.whole_characters_are_the_longest_text.ensures.within in
    fault_ill u c.args.byte more c.in-Bad.offset h.open_bytes short codes ill

-- ---- a character

abbrev ok_of : Bool → Result Bool PointFault
ok_of alike = Ok alike

pub returns-in-Ok-clause-stands : goal.returns-in-Ok-clause-stands
returns-in-Ok-clause-stands g c = λ u h alike.
    let alike_is : c.in-Ok.alike ≡ true = cc in
    let x = u ++ c.args.byte ∷ [] in
    let count = c.count.ensures.stands_for u (characters u) h.cut_stands in
    let short : length u < most_bytes = omega (arith, c.if-count-ge-MOST_BYTES_COMPARED.false) in
    let known = next_character u c.args.byte c.in-Char.c c.in-Char.offset c.args.self.now.cut c.push.new.self h.cut_stands (c.in-Char.ensures.stands_for u (characters u) h.cut_stands)
    c.in-Char.ensures.char_start (c.whole_characters_are_the_longest_text.ensures.text u) (c.whole_characters_are_the_longest_text.ensures.within u)
    (λ more now. c.any_bytes_may_follow.ensures.begins c.push.new.self x more (characters x) now) in
    let formed = c.in-Char.ensures.bad u (characters u) h.cut_stands in
    let next = c.in-Ok.ensures.stands (chars (whole u)) (record { points = h.compared.points; reordered = h.compared.reordered; came = h.compared.came }) known.offset (ap ok_of alike_is) in
    record {
      cut_stands = subst (λ k. StandsFor k x (characters x)) (sym c.in-Ok.ensures.cut) known.stands;
      compared = subst (λ (cs : List ℕ). HasCompared (g.W.Weights.table c.args.table.now) c.args.pattern.now c.take_character.new.self cs) (sym known.codes) next;
      open_bytes = still_open u c.args.byte short (sym formed) (ap point_fault known.codes ∙ next.reordered.good);
    }

pub returns-in-Ok-clause-differs : goal.returns-in-Ok-clause-differs
returns-in-Ok-clause-differs g c = λ u more h apart.
    let apart_is : c.in-Ok.alike ≡ false = cc in
    let table = g.W.Weights.table c.args.table.now in
    let pattern = c.args.pattern.now in
    let b = c.args.byte in
    let x = u ++ b ∷ [] in
    let text_laws = c.whole_characters_are_the_longest_text.ensures in
    let laws : TextLaws = record { text = text_laws.text; longest = text_laws.longest; within = text_laws.within; faults = c.laws_of_faults.ensures.following } in
    let count = c.count.ensures.stands_for u (characters u) h.cut_stands in
    let short : length u < most_bytes = omega (arith, c.if-count-ge-MOST_BYTES_COMPARED.false) in
    let known = next_character u b c.in-Char.c c.in-Char.offset c.args.self.now.cut c.push.new.self h.cut_stands (c.in-Char.ensures.stands_for u (characters u) h.cut_stands)
    c.in-Char.ensures.char_start (text_laws.text u) (text_laws.within u)
    (λ later now. c.any_bytes_may_follow.ensures.begins c.push.new.self x later (characters x) now) in
    let formed = c.in-Char.ensures.bad u (characters u) h.cut_stands in
    let good = c.in-Ok.ensures.good (chars (whole u)) (record { points = h.compared.points; reordered = h.compared.reordered; came = h.compared.came }) known.offset in
    let opened : is_good_so_far x ≡ true = still_open u b short (sym formed) (ap point_fault known.codes ∙ good) in
    let on = codes_go_on laws x more opened in
    let all : chars (good_prefix (u ++ b ∷ more)) ≡ chars (whole u) ++ c.in-Char.c ∷ on.rest =
    ap (λ (bs : List ℕ). chars (good_prefix bs)) (sym (append_assoc u (b ∷ []) more)) ∙ on.codes ∙ ap (λ (cs : List ℕ). cs ++ on.rest) known.codes
    ∙ append_assoc (chars (whole u)) (c.in-Char.c ∷ []) on.rest in
    ap (λ (cs : List ℕ). is_begun pattern.keys (keys table pattern.strength pattern.variable (points cs))) all
    ∙ c.in-Ok.ensures.differs (chars (whole u)) on.rest (record { points = h.compared.points; reordered = h.compared.reordered; came = h.compared.came }) known.offset (ap ok_of apart_is)

pub returns-in-Ok-clause-completed : goal.returns-in-Ok-clause-completed
returns-in-Ok-clause-completed g c = λ u more h apart.
    let apart_is : c.in-Ok.alike ≡ false = cc in
    let table = g.W.Weights.table c.args.table.now in
    let pattern = c.args.pattern.now in
    let b = c.args.byte in
    let x = u ++ b ∷ [] in
    let text_laws = c.whole_characters_are_the_longest_text.ensures in
    let laws : TextLaws = record { text = text_laws.text; longest = text_laws.longest; within = text_laws.within; faults = c.laws_of_faults.ensures.following } in
    let count = c.count.ensures.stands_for u (characters u) h.cut_stands in
    let short : length u < most_bytes = omega (arith, c.if-count-ge-MOST_BYTES_COMPARED.false) in
    let known = next_character u b c.in-Char.c c.in-Char.offset c.args.self.now.cut c.push.new.self h.cut_stands (c.in-Char.ensures.stands_for u (characters u) h.cut_stands)
    c.in-Char.ensures.char_start (text_laws.text u) (text_laws.within u)
    (λ later now. c.any_bytes_may_follow.ensures.begins c.push.new.self x later (characters x) now) in
    let formed = c.in-Char.ensures.bad u (characters u) h.cut_stands in
    let good = c.in-Ok.ensures.good (chars (whole u)) (record { points = h.compared.points; reordered = h.compared.reordered; came = h.compared.came }) known.offset in
    let opened : is_good_so_far x ≡ true = still_open u b short (sym formed) (ap point_fault known.codes ∙ good) in
    let on = codes_go_on laws x more opened in
    let all : chars (good_prefix (u ++ b ∷ more)) ≡ chars (whole u) ++ c.in-Char.c ∷ on.rest =
    ap (λ (bs : List ℕ). chars (good_prefix bs)) (sym (append_assoc u (b ∷ []) more)) ∙ on.codes ∙ ap (λ (cs : List ℕ). cs ++ on.rest) known.codes
    ∙ append_assoc (chars (whole u)) (c.in-Char.c ∷ []) on.rest in
    c.in-Ok.ensures.completed (chars (whole u)) on.rest (record { points = h.compared.points; reordered = h.compared.reordered; came = h.compared.came }) known.offset (ap ok_of apart_is)
    ∙ sym (ap (λ (cs : List ℕ). completed table pattern (points cs)) all)

pub returns-in-Err-clause-fault : goal.returns-in-Err-clause-fault
returns-in-Err-clause-fault g c = λ u more h.
    let b = c.args.byte in
    let x = u ++ b ∷ [] in
    let count = c.count.ensures.stands_for u (characters u) h.cut_stands in
    let short : length u < most_bytes = omega (arith, c.if-count-ge-MOST_BYTES_COMPARED.false) in
    let known = next_character u b c.in-Char.c c.in-Char.offset c.args.self.now.cut c.push.new.self h.cut_stands (c.in-Char.ensures.stands_for u (characters u) h.cut_stands)
    c.in-Char.ensures.char_start (c.whole_characters_are_the_longest_text.ensures.text u) (c.whole_characters_are_the_longest_text.ensures.within u)
    (λ later now. c.any_bytes_may_follow.ensures.begins c.push.new.self x later (characters x) now) in
    let at : ℕ × ℕ = (byte_len (chars (whole u)), c.in-Err.fault.kind) in
    let there = code_at_fault u b c.in-Char.c more at short known.codes known.begins
    (λ rest. c.in-Err.ensures.fault (chars (whole u)) rest (record { points = h.compared.points; reordered = h.compared.reordered; came = h.compared.came })) in
    fault_by_code (u ++ b ∷ more) at there ∙ ap (λ o. Some (record { kind = c.in-Err.fault.kind; offset = o })) (sym known.offset)
