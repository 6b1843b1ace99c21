use Rattle.std.specs.Str.{chars}
use Rattle.std.proofs.Common.{◌≡◌, ◌∙◌, ℕ, suc, Bool, List, [], ◌∷◌, ◌++◌, take, drop, get_or, Some, None, Result, Ok, sym, ap, subst, append_assoc}
use Rattle.std.proofs.lemmas.List.{append-nil, take_all, take_more}
use Rattle.std.proofs.Math.Seq.{split_at}
use Rattle.utf8_cut.specs.Characters.{characters}
use Rattle.nfd_points.specs.Points.{points}
use Rattle.collation_matches.specs.declared.faults.TextFault.{TextFault}
use Rattle.collation_matches.specs.GoodPrefix.{fault, good_prefix, prefix_at, whole}
use Rattle.collation_matches.proofs.LagTexts.{TextLaws}
use Rattle.collation_matches.proofs.TextCheckLemmas.{good_end, cut_end, whole_of_good, first_fault-at}
use Rattle.collation_anchored.specs.Answers.{begun_by}
use Rattle.collation_anchored.specs.Compared.{completed}
use Rattle.collation_anchored.specs.Comparing.{HasCompared, HasComparedBytes}
use Rattle.collation_anchored.proofs.ComparedTexts.{good_at_fault, completed_text}
use Rattle.collation_anchored.proofs.comparison.Comparison.read.Goals as goal

abbrev ok_of : Bool → Result Bool TextFault
ok_of alike = Ok alike

pub loop-byte-init : goal.loop-byte-init
loop-byte-init g c = record {
  taken = c.begin.ensures.taken (g.W.Weights.table c.args.table.now);
  longest = c.begin.ensures.longest ∙ c.requires.longest;
  same = c.begin.ensures.longest;
}

pub loop-byte-preserved : goal.loop-byte-preserved
loop-byte-preserved g c =
    let text = c.args.text.now in
    let i = c.loop-byte.byte-index in
    let before = c.loop-byte.invariant in
    let next = take_more text i 0 c.loop-byte-test.true in
    record {
      taken = subst (λ (u : List ℕ). HasComparedBytes (g.W.Weights.table c.args.table.now) c.args.pattern.now c.take.new.self u) (sym next)
          (c.in-Ok.ensures.stands (take i text) before.taken (ap ok_of c.if-not-alike.false));
      longest = c.in-Ok.ensures.longest ∙ before.longest;
      same = c.in-Ok.ensures.longest ∙ before.same;
    }

-- ---- the keys differ

pub returns-then-not-alike-clause-apart : goal.returns-then-not-alike-clause-apart
returns-then-not-alike-clause-apart g c = λ decided asked.
    let text = c.args.text.now in
    let i = c.loop-byte.byte-index in
    ap (begun_by (g.W.Weights.table c.args.table.now) c.args.pattern.now) (split_at text i 0 c.loop-byte-test.true)
    ∙ c.in-Ok.ensures.differs (take i text) (drop (suc i) text) c.loop-byte.invariant.taken (ap ok_of c.if-not-alike.true)

pub returns-then-not-alike-clause-none : goal.returns-then-not-alike-clause-none
returns-then-not-alike-clause-none g c = λ decided none.
    let text = c.args.text.now in
    let i = c.loop-byte.byte-index in
    ap (begun_by (g.W.Weights.table c.args.table.now) c.args.pattern.now) (split_at text i 0 c.loop-byte-test.true)
    ∙ c.in-Ok.ensures.differs (take i text) (drop (suc i) text) c.loop-byte.invariant.taken (ap ok_of c.if-not-alike.true)

pub returns-then-not-alike-clause-completed : goal.returns-then-not-alike-clause-completed
returns-then-not-alike-clause-completed g c = λ decided.
    let table = g.W.Weights.table c.args.table.now in
    let pattern = c.args.pattern.now in
    let text = c.args.text.now in
    let i = c.loop-byte.byte-index in
    c.in-Ok.ensures.completed (take i text) (drop (suc i) text) c.loop-byte.invariant.taken (ap ok_of c.if-not-alike.true)
    ∙ ap (λ (bs : List ℕ). completed table pattern (points (chars (good_prefix bs)))) (sym (split_at text i 0 c.loop-byte-test.true))

-- ---- a match has ended

pub returns-then-is_some-clause-completed : goal.returns-then-is_some-clause-completed
returns-then-is_some-clause-completed g c = λ decided.
    let table = g.W.Weights.table c.args.table.now in
    let pattern = c.args.pattern.now in
    let text = c.args.text.now in
    let i = c.loop-byte.byte-index in
    let u = take i text in
    let b = get_or text i 0 in
    let rest = drop (suc i) text in
    let text_laws = c.whole_characters_are_the_longest_text.ensures in
    let laws : TextLaws = record { text = text_laws.text; longest = text_laws.longest; within = text_laws.within; faults = c.laws_of_faults.ensures.following } in
    let parts : (u ++ b ∷ []) ++ rest ≡ text = append_assoc u (b ∷ []) rest ∙ sym (split_at text i 0 c.loop-byte-test.true) in
    let taken = c.in-Ok.ensures.stands u c.loop-byte.invariant.taken (ap ok_of c.if-not-alike.false) in
    completed_text laws table pattern c.take.new.self (u ++ b ∷ []) rest taken c.take.new.self.not_ended (sym c.is_some.ensures ∙ c.if-is_some.true)
    ∙ ap (λ (bs : List ℕ). completed table pattern (points (chars (good_prefix bs)))) parts

-- ---- a fault

pub returns-in-Err-clause-fault : goal.returns-in-Err-clause-fault
returns-in-Err-clause-fault g c = λ at ended.
    let text = c.args.text.now in
    let i = c.loop-byte.byte-index in
    let there : at ≡ Some c.in-Err.fault = cc in
    there ∙ sym (ap fault (split_at text i 0 c.loop-byte-test.true) ∙ c.in-Err.ensures.fault (take i text) (drop (suc i) text) c.loop-byte.invariant.taken)

pub returns-in-Err-clause-stands : goal.returns-in-Err-clause-stands
returns-in-Err-clause-stands g c = λ at ended.
    let table = g.W.Weights.table c.args.table.now in
    let pattern = c.args.pattern.now in
    let text = c.args.text.now in
    let i = c.loop-byte.byte-index in
    let u = take i text in
    let f = c.in-Err.fault in
    let taken = c.loop-byte.invariant.taken in
    let parts = split_at text i 0 c.loop-byte-test.true in
    let faulty : fault text ≡ Some f = ap fault parts ∙ c.in-Err.ensures.fault u (drop (suc i) text) taken in
    let good = good_at_fault text u (get_or text i 0 ∷ drop (suc i) text) f parts (c.whole_characters_are_the_longest_text.ensures.within u) faulty (c.in-Err.ensures.offset u taken) in
    subst (λ (bs : List ℕ). HasCompared table pattern c.take.new.self (chars bs)) (sym good) (c.in-Err.ensures.kept u taken)

-- ---- the end of the text

pub returns-in-None-clause-fault : goal.returns-in-None-clause-fault
returns-in-None-clause-fault g c = λ at ended.
    let text = c.args.text.now in
    let u = take c.loop-byte.byte-index text in
    let taken = c.loop-byte.invariant.taken in
    let all : u ≡ text = take_all c.loop-byte.byte-index text c.loop-byte-test.false in
    let there : at ≡ None = cc in
    there ∙ good_end u taken.open_bytes (c.in-None.ensures.stands_for u (characters u) taken.cut_stands) ∙ ap fault all

pub returns-in-None-clause-stands : goal.returns-in-None-clause-stands
returns-in-None-clause-stands g c = λ at ended.
    let table = g.W.Weights.table c.args.table.now in
    let pattern = c.args.pattern.now in
    let text = c.args.text.now in
    let u = take c.loop-byte.byte-index text in
    let taken = c.loop-byte.invariant.taken in
    let all : u ≡ text = take_all c.loop-byte.byte-index text c.loop-byte-test.false in
    let none : None ≡ fault u = good_end u taken.open_bytes (c.in-None.ensures.stands_for u (characters u) taken.cut_stands) in
    let good : good_prefix text ≡ whole u = ap (prefix_at text) (sym (none ∙ ap fault all)) ∙ sym all ∙ sym (whole_of_good u taken.open_bytes none) in
    subst (λ (bs : List ℕ). HasCompared table pattern c.loop-byte.self (chars bs)) (sym good) taken.compared

pub returns-in-Some-clause-fault : goal.returns-in-Some-clause-fault
returns-in-Some-clause-fault g c = λ at ended.
    let text = c.args.text.now in
    let u = take c.loop-byte.byte-index text in
    let taken = c.loop-byte.invariant.taken in
    let all : u ≡ text = take_all c.loop-byte.byte-index text c.loop-byte-test.false in
    let f : TextFault = record { kind = 31; offset = c.in-Some.offset } in
    let there : at ≡ Some f = cc in
    there ∙ cut_end u c.in-Some.offset taken.open_bytes (c.whole_characters_are_the_longest_text.ensures.within u) (c.in-Some.ensures.stands_for u (characters u) taken.cut_stands) ∙ ap fault all

pub returns-in-Some-clause-stands : goal.returns-in-Some-clause-stands
returns-in-Some-clause-stands g c = λ at ended.
    let table = g.W.Weights.table c.args.table.now in
    let pattern = c.args.pattern.now in
    let text = c.args.text.now in
    let u = take c.loop-byte.byte-index text in
    let taken = c.loop-byte.invariant.taken in
    let all : u ≡ text = take_all c.loop-byte.byte-index text c.loop-byte-test.false in
    let f : TextFault = record { kind = 31; offset = c.in-Some.offset } in
    let within = c.whole_characters_are_the_longest_text.ensures.within u in
    let first = c.in-Some.ensures.stands_for u (characters u) taken.cut_stands in
    let faulty : fault text ≡ Some f = sym (cut_end u c.in-Some.offset taken.open_bytes within first ∙ ap fault all) in
    let good = good_at_fault text u [] f (sym all ∙ sym (append-nil u)) within faulty (first_fault-at u c.in-Some.offset first) in
    subst (λ (bs : List ℕ). HasCompared table pattern c.loop-byte.self (chars bs)) (sym good) taken.compared
