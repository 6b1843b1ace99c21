use Rattle.std.specs.Char.{len_utf8, encode_utf8}
use Rattle.std.specs.Str.Iter.{chars_rest}
use Rattle.std.proofs.Common.{◌≡◌, ◌+◌, ◌≤◌, ◌∙◌, List, [], ◌∷◌, ◌++◌, length, ℕ, nat_lt, chars, Ok, Bool, Result, IsUtf8, refl, sym, ap, subst, arith, append_assoc}
use Rattle.std.proofs.StrCases.{chars_of_empty}
use Rattle.std.proofs.lemmas.Bool.{lt-ltb}
use Rattle.std.proofs.lemmas.List.{append-nil}
use Rattle.std.proofs.lemmas.Option.{none-some}
use Rattle.std.proofs.lemmas.Str.{IsUtf8-past_char, chars_past_char, encodes-chars}
use Rattle.nfd_points.specs.declared.faults.PointFault.{PointFault}
use Rattle.nfd_points.specs.Points.{byte_len, points}
use Rattle.nfd_points.specs.PointFaults.{point_fault}
use Rattle.nfd_points.specs.Laws.{BytesAreCounted, BytesOfParts}
use Rattle.collation_elements.specs.Keys.{keys as keys_of}
use Rattle.collation_anchored.proofs.comparison.Comparison.has_more_keys.Goals as goal

abbrev ok_of : Bool → Result Bool PointFault
ok_of more = Ok more

pub loop-c-init : goal.loop-c-init
unfolding byte_len
loop-c-init g c =
    let rest : chars_rest c.into_iter-c-iterator.result ≡ c.args.text.now = ap chars_rest c.into_iter-c-iterator.ensures.into_iter_gives ∙ c.chars-c-items.ensures.rest in
    record {
      taken = ([], c.begin.ensures.counted (g.W.Weights.table c.args.table.now), refl, ap chars (sym rest));
      utf8 = subst IsUtf8 (sym rest) c.utf8.text;
      few = omega arith;
      longest = c.begin.ensures.longest ∙ c.requires.longest;
      same = c.begin.ensures.longest;
    }

-- the text, where this character is next
next-is : (text taken before after : List ℕ) (c : ℕ) → IsUtf8 before → before ≡ encode_utf8 c ++ after → chars text ≡ taken ++ chars before → chars text ≡ taken ++ c ∷ chars after
next-is text taken before after c utf8 parts is = is ∙ ap (λ (cs : List ℕ). taken ++ cs) (chars_past_char before after c utf8 parts)

pub returns-then-more-clause-more : goal.returns-then-more-clause-more
returns-then-more-clause-more g c = λ good.
    let table = g.W.Weights.table c.args.table.now in
    let pattern = c.args.pattern.now in
    let i = c.loop-c.invariant in
    let taken = i.taken.0 in
    let after = chars_rest c.next.new.self in
    let is = next-is c.args.text.now taken (chars_rest c.loop-c.c-iterator) after c.in-Some.c i.utf8 c.in-Some.ensures.steps.0 i.taken.3 in
    let of : List ℕ → ℕ = λ cs. length (keys_of table pattern.strength pattern.variable (points cs)) in
    let more = c.in-Ok.ensures.more pattern taken (chars after) i.taken.1 i.taken.2 (ap ok_of c.if-more.true) in
    let same = ap of is in
    sym (lt-ltb (length pattern.keys) (of (chars c.args.text.now)) (omega (arith, more, same, c.len-most.ensures.keys)))

pub returns-in-Err-clause-more : goal.returns-in-Err-clause-more
returns-in-Err-clause-more g c = λ good.
    let i = c.loop-c.invariant in
    let taken = i.taken.0 in
    let after = chars_rest c.next.new.self in
    let is = next-is c.args.text.now taken (chars_rest c.loop-c.c-iterator) after c.in-Some.c i.utf8 c.in-Some.ensures.steps.0 i.taken.3 in
    let fault = c.in-Err.ensures.fault c.args.pattern.now taken (chars after) i.taken.1 in
    absurd (none-some _ (sym good ∙ ap point_fault is ∙ fault))

-- the bytes up to there are among those of the text
counted : BytesAreCounted → BytesOfParts → (text taken after : List ℕ) (c bytes : ℕ) → IsUtf8 text → chars text ≡ taken ++ c ∷ after → length text ≡ bytes →
    (byte_len (taken ++ c ∷ []) ≡ byte_len taken + len_utf8 c) × (byte_len taken + len_utf8 c ≤ bytes)
unfolding byte_len
counted count parts text taken after c bytes utf8 is len =
    let one = parts taken (c ∷ []) in
    let all = ap byte_len is ∙ parts taken (c ∷ after) in
    let whole = count (chars text) ∙ ap (λ (bs : List ℕ). length bs) (encodes-chars text utf8) in
    (omega (arith, one), omega (arith, all, whole, len))

pub overflow_add-offset : goal.overflow_add-offset
overflow_add-offset g c =
    let i = c.loop-c.invariant in
    let taken = i.taken.0 in
    let after = chars_rest c.next.new.self in
    let is = next-is c.args.text.now taken (chars_rest c.loop-c.c-iterator) after c.in-Some.c i.utf8 c.in-Some.ensures.steps.0 i.taken.3 in
    let within = (counted c.laws_of_points.ensures.bytes c.laws_of_points.ensures.bytes_of_parts c.args.text.now taken (chars after) c.in-Some.c c.args.bytes c.utf8.text is c.requires.len).1 in
    let offset = i.taken.2 in
    omega (arith, within, offset, c.len_utf8.ensures.value)

pub loop-c-preserved : goal.loop-c-preserved
loop-c-preserved g c =
    let table = g.W.Weights.table c.args.table.now in
    let pattern = c.args.pattern.now in
    let i = c.loop-c.invariant in
    let taken = i.taken.0 in
    let after = chars_rest c.next.new.self in
    let parts = c.in-Some.ensures.steps.0 in
    let is = next-is c.args.text.now taken (chars_rest c.loop-c.c-iterator) after c.in-Some.c i.utf8 parts i.taken.3 in
    let bytes = (counted c.laws_of_points.ensures.bytes c.laws_of_points.ensures.bytes_of_parts c.args.text.now taken (chars after) c.in-Some.c c.args.bytes c.utf8.text is c.requires.len).0 in
    let offset = i.taken.2 in
    record {
      taken = (
        taken ++ c.in-Some.c ∷ [],
        c.in-Ok.ensures.stands pattern taken i.taken.1 offset (ap ok_of c.if-more.false),
        omega (arith, bytes, offset, c.len_utf8.ensures.value),
        is ∙ sym (append_assoc taken (c.in-Some.c ∷ []) (chars after)),
      );
      utf8 = IsUtf8-past_char (chars_rest c.loop-c.c-iterator) after c.in-Some.c i.utf8 parts;
      few = c.in-Ok.ensures.within;
      longest = c.in-Ok.ensures.longest ∙ i.longest;
      same = c.in-Ok.ensures.longest ∙ i.same;
    }

pub returns-clause-more : goal.returns-clause-more
returns-clause-more g c = λ good.
    let table = g.W.Weights.table c.args.table.now in
    let pattern = c.args.pattern.now in
    let i = c.loop-c.invariant in
    let taken = i.taken.0 in
    let none : chars (chars_rest c.loop-c.c-iterator) ≡ [] = chars_of_empty (chars_rest c.loop-c.c-iterator) c.in-None.ensures.steps.0.0 in
    let all : taken ≡ chars c.args.text.now = sym (i.taken.3 ∙ ap (λ (cs : List ℕ). taken ++ cs) none ∙ append-nil taken) in
    c.count_rest.ensures.more pattern taken i.taken.1
    ∙ ap (λ n. nat_lt n (length (keys_of table pattern.strength pattern.variable (points taken)))) c.len-most.ensures.keys
    ∙ ap (λ (cs : List ℕ). nat_lt (length pattern.keys) (length (keys_of table pattern.strength pattern.variable (points cs)))) all
