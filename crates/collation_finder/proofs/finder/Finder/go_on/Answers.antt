use Rattle.std.specs.Char.{len_utf8}
use Rattle.std.specs.Str.{chars, IsUtf8}
use Rattle.std.specs.List.{FoldsTo}
use Rattle.std.specs.Prelude.{Result, OnOk, Ok, Some, slice_get, slice_index}
use Rattle.std.proofs.Common.{◌≡◌, ◌∙◌, ℕ, ◌+◌, ◌-◌, ◌<◌, ◌≤◌, true, inr, List, [], ◌∷◌, ◌++◌, length, take, drop, refl, sym, ap, subst, arith, append_assoc}
use Rattle.std.proofs.lemmas.Bool.{ltb-true}
use Rattle.std.proofs.lemmas.List.{length-drop, take_rest}
use Rattle.std.proofs.lemmas.Str.{len_utf8_ascii}
use Rattle.utf8_cut.specs.Sequences.{SpellsCharacter}
use Rattle.nfd_points.specs.Points.{byte_len, points_of, begins_with_starter}
use Rattle.collation_finder.specs.Early.{IsCutUpTo}
use Rattle.collation_finder.specs.Finding.{FinderStandsFor}
use Rattle.collation_finder.specs.Taking.{StandsPaused, StandsPausedBefore}
use Rattle.collation_finder.proofs.AsciiLemmas.{ascii-front, first-of}
use Rattle.collation_finder.proofs.CharacterLemmas.{text-more, chars-len, chars-more}
use Rattle.collation_finder.proofs.LoopSteps.{codes-on, come-paused, last_spelled}
use Rattle.collation_walk.proofs.Folds.{folds-append}
use Rattle.collation_finder.proofs.finder.Finder.go_on.Given as given
use Rattle.collation_finder.proofs.finder.Finder.go_on.Goals.{After-walk_letters-walked}
use Rattle.collation_finder.proofs.finder.Finder.go_on.Goals as goal

-- where they end
place_behind : (g : given.Over) (c : After-walk_letters-walked g) (taken : List ℕ) → c.args.front.offset ≡ byte_len taken →
    c.args.front.offset + c.walk_letters-walked.result.len ≡ byte_len (taken ++ chars (take c.walk_letters-walked.result.len c.args.front.piece.now))
place_behind g c taken place =
    let piece = c.args.front.piece.now in
    let at = c.walk_letters-walked.result.len in
    let e = c.walk_letters-walked.ensures.come.2 in
    let within = e.within in
    let len = chars-len piece at (omega (arith, within)) e.text in
    omega (arith, place, len, c.laws_of_characters.ensures.bytes taken (chars (take at piece)))

-- there it is paused
stands : (g : given.Over) (c : After-walk_letters-walked g) (taken : List ℕ) (handed : List (ℕ × ℕ)) →
    StandsPaused (g.W.Weights.table c.args.query.now.table.now) c.args.query.now.pattern.now c.args.self.now.reorder c.args.self.now.window c.args.self.now.matcher c.args.from.next taken handed → c.args.front.offset ≡ byte_len taken →
    StandsPaused (g.W.Weights.table c.args.query.now.table.now) c.args.query.now.pattern.now c.args.self.now.reorder c.args.self.now.window c.walk_letters-walked.new.matcher c.walk_letters-walked.result.next
    (taken ++ chars (take c.walk_letters-walked.result.len c.args.front.piece.now)) (handed ++ c.walk_letters-walked.ensures.come.0)
stands g c taken handed h place =
    let piece = c.args.front.piece.now in
    let at = c.walk_letters-walked.result.len in
    let next = c.walk_letters-walked.result.next in
    let walked = c.walk_letters-walked.ensures.come in
    let e = walked.2 in
    let old = c.args.self.now in
    let within = e.within in
    let len = chars-len piece at (omega (arith, within)) e.text in
    let begins = subst (λ k. begins_with_starter (points_of (c.args.front.offset + k) next) ≡ true) len e.apart.next_begins in
    record {
      paused = come-paused c.laws_of_characters.ensures (g.W.Weights.table c.args.query.now.table.now) c.args.query.now.pattern.now piece c.args.front.offset c.args.front.reach c.args.from.next at next old.matcher c.walk_letters-walked.new.matcher walked.0 old.reorder old.window taken handed e h.paused place;
      starter = subst (λ k. begins_with_starter (points_of k next) ≡ true) (place_behind g c taken place) begins;
    }

pub take-requires-clause-ready : goal.take-requires-clause-ready
take-requires-clause-ready g c = record {
  open_text = c.requires.ready.open_text;
  made = record {
    longest = c.requires.ready.made.longest;
    pattern_len = c.walk_letters-walked.ensures.keeps.room ∙ c.requires.ready.made.pattern_len;
  };
}

pub take_ascii-len-requires-clause-ready : goal.take_ascii-len-requires-clause-ready
take_ascii-len-requires-clause-ready g c = record {
  open_text = c.requires.ready.open_text;
  made = record {
    longest = c.requires.ready.made.longest;
    pattern_len = c.walk_letters-walked.ensures.keeps.room ∙ c.requires.ready.made.pattern_len;
  };
}

on_ok-there : {E X : Type 0} → (r : Result (Unit {0}) E) → r ≡ Ok tt → OnOk r X → X
on_ok-there {E} {X} r same h = subst (λ (t : Result (Unit {0}) E). OnOk t X) same h

pub returns-clause-taken : goal.returns-clause-taken
returns-clause-taken g c =
    let here = (goal.at.returns-clause-taken g c).After-walk_letters-walked in
    let table = g.W.Weights.table c.args.query.now.table.now in
    let pattern = c.args.query.now.pattern.now in
    let piece = c.args.front.piece.now in
    let at = c.walk_letters-walked.result.len in
    let n = c.len_utf8.result in
    let next = c.walk_letters-walked.result.next in
    let walked = c.walk_letters-walked.ensures.come in
    let e = walked.2 in
    let cs = chars (take at piece) in
    let last = c.take.new.found.items in
    let keeps = c.walk_letters-walked.ensures.keeps in
    let on = c.take.ensures.goes_on in
    let within = e.within in
    let near = e.near in
    let codes = λ (taken : List ℕ). codes-on piece taken at n next c.len_utf8.ensures.value e.text e.next in
    let found = on_ok-there c.take.result (c.take.ensures.apart c.requires.none_waits) c.take.ensures.taken in
    let last_calls = subst (λ (t : List (ℕ × ℕ)). FoldsTo (λ f range t'. goal.F-step g f range.0 range.1 tt t') c.walk_letters-walked.new.sink t c.hand_out-2.new.sink) c.as_slice-2.ensures.value c.hand_out-2.ensures.called in (
      walked.0 ++ last,
      folds-append (λ f range t. goal.F-step g f range.0 range.1 tt t) c.args.sink.now walked.0 last c.walk_letters-walked.new.sink c.hand_out-2.new.sink walked.1 last_calls,
      record {
        stands = λ taken handed h place.
            let there : StandsPausedBefore table pattern c.args.self.now.reorder c.args.self.now.window c.walk_letters-walked.new.matcher (Some next) (taken ++ cs) (handed ++ walked.0) = record { next = next; some = refl; stands = stands g here taken handed h place } in
            subst (λ t. FinderStandsFor table pattern c.take.new.self t (handed ++ (walked.0 ++ last))) (codes taken)
            (subst (λ (t : List (ℕ × ℕ)). FinderStandsFor table pattern c.take.new.self ((taken ++ cs) ++ next ∷ []) t) (append_assoc handed walked.0 last)
            (found.stands (taken ++ cs) (handed ++ walked.0) (inr there) (place_behind g here taken place)));
        left = λ far taken handed h place.
            let there : StandsPausedBefore table pattern c.args.self.now.reorder c.args.self.now.window c.walk_letters-walked.new.matcher (Some next) (taken ++ cs) (handed ++ walked.0) = record { next = next; some = refl; stands = stands g here taken handed h.1 place } in
            let reach = h.0 in
            let offset = place_behind g here taken place in
            subst (λ t. IsCutUpTo table far t c.take.new.self.window.points) (codes taken)
            (found.left far (taken ++ cs) (handed ++ walked.0) (inr (omega (arith, near, reach, place, offset), there)) offset);
        within = omega (arith, within, c.len_utf8.ensures.value);
        text = text-more piece at n e.text (last_spelled piece at n next c.len_utf8.ensures.value e.next).0;
        goes_on = record {
          open_text = on.open_text;
          setup = record {
            longest = on.setup.longest;
            pattern_len = on.setup.pattern_len ∙ keeps.room;
            select = on.setup.select ∙ keeps.select;
          };
        };
      },
    )

-- ---- the end of a piece

-- some are taken, and the first of them is the character that follows
some_ascii : (rest : List ℕ) (next n : ℕ) → len_utf8 next ≤ length rest → next < 128 → SpellsCharacter (take (len_utf8 next) rest) next → (0 < length rest → slice_index rest 0 < 128 → 0 < n) →
    n ≤ length rest → slice_get (take n rest) 0 ≡ Some next
some_ascii rest next n within low spelled some few =
    let first = ascii-front rest next low spelled in
    let one = len_utf8_ascii next low in
    let any = some (omega (arith, within, one)) (subst (λ k. k < 128) (sym first) low) in
    let front = first-of n rest any few in
    ap (λ (t : List ℕ). slice_get t 0) front.1 ∙ ap (λ k. Some k) first

pub returns-then-rest-max-clause-taken : goal.returns-then-rest-max-clause-taken
returns-then-rest-max-clause-taken g c =
    let here = (goal.at.returns-then-rest-max-clause-taken g c).After-walk_letters-walked in
    let table = g.W.Weights.table c.args.query.now.table.now in
    let pattern = c.args.query.now.pattern.now in
    let piece = c.args.front.piece.now in
    let at = c.walk_letters-walked.result.len in
    let n = c.take_ascii-len.result in
    let next = c.walk_letters-walked.result.next in
    let walked = c.walk_letters-walked.ensures.come in
    let e = walked.2 in
    let cs = chars (take at piece) in
    let ascii = c.take_ascii-len.ensures in
    let last = c.take_ascii-len.new.found.items in
    let now = c.take_ascii-len.new.self in
    let keeps = c.walk_letters-walked.ensures.keeps in
    let on = ascii.goes_on in
    let within = e.within in
    let near = e.near in
    let rest = take (length piece - at) (drop at piece) in
    let is = take_rest piece at in
    let long = length-drop at piece in
    let ds = chars (take n rest) in
    let codes = λ (taken : List ℕ).
    append_assoc taken cs ds ∙ ap (λ (t : List ℕ). taken ++ t) (ap (λ (bs : List ℕ). cs ++ chars (take n bs)) is ∙ sym (chars-more piece at n e.text)) in
    let some = some_ascii rest next n (omega (arith, within, ap length is, long)) (ltb-true next 128 (sym c.is_ascii.ensures ∙ c.if-is_ascii.true)) (subst (λ (bs : List ℕ). SpellsCharacter (take (len_utf8 next) bs) next) (sym is) e.next) (ascii.some c.requires.none_waits) ascii.within in
    let last_calls = subst (λ (t : List (ℕ × ℕ)). FoldsTo (λ f range t'. goal.F-step g f range.0 range.1 tt t') c.walk_letters-walked.new.sink t c.hand_out.new.sink) c.as_slice.ensures.value c.hand_out.ensures.called in (
      walked.0 ++ last,
      folds-append (λ f range t. goal.F-step g f range.0 range.1 tt t) c.args.sink.now walked.0 last c.walk_letters-walked.new.sink c.hand_out.new.sink walked.1 last_calls,
      record {
        stands = λ taken handed h place.
            let there : StandsPausedBefore table pattern c.args.self.now.reorder c.args.self.now.window c.walk_letters-walked.new.matcher (slice_get (take n rest) 0) (taken ++ cs) (handed ++ walked.0) = record { next = next; some = some; stands = stands g here taken handed h place } in
            subst (λ t. FinderStandsFor table pattern now t (handed ++ (walked.0 ++ last))) (codes taken)
            (subst (λ (t : List (ℕ × ℕ)). FinderStandsFor table pattern now ((taken ++ cs) ++ ds) t) (append_assoc handed walked.0 last)
            (ascii.taken.stands (taken ++ cs) (handed ++ walked.0) (inr there) (place_behind g here taken place)));
        left = λ far taken handed h place.
            let there : StandsPausedBefore table pattern c.args.self.now.reorder c.args.self.now.window c.walk_letters-walked.new.matcher (slice_get (take n rest) 0) (taken ++ cs) (handed ++ walked.0) = record { next = next; some = some; stands = stands g here taken handed h.1 place } in
            let reach = h.0 in
            let offset = place_behind g here taken place in
            subst (λ t. IsCutUpTo table far t now.window.points) (codes taken)
            (ascii.taken.left far (taken ++ cs) (handed ++ walked.0) (inr (omega (arith, near, reach, place, offset), there)) offset);
        within = let few = ascii.within in omega (arith, within, few, ap length is, long);
        text = text-more piece at n e.text (subst (λ (bs : List ℕ). IsUtf8 (take n bs)) is ascii.text);
        goes_on = record {
          open_text = on.open_text;
          setup = record {
            longest = on.setup.longest;
            pattern_len = on.setup.pattern_len ∙ keeps.room;
            select = on.setup.select ∙ keeps.select;
          };
        };
      },
    )
