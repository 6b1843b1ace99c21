use Rattle.std.specs.Char.{len_utf8}
use Rattle.std.specs.List.{FoldsTo}
use Rattle.std.specs.Str.{chars}
use Rattle.std.proofs.Common.{◌<◌, ◌≡◌, ◌∙◌, ℕ, ◌+◌, ◌-◌, List, [], ◌∷◌, ◌++◌, length, take, drop, None, true, refl, sym, ap, subst, arith, rules, append_assoc}
use Rattle.std.proofs.lemmas.Bool.{false≢true}
use Rattle.std.proofs.lemmas.List.{append-nil, take_rest, length-drop}
use Rattle.utf8_cut.specs.Sequences.{SpellsCharacter}
use Rattle.nfd_points.specs.Points.{points_of, begins_with_starter}
use Rattle.collation_letters.specs.Letters.{IsLetter}
use Rattle.collation_letters.proofs.ClusterLemmas.{letter-of}
use Rattle.collation_walk.specs.declared.matching.Matcher.{Matcher}
use Rattle.collation_finder.specs.LetterRun.{AreNext, HasComeTo, HasWalkedTo}
use Rattle.collation_finder.proofs.CharacterLemmas.{part-more, one_part, one_taken, chars-len, some-bytes}
use Rattle.collation_walk.proofs.Folds.{folds-append}
use Rattle.collation_finder.proofs.LoopSteps.{come-further}
use Rattle.collation_walk.proofs.WalkSteps.{keeps-on}
use Rattle.collation_finder.proofs.letter_loop.walk_run.Given as given
use Rattle.collation_finder.proofs.letter_loop.walk_run.Goals.{After-walk_letter-has_range}
use Rattle.collation_finder.proofs.letter_loop.walk_run.Goals as goal

pub characters-init : goal.characters-init
characters-init g c =
    let table = g.W.Weights.table c.args.query.now.table.now in
    let pattern = c.args.query.now.pattern.now in
    let piece = c.args.front.piece.now in
    let from = c.args.from in
    let f = c.requires.followed in
    let part = one_part piece from.len (from.len + c.len_utf8.result) from.next (omega (arith, c.len_utf8.ensures.value)) f.next in
    record {
      callable = c.requires.callable;
      right = c.requires.right;
      keeps = record { state = c.requires.state; select = refl; room = refl };
      later = omega arith;
      forth = omega arith;
      ends = omega (arith, c.len_utf8.ensures.value, f.within);
      part = part.0;
      first = ([], part.1);
      letter = subst (λ (cs : List ℕ). IsLetter table pattern cs from.letter) (sym part.1) f.letter;
      come = (
        [],
        refl,
        λ first before earlier h. subst (λ (rs : List (ℕ × ℕ)). HasComeTo table pattern piece c.args.front.offset c.args.front.reach first before c.args.matcher.now from.len from.next rs) (sym (append-nil earlier)) h,
      );
    }

-- the characters of the letter and the next one are one unit
pub characters-preserved-then-not-is_next : goal.characters-preserved-then-not-is_next
characters-preserved-then-not-is_next g c =
    let table = g.W.Weights.table c.args.query.now.table.now in
    let pattern = c.args.query.now.pattern.now in
    let piece = c.args.front.piece.now in
    let l = c.characters in
    let i = l.invariant in
    let at = l.here.len in
    let next = c.in-Some.next in
    let n = c.in-Some.len in
    let rest = take_rest piece l.end in
    let long = ap length rest ∙ length-drop l.end piece in
    let some = c.in-Some.ensures.some in
    let value = c.in-Some.ensures.len in
    let spelled = subst (λ (bs : List ℕ). SpellsCharacter (take (len_utf8 next) bs) next) rest some.1 in
    let one = one_taken (drop l.end piece) n next value spelled in
    let all = part-more piece at l.end n next i.forth i.part one.0 one.1 in
    record {
      callable = i.callable;
      right = c.in-Some-join.ensures.right;
      keeps = i.keeps;
      later = i.later;
      forth = omega (arith, i.forth);
      ends = omega (arith, some.0, long, value, i.ends);
      part = all.0;
      first = (i.first.0 ++ next ∷ [], all.1 ∙ ap (λ (t : List ℕ). t ++ next ∷ []) i.first.1);
      letter = subst (λ (cs : List ℕ). IsLetter table pattern cs c.in-Some-join.both) (sym all.1)
          (c.in-Some-join.ensures.joined i.letter c.letter-following.ensures.letter);
      come = i.come;
    }

-- ---- the characters of the letter, which were walked over

following : (g : given.Over) (c : After-walk_letter-has_range g) → AreNext (g.W.Weights.table c.args.query.now.table.now) c.args.front.piece.now c.args.front.offset c.args.front.reach c.characters.here.len c.characters.end c.characters.here.next c.in-Some.next
following g c =
    let piece = c.args.front.piece.now in
    let l = c.characters in
    let i = l.invariant in
    let at = l.here.len in
    let next = c.in-Some.next in
    let rest = take_rest piece l.end in
    let long = ap length rest ∙ length-drop l.end piece in
    let some = c.in-Some.ensures.some in
    record {
      forth = i.forth;
      near = c.if-end-front.false;
      within = omega (arith, some.0, long, i.ends);
      spelled = subst (λ (bs : List ℕ). SpellsCharacter (take (len_utf8 next) bs) next) rest some.1;
      part = i.part;
      first = i.first;
      ends = c.is_next.ensures.apart c.if-not-is_next.false None (g.W.Weights.table c.args.query.now.table.now) c.args.query.now.pattern.now (c.args.front.offset + at) (chars (take (l.end - at) (drop at piece))) next
          (letter-of (g.W.Weights.table c.args.query.now.table.now) c.args.query.now.pattern.now (chars (take (l.end - at) (drop at piece))) l.here.letter i.letter) c.letter-following.ensures.letter;
    }

begins : (g : given.Over) (c : After-walk_letter-has_range g) → begins_with_starter (points_of (c.args.front.offset + c.characters.end) c.in-Some.next) ≡ true
begins g c =
    let piece = c.args.front.piece.now in
    let l = c.characters in
    let i = l.invariant in
    let at = l.here.len in
    let next = following g c in
    let long = length-drop at piece in
    let part = chars-len (drop at piece) (l.end - at) (omega (arith, long, i.ends, i.forth)) i.part in
    subst (λ k. begins_with_starter (points_of k c.in-Some.next) ≡ true) (omega (arith, part, i.forth)) next.ends.begins

come : (g : given.Over) (c : After-walk_letter-has_range g) (first : ℕ) (before : Matcher) (earlier : List (ℕ × ℕ)) →
    HasWalkedTo (g.W.Weights.table c.args.query.now.table.now) c.args.query.now.pattern.now c.args.front first before c.args.matcher.now c.args.from earlier →
    HasComeTo (g.W.Weights.table c.args.query.now.table.now) c.args.query.now.pattern.now c.args.front.piece.now c.args.front.offset c.args.front.reach first before c.walk_letter-has_range.new.matcher c.characters.end c.in-Some.next
    (earlier ++ (c.characters.invariant.come.0 ++ c.walk_letter-has_range.ensures.walked.0))
come g c first before earlier h =
    let table = g.W.Weights.table c.args.query.now.table.now in
    let pattern = c.args.query.now.pattern.now in
    let piece = c.args.front.piece.now in
    let l = c.characters in
    let i = l.invariant in
    let at = l.here.len in
    let walked = c.walk_letter-has_range.ensures.walked in
    subst (λ (rs : List (ℕ × ℕ)). HasComeTo table pattern piece c.args.front.offset c.args.front.reach first before c.walk_letter-has_range.new.matcher l.end c.in-Some.next rs) (append_assoc earlier i.come.0 walked.0)
    (come-further c.laws_of_characters.ensures table pattern piece c.args.front.offset c.args.front.reach first at l.end l.here.next c.in-Some.next before l.matcher c.walk_letter-has_range.new.matcher (earlier ++ i.come.0) walked.0
    (i.come.2 first before earlier h) (following g c) (walked.2 (chars (take (l.end - at) (drop at piece))) i.letter))

ranges : (g : given.Over) (c : After-walk_letter-has_range g) → FoldsTo (λ f range t. goal.F-step g f range.0 range.1 tt t) c.args.sink.now (c.characters.invariant.come.0 ++ c.walk_letter-has_range.ensures.walked.0) c.walk_letter-has_range.new.sink
ranges g c =
    let i = c.characters.invariant in
    let walked = c.walk_letter-has_range.ensures.walked in
    folds-append (λ f range t. goal.F-step g f range.0 range.1 tt t) c.args.sink.now i.come.0 walked.0 c.characters.sink c.walk_letter-has_range.new.sink i.come.1 walked.1

-- one of them has handed out the one range
pub returns-then-has_range-front-clause-walks : goal.returns-then-has_range-front-clause-walks
returns-then-has_range-front-clause-walks g c =
    let here = (goal.at.returns-then-has_range-front-clause-walks g c).After-walk_letter-has_range in (
      c.characters.invariant.come.0 ++ c.walk_letter-has_range.ensures.walked.0,
      ranges g here,
      record { come = come g here; due = λ yes. absurd (false≢true yes) },
    )

-- text may be passed by behind them
pub returns-then-front-end-ge-SHORTEST-clause-walks : goal.returns-then-front-end-ge-SHORTEST-clause-walks
returns-then-front-end-ge-SHORTEST-clause-walks g c =
    let here = (goal.at.returns-then-front-end-ge-SHORTEST-clause-walks g c).After-walk_letter-has_range in
    let l = c.characters in
    let i = l.invariant in
    let piece = c.args.front.piece.now in
    let next = following g here in
    let long = length-drop l.end piece in
    let on : c.args.from.len < l.end = omega (arith, i.later, some-bytes (drop l.here.len piece) (l.end - l.here.len) l.here.next i.first.0 i.first.1) in (
      i.come.0 ++ c.walk_letter-has_range.ensures.walked.0,
      ranges g here,
      record {
        come = come g here;
        due = λ yes. (
          on,
          record {
            near = next.near;
            first = record { front = (omega (arith, next.within, long), next.spelled); begins = begins g here; letter = c.letter-following.ensures.letter };
            later = omega (arith, on);
            fits = c.requires.fits;
            state = omega arith;
            flag = search rules;
          },
        );
      },
    )

-- nothing is passed by behind them
pub characters-preserved : goal.characters-preserved
characters-preserved g c =
    let here = (goal.at.characters-preserved g c).After-walk_letter-has_range in
    let l = c.characters in
    let i = l.invariant in
    let n = c.in-Some.len in
    let value = c.in-Some.ensures.len in
    let next = following g here in
    let part = one_part c.args.front.piece.now l.end (l.end + n) c.in-Some.next (omega (arith, value)) next.spelled in
    record {
      callable = c.walk_letter-has_range.ensures.callable;
      right = c.letter-following.ensures.right;
      keeps = keeps-on c.args.query.now.pattern.now _ _ _ i.keeps c.walk_letter-has_range.ensures.keeps;
      later = omega (arith, i.later, i.forth);
      forth = omega arith;
      ends = omega (arith, next.within, value);
      part = part.0;
      first = ([], part.1);
      letter = subst (λ (cs : List ℕ). IsLetter (g.W.Weights.table c.args.query.now.table.now) c.args.query.now.pattern.now cs c.letter-following.result) (sym part.1) c.letter-following.ensures.letter;
      come = (i.come.0 ++ c.walk_letter-has_range.ensures.walked.0, ranges g here, come g here);
    }
