use Rattle.std.specs.Str.{chars, IsUtf8}
use Rattle.std.proofs.Common.{◌≡◌, ◌∙◌, ℕ, ◌+◌, ◌-◌, true, List, ◌++◌, length, take, drop, sym, ap, subst, arith, append_assoc}
use Rattle.std.proofs.lemmas.List.{length-drop, take_rest}
use Rattle.std.proofs.lemmas.List.Elements.{All-same, All-nil}
use Rattle.unicode_normalization.specs.StreamSafe.{has_short_runs}
use Rattle.nfd_points.specs.Points.{byte_len, points_of, begins_with_starter}
use Rattle.nfd_points.specs.Reordering.{IsSoundPoint, code_points, is_closed}
use Rattle.collation_walk.specs.declared.walk.Walk.{Walk}
use Rattle.collation_finder.specs.TakenAtOnce.{IsPausedBefore}
use Rattle.collation_finder.specs.Early.{IsCutUpTo}
use Rattle.collation_finder.specs.Finding.{FinderStandsFor}
use Rattle.collation_finder.specs.LetterRun.{StandsInFront}
use Rattle.collation_finder.specs.Taking.{StandsPaused}
use Rattle.collation_finder.proofs.CharacterLemmas.{chars-len, chars-more, text-more}
use Rattle.collation_finder.proofs.finder.Finder.take_short_piece.Given as given
use Rattle.collation_finder.proofs.finder.Finder.take_short_piece.Goals.{After-go_on}
use Rattle.collation_finder.proofs.finder.Finder.take_short_piece.Goals as goal

pub invariant_of-self : goal.invariant_of-self
unfolding is_closed has_short_runs
invariant_of-self g c =
    let old = c.args.self.now in
    let none = ap (λ w. w.points) c.clear.ensures.empty in
    let room = ap (λ w. w.capacity) c.clear.ensures.empty in
    let fits = old.short in
    let few = old.undecided in
    record {
      short = omega (arith, room, fits);
      undecided = let zero = ap length none in omega (arith, zero, room, few);
      closed = ap is_closed none;
      sound = All-same IsSoundPoint _ _ none (All-nil IsSoundPoint);
      short_runs = ap (λ ps. has_short_runs 0 (code_points ps)) none;
      state = let zero = ap (λ w. w.state) c.pass_to.ensures in omega (arith, zero);
    }

pub go_on-requires-clause-ready : goal.go_on-requires-clause-ready
go_on-requires-clause-ready g c = record {
  open_text = ap (λ w. w.has_ended) c.clear.ensures.empty;
  made = record {
    longest = ap (λ w. w.capacity) c.clear.ensures.empty ∙ c.requires.ready.made.longest;
    pattern_len = ap (λ w. w.places.capacity) c.pass_to.ensures ∙ c.requires.ready.made.pattern_len;
  };
}

pub go_on-requires-clause-first : goal.go_on-requires-clause-first
go_on-requires-clause-first g c =
    let piece = c.args.front.piece.now in
    let len = c.args.passed.end.len in
    let p = c.requires.passes.passes in
    let within = p.within in
    let long = length-drop len piece in
    let there : StandsInFront (drop len piece) c.args.passed.end.next = (omega (arith, within, long), p.spelled) in
    record {
      front = subst (λ (bs : List ℕ). StandsInFront bs c.args.passed.end.next) (sym (take_rest piece len)) there;
      begins = p.begins;
      letter = c.requires.passes.letter;
    }

-- the characters of both parts
codes : (piece taken : List ℕ) (n m : ℕ) → IsUtf8 (take n piece) → (taken ++ chars (take n piece)) ++ chars (take m (take (length piece - n) (drop n piece))) ≡ taken ++ chars (take (n + m) piece)
codes piece taken n m text =
    let cs = chars (take n piece) in
    let ds = chars (take m (take (length piece - n) (drop n piece))) in
    let more : ds ≡ chars (take m (drop n piece)) = ap (λ (bs : List ℕ). chars (take m bs)) (take_rest piece n) in
    append_assoc taken cs ds ∙ ap (λ (t : List ℕ). taken ++ t) (ap (λ (t : List ℕ). cs ++ t) more ∙ sym (chars-more piece n m text))

-- the pause behind what is passed by
paused : (g : given.Over) (c : After-go_on g) (taken : List ℕ) (handed : List (ℕ × ℕ)) → FinderStandsFor (g.W.Weights.table c.args.query.now.table.now) c.args.query.now.pattern.now c.args.self.now taken handed →
    c.args.front.offset ≡ byte_len taken →
    IsPausedBefore (g.W.Weights.table c.args.query.now.table.now) c.args.query.now.pattern.now c.args.self.now.reorder c.clear.new.self (record c.args.self.now.matcher { walk = c.pass_to.new.self })
    (taken ++ chars (take c.args.passed.end.len c.args.front.piece.now)) handed c.args.passed.end.next
paused g c taken handed h at =
    let table = g.W.Weights.table c.args.query.now.table.now in
    let pattern = c.args.query.now.pattern.now in
    let old = c.args.self.now in
    let cs = chars (take c.args.passed.end.len c.args.front.piece.now) in
    subst (λ (v : Walk). IsPausedBefore table pattern old.reorder c.clear.new.self (record old.matcher { walk = v }) (taken ++ cs) handed c.args.passed.end.next) (sym c.pass_to.ensures)
    (c.requires.passes.passes.paused taken handed c.clear.new.self (ap (λ w. w.points) c.clear.ensures.empty) h at)

-- where it ends
place_behind : (g : given.Over) (c : After-go_on g) (taken : List ℕ) → c.args.front.offset ≡ byte_len taken →
    c.args.front.offset + c.args.passed.end.len ≡ byte_len (taken ++ chars (take c.args.passed.end.len c.args.front.piece.now))
place_behind g c taken at =
    let piece = c.args.front.piece.now in
    let len = c.args.passed.end.len in
    let p = c.requires.passes.passes in
    let within = p.within in
    let count = chars-len piece len (omega (arith, within)) p.text in
    omega (arith, at, count, c.laws_of_points.ensures.bytes_of_parts taken (chars (take len piece)))

-- behind it the search is paused
stands : (g : given.Over) (c : After-go_on g) (taken : List ℕ) (handed : List (ℕ × ℕ)) → FinderStandsFor (g.W.Weights.table c.args.query.now.table.now) c.args.query.now.pattern.now c.args.self.now taken handed →
    c.args.front.offset ≡ byte_len taken →
    StandsPaused (g.W.Weights.table c.args.query.now.table.now) c.args.query.now.pattern.now c.args.self.now.reorder c.clear.new.self (record c.args.self.now.matcher { walk = c.pass_to.new.self }) c.args.passed.end.next
    (taken ++ chars (take c.args.passed.end.len c.args.front.piece.now)) handed
stands g c taken handed h at = record {
  paused = paused g c taken handed h at;
  starter = subst (λ k. begins_with_starter (points_of k c.args.passed.end.next) ≡ true) (place_behind g c taken at) c.requires.passes.passes.begins;
}

pub returns-clause-taken : goal.returns-clause-taken
returns-clause-taken g c =
    let here = (goal.at.returns-clause-taken g c).After-go_on in
    let table = g.W.Weights.table c.args.query.now.table.now in
    let pattern = c.args.query.now.pattern.now in
    let piece = c.args.front.piece.now in
    let len = c.args.passed.end.len in
    let p = c.requires.passes.passes in
    let near = p.near in
    let within = p.within in
    let run = c.go_on.ensures.taken in
    let more = run.2 in
    let few = more.within in
    let long = length-drop len piece in (
      run.0,
      run.1,
      record {
        stands = λ taken handed h at.
            subst (λ t. FinderStandsFor table pattern c.go_on.new.self t (handed ++ run.0)) (codes piece taken len c.go_on.result p.text)
            (more.stands (taken ++ chars (take len piece)) handed (stands g here taken handed h at) (place_behind g here taken at));
        left = λ place taken handed h at.
            let reach = h.0 in
            let behind = place_behind g here taken at in
            subst (λ t. IsCutUpTo table place t c.go_on.new.self.window.points) (codes piece taken len c.go_on.result p.text)
            (more.left place (taken ++ chars (take len piece)) handed (omega (arith, reach, near, at, behind), stands g here taken handed h.1.stands at) behind);
        within = omega (arith, few, long, within, ap length (take_rest piece len));
        text = text-more piece len c.go_on.result p.text (subst (λ (bs : List ℕ). IsUtf8 (take c.go_on.result bs)) (take_rest piece len) more.text);
        goes_on = record {
          open_text = more.goes_on.open_text;
          setup = record {
            longest = more.goes_on.setup.longest ∙ ap (λ w. w.capacity) c.clear.ensures.empty;
            pattern_len = more.goes_on.setup.pattern_len ∙ ap (λ w. w.places.capacity) c.pass_to.ensures;
            select = more.goes_on.setup.select ∙ ap (λ w. w.select) c.pass_to.ensures;
          };
        };
      },
    )
