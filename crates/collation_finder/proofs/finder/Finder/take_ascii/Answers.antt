use Rattle.std.specs.Char.{len_utf8}
use Rattle.std.specs.Str.{chars, IsAscii}
use Rattle.std.proofs.Common.{◌≡◌, ◌∙◌, ℕ, ◌+◌, ◌<◌, inl, inr, Some, List, [], ◌∷◌, ◌++◌, length, take, slice_get, get_or, sym, ap, subst, arith, eqb-true}
use Rattle.std.proofs.lemmas.List.{append-nil, nil_from_length}
use Rattle.std.proofs.lemmas.List.Elements.{All-same, All-append}
use Rattle.std.proofs.lemmas.Str.{chars-nil, chars-IsAscii, IsUtf8-from_ascii}
use Rattle.std.specs.List.{Contains}
use Rattle.unicode_normalization.specs.StreamSafe.{has_short_runs}
use Rattle.nfd_points.specs.declared.points.Point.{Point}
use Rattle.nfd_points.specs.Points.{begins_with_starter, byte_len, points, points_from}
use Rattle.nfd_points.specs.Reordering.{HasReordered, IsSoundPoint, code_points, is_closed}
use Rattle.collation_elements.specs.Decided.{left_points}
use Rattle.collation_finder.specs.Early.{IsCutUpTo}
use Rattle.collation_finder.specs.Matching.{HasMatched}
use Rattle.collation_finder.specs.TakenAtOnce.{EndsBefore}
use Rattle.collation_finder.specs.Taking.{StandsPaused, StandsPausedBefore}
use Rattle.collation_finder.proofs.TakenAtOnceLemmas.{begun, ends_here, from_first}
use Rattle.collation_finder.proofs.AsciiLemmas.{first-of, first-taken, given-ascii, given-front}
use Rattle.collation_finder.proofs.EarlyLemmas.{final-more, cut-afresh, cut-pushed, cut-wider}
use Rattle.collation_finder.proofs.MatchingLemmas.{matched-first, all-among, among-pushed}
use Rattle.collation_finder.proofs.PauseLemmas.{matched-afresh}
use Rattle.collation_finder.proofs.finder.Finder.take_ascii.Given as given
use Rattle.collation_finder.proofs.finder.Finder.take_ascii.Goals.{After-cut_units}
use Rattle.collation_finder.proofs.finder.Finder.take_ascii.Goals as goal

pub invariant_of-self-2 : goal.invariant_of-self-2
invariant_of-self-2 g c =
    let old = c.args.self.now in
    let out = c.ascii_points-len.new.points.items in
    let a = c.ascii_points-len.ensures in
    let leaves = c.cut_units.ensures.leaves in
    let keeps = c.cut_units.ensures.keeps in
    let made = c.requires.ready.made in
    let fits = old.short in
    let room = leaves.capacity ∙ ap (λ w. w.capacity) c.push_points.ensures.points in
    let open_window = ap (λ w. w.has_ended) c.push_points.ensures.points ∙ c.requires.ready.open_text in
    let pushed = ap (λ w. w.points) c.push_points.ensures.points ∙ ap (λ ps. old.window.points ++ ps) c.as_slice.ensures.value in
    let closed = ap is_closed pushed ∙ c.closed_points_append.ensures old.window.points out old.closed a.closed in
    let sound = All-same IsSoundPoint _ _ pushed (All-append IsSoundPoint old.window.points out old.sound a.sound) in
    let short = ap (λ ps. has_short_runs 0 (code_points ps)) pushed ∙ c.laws_of_runs.ensures.join old.window.points out old.sound old.closed old.short_runs a.short in
    record {
      short = omega (arith, room, fits);
      undecided = let few = leaves.rest open_window closed in omega (arith, few, room, made.longest);
      closed = leaves.last open_window closed;
      sound = all-among IsSoundPoint c.push_points.new.window.points c.cut_units.new.window.points sound leaves.kept;
      short_runs = leaves.short sound short;
      state = omega (arith, keeps.state, keeps.room, made.pattern_len);
    }

-- where a point waits

none_first : {P : Type 0} (bs : List ℕ) (next : ℕ) → slice_get (take 0 bs) 0 ≡ Some next → P
none_first bs next some = cc

no_more : (taken : List ℕ) → taken ≡ taken ++ chars []
no_more taken = sym (ap (λ (cs : List ℕ). taken ++ cs) chars-nil ∙ append-nil taken)

pub returns-then-not-is_empty-clause-taken : goal.returns-then-not-is_empty-clause-taken
returns-then-not-is_empty-clause-taken g c =
    let table = g.W.Weights.table c.args.query.now.table.now in
    let old = c.args.self.now in
    record {
      stands = λ taken ranges from offset. elim from [
        | inl h ↦ record {
          points = h.points;
          reordered = subst (λ (cs : List ℕ). HasReordered old.reorder cs h.points) (no_more taken) h.reordered;
          matched = subst (λ (t : List (ℕ × ℕ)). HasMatched table c.args.query.now.pattern.now old.window old.matcher h.points t)
              (sym (ap (λ (t : List (ℕ × ℕ)). ranges ++ t) c.clear.ensures ∙ append-nil ranges)) h.matched;
        }
        | inr behind ↦ none_first c.args.piece.now behind.next behind.some
      ];
      left = λ place taken ranges from offset. elim from [
        | inl before ↦ subst (λ (cs : List ℕ). IsCutUpTo table place cs old.window.points) (no_more taken) before.cut
        | inr behind ↦ none_first c.args.piece.now behind.1.next behind.1.some
      ];
    }

-- where none waits

pub returns-clause-text : goal.returns-clause-text
returns-clause-text g c = IsUtf8-from_ascii (take c.ascii_points-len.result c.args.piece.now) c.ascii_points-len.ensures.ascii

-- its first character, before which it has paused
paused : (g : given.Over) (c : After-cut_units g) (taken : List ℕ) (ranges : List (ℕ × ℕ)) →
    StandsPausedBefore (g.W.Weights.table c.args.query.now.table.now) c.args.query.now.pattern.now c.args.self.now.reorder c.args.self.now.window c.args.self.now.matcher (slice_get (take c.ascii_points-len.result c.args.piece.now) 0) taken ranges →
    (0 < c.ascii_points-len.result) × StandsPaused (g.W.Weights.table c.args.query.now.table.now) c.args.query.now.pattern.now c.args.self.now.reorder c.args.self.now.window c.args.self.now.matcher (get_or c.args.piece.now 0 0) taken ranges
paused g c taken ranges p =
    let is = first-taken c.args.piece.now c.ascii_points-len.result p.next p.some in
    (is.0, subst (λ n. StandsPaused (g.W.Weights.table c.args.query.now.table.now) c.args.query.now.pattern.now c.args.self.now.reorder c.args.self.now.window c.args.self.now.matcher n taken ranges) is.1 p.stands)

pub returns-clause-taken : goal.returns-clause-taken
returns-clause-taken g c =
    let here = (goal.at.returns-clause-taken g c).After-cut_units in
    let table = g.W.Weights.table c.args.query.now.table.now in
    let pattern = c.args.query.now.pattern.now in
    let old = c.args.self.now in
    let piece = c.args.piece.now in
    let n = c.ascii_points-len.result in
    let out = c.ascii_points-len.new.points.items in
    let bs = take n piece in
    let a = c.ascii_points-len.ensures in
    let at = c.args.offset in
    let first = get_or piece 0 0 in
    let none : old.reorder.held ≡ [] = sym c.waiting.ensures.value ∙ nil_from_length c.waiting.result.now (eqb-true (length c.waiting.result.now) 0 (sym c.is_empty.ensures ∙ c.if-not-is_empty.false)) in
    let open_window = ap (λ w. w.has_ended) c.push_points.ensures.points ∙ c.requires.ready.open_text in
    let cut = c.cut_units.ensures.leaves.left open_window in
    let b = begun c.laws_of_decompositions.ensures.short at first in
    record {
      stands = λ taken ranges from offset. elim from [
        | inl h ↦
            let there : points_from (byte_len taken) bs ≡ out = ap (λ k. points_from k bs) (sym offset) ∙ sym a.points in
            let given : HasReordered old.reorder (taken ++ bs) (h.points ++ out) =
            subst (λ (ps : List Point). HasReordered old.reorder (taken ++ bs) (h.points ++ ps)) there
            (given-ascii c.laws_of_reordering.ensures.ascii c.laws_of_decompositions.ensures.ascii c.laws_of_points.ensures.bytes_of_parts old.reorder bs taken h.points none a.ascii h.reordered) in
            let pushed = subst (λ (ps : List Point). HasMatched table pattern c.push_points.new.window old.matcher (h.points ++ ps) ranges)
            c.as_slice.ensures.value
            (record {
              units = h.matched.units;
              cut = c.push_points.ensures.stands table h.points h.matched.units h.matched.cut;
              went = h.matched.went;
              kept = All-same (Contains (h.points ++ c.as_slice.result.now)) _ _ (ap (λ w. w.points) c.push_points.ensures.points)
                  (among-pushed h.points old.window.points c.as_slice.result.now h.matched.kept);
            }) in
            let before = matched-first table pattern c.push_points.new.window old.matcher (h.points ++ out) ranges c.clear.new.self.items c.clear.ensures pushed in
            record {
              points = h.points ++ out;
              reordered = subst (λ (cs : List ℕ). HasReordered old.reorder (taken ++ cs) (h.points ++ out)) (sym (chars-IsAscii bs a.ascii)) given;
              matched = c.cut_units.ensures.stands (h.points ++ out) ranges before;
            }
        | inr behind ↦
            let q = paused g here taken ranges behind in
            let some = q.0 in
            let p = q.1.paused in
            let given : HasReordered old.reorder (taken ++ bs) (points taken ++ out) =
            subst (λ (ps : List Point). HasReordered old.reorder (taken ++ bs) (points taken ++ ps)) (ap (λ k. points_from k bs) (sym offset) ∙ sym a.points)
            (given-front c.laws_of_reordering.ensures.ascii c.laws_of_decompositions.ensures.ascii c.laws_of_points.ensures.bytes_of_parts old.reorder piece taken n some a.within p.paused.none_waits a.ascii p.paused.good) in
            let front = first-of n piece some a.within in
            let later = b.others ++ points_from (at + len_utf8 first) front.0 in
            let begins : out ≡ b.first ∷ later = a.points ∙ ap (points_from at) front.1 ∙ from_first at first front.0 ∙ ap (λ (t : List Point). t ++ points_from (at + len_utf8 first) front.0) b.is in
            let ends = ends_here table (points taken) at first b (subst (λ k. EndsBefore table (points taken) k first) (sym offset) p.ends) in
            let held = ap (λ w. w.points) c.push_points.ensures.points ∙ ap (λ (ps : List Point). ps ++ c.as_slice.result.now) p.paused.none_left ∙ c.as_slice.ensures.value in
            let there = matched-afresh table pattern c.push_points.new.window old.matcher (points taken) out later b.first ranges begins ends p.paused.walked held in
            let before = matched-first table pattern c.push_points.new.window old.matcher (points taken ++ out) ranges c.clear.new.self.items c.clear.ensures there in
            record {
              points = points taken ++ out;
              reordered = subst (λ (cs : List ℕ). HasReordered old.reorder (taken ++ cs) (points taken ++ out)) (sym (chars-IsAscii bs a.ascii)) given;
              matched = c.cut_units.ensures.stands (points taken ++ out) ranges before;
            }
      ];
      left = λ place taken ranges from offset. elim from [
        | inl before ↦
            let h = before.stands in
            let there : points_from (byte_len taken) bs ≡ out = ap (λ k. points_from k bs) (sym offset) ∙ sym a.points in
            let given : HasReordered old.reorder (taken ++ bs) (h.points ++ out) =
            subst (λ (ps : List Point). HasReordered old.reorder (taken ++ bs) (h.points ++ ps)) there
            (given-ascii c.laws_of_reordering.ensures.ascii c.laws_of_decompositions.ensures.ascii c.laws_of_points.ensures.bytes_of_parts old.reorder bs taken h.points none a.ascii h.reordered) in
            let pushed = ap (λ w. w.points) c.push_points.ensures.points ∙ ap (λ ps. old.window.points ++ ps) c.as_slice.ensures.value in
            let final = final-more c.laws_of_reordering.ensures.last old.reorder old.reorder taken bs h.points out h.reordered given in
            subst (λ (cs : List ℕ). IsCutUpTo table place (taken ++ cs) c.cut_units.new.window.points) (sym (chars-IsAscii bs a.ascii))
            (cut-pushed c.decided_units_stay.ensures.stay table place taken bs out old.window.points c.cut_units.new.window.points final
            (cut ∙ ap (left_points table) pushed) before.cut)
        | inr behind ↦
            let q = paused g here taken ranges behind.1 in
            let some = q.0 in
            let p = q.1.paused in
            let given : HasReordered old.reorder (taken ++ bs) (points taken ++ out) =
            subst (λ (ps : List Point). HasReordered old.reorder (taken ++ bs) (points taken ++ ps)) (ap (λ k. points_from k bs) (sym offset) ∙ sym a.points)
            (given-front c.laws_of_reordering.ensures.ascii c.laws_of_decompositions.ensures.ascii c.laws_of_points.ensures.bytes_of_parts old.reorder piece taken n some a.within p.paused.none_waits a.ascii p.paused.good) in
            let front = first-of n piece some a.within in
            let later = b.others ++ points_from (at + len_utf8 first) front.0 in
            let begins : out ≡ b.first ∷ later = a.points ∙ ap (points_from at) front.1 ∙ from_first at first front.0 ∙ ap (λ (t : List Point). t ++ points_from (at + len_utf8 first) front.0) b.is in
            let ascii : first < 128 = subst IsAscii front.1 a.ascii 0 in
            let starter = ap begins_with_starter (sym b.is ∙ c.laws_of_decompositions.ensures.ascii at first ascii) in
            let ends = ends_here table (points taken) at first b (subst (λ k. EndsBefore table (points taken) k first) (sym offset) p.ends) in
            let held = ap (λ w. w.points) c.push_points.ensures.points ∙ ap (λ (ps : List Point). ps ++ c.as_slice.result.now) p.paused.none_left ∙ c.as_slice.ensures.value in
            cut-wider table (byte_len taken) place (taken ++ chars bs) c.cut_units.new.window.points behind.0
            (subst (λ (cs : List ℕ). IsCutUpTo table (byte_len taken) (taken ++ cs) c.cut_units.new.window.points) (sym (chars-IsAscii bs a.ascii))
            (cut-afresh c.laws_of_reordering.ensures.last table old.reorder taken bs out later c.cut_units.new.window.points b.first given begins starter ends
            (cut ∙ ap (left_points table) held)))
      ];
    }

pub returns-clause-some : goal.returns-clause-some
returns-clause-some g c = λ none. c.ascii_points-len.ensures.some

pub returns-clause-goes_on : goal.returns-clause-goes_on
returns-clause-goes_on g c = record {
  open_text = c.cut_units.ensures.leaves.ended ∙ ap (λ w. w.has_ended) c.push_points.ensures.points ∙ c.requires.ready.open_text;
  setup = record {
    longest = c.cut_units.ensures.leaves.capacity ∙ ap (λ w. w.capacity) c.push_points.ensures.points;
    pattern_len = c.cut_units.ensures.keeps.room;
    select = c.cut_units.ensures.keeps.select;
  };
}
