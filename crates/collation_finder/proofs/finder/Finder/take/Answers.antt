use Rattle.std.proofs.Common.{◌≡◌, ◌∙◌, ◌≤◌, ℕ, true, inl, inr, Some, List, [], ◌∷◌, ◌++◌, sym, ap, subst, arith}
use Rattle.nfd_points.specs.declared.points.Point.{Point}
use Rattle.nfd_points.specs.Points.{byte_len, points, points_of, begins_with_starter, ordered}
use Rattle.nfd_points.specs.Reordering.{IsSoundPoint, code_points, is_closed}
use Rattle.std.proofs.lemmas.List.Elements.{All-same, All-append}
use Rattle.std.specs.List.{Contains}
use Rattle.unicode_normalization.specs.StreamSafe.{has_short_runs}
use Rattle.collation_finder.specs.Matching.{HasMatched}
use Rattle.collation_finder.specs.Taking.{StandsPaused, StandsPausedBefore}
use Rattle.collation_finder.proofs.MatchingLemmas.{matched-first, all-among, among-pushed}
use Rattle.collation_finder.specs.TakenAtOnce.{EndsBefore}
use Rattle.collation_finder.proofs.TakenAtOnceLemmas.{begun, ends_here}
use Rattle.collation_finder.proofs.PauseLemmas.{first_given, matched-afresh}
use Rattle.collation_elements.specs.Decided.{left_points}
use Rattle.collation_finder.proofs.EarlyLemmas.{final-more, cut-pushed, cut-afresh, cut-wider}
use Rattle.collation_finder.proofs.finder.Finder.take.Given as given
use Rattle.collation_finder.proofs.finder.Finder.take.Goals.{After-cut_units}
use Rattle.collation_finder.proofs.finder.Finder.take.Goals as goal

pub invariant_of-self-2 : goal.invariant_of-self-2
invariant_of-self-2 g c =
    let old = c.args.self.now in
    let leaves = c.cut_units.ensures.leaves in
    let keeps = c.cut_units.ensures.keeps in
    let made = c.requires.ready.made in
    let open_window = ap (λ w. w.has_ended) c.push_points.ensures.points ∙ c.requires.ready.open_text in
    let pushed = ap (λ w. w.points) c.push_points.ensures.points ∙ ap (λ ps. old.window.points ++ ps) c.as_slice.ensures.value in
    let closed = ap is_closed pushed ∙ c.closed_points_append.ensures old.window.points c.push.new.out.items old.closed c.in_ok-push.ensures.closed in
    let sound = All-same IsSoundPoint _ _ pushed (All-append IsSoundPoint old.window.points c.push.new.out.items old.sound c.in_ok-push.ensures.sound) in
    let short = ap (λ ps. has_short_runs 0 (code_points ps)) pushed ∙ c.laws_of_runs.ensures.join old.window.points c.push.new.out.items old.sound old.closed old.short_runs c.in_ok-push.ensures.short in
    let room = leaves.capacity ∙ ap (λ w. w.capacity) c.push_points.ensures.points in
    let fits = old.short in
    let few = leaves.rest open_window closed in
    record {
      short = omega (arith, room, fits);
      undecided = omega (arith, few, room, made.longest);
      closed = leaves.last open_window closed;
      sound = all-among IsSoundPoint c.push_points.new.window.points c.cut_units.new.window.points sound leaves.kept;
      short_runs = leaves.short sound short;
      state = omega (arith, keeps.state, keeps.room, made.pattern_len);
    }

-- it has paused before this character
paused : (g : given.Over) (c : After-cut_units g) (taken : List ℕ) (ranges : List (ℕ × ℕ)) →
    StandsPausedBefore (g.W.Weights.table c.args.table.now) c.args.pattern.now c.args.self.now.reorder c.args.self.now.window c.args.self.now.matcher (Some c.args.c) taken ranges →
    StandsPaused (g.W.Weights.table c.args.table.now) c.args.pattern.now c.args.self.now.reorder c.args.self.now.window c.args.self.now.matcher c.args.c taken ranges
paused g c taken ranges p =
    let same : p.next ≡ c.args.c = cc in
    subst (λ n. StandsPaused (g.W.Weights.table c.args.table.now) c.args.pattern.now c.args.self.now.reorder c.args.self.now.window c.args.self.now.matcher n taken ranges) same p.stands

pub returns-clause-taken : goal.returns-clause-taken
returns-clause-taken g c =
    let here = (goal.at.returns-clause-taken g c).After-cut_units in
    let table = g.W.Weights.table c.args.table.now in
    let pattern = c.args.pattern.now in
    let out = c.push.new.out.items in
    let at = c.args.offset in
    let old = c.args.self.now in
    let new = c.in_ok-push.ensures in
    let open_window = ap (λ w. w.has_ended) c.push_points.ensures.points ∙ c.requires.ready.open_text in
    let cut = c.cut_units.ensures.leaves.left open_window in
    let b = begun c.laws_of_decompositions.ensures.short at c.args.c in
    record {
      stands = λ taken ranges from offset. elim from [
        | inl h ↦
            let pushed = subst (λ (ps : List Point). HasMatched table pattern c.push_points.new.window old.matcher (h.points ++ ps) ranges)
            c.as_slice.ensures.value
            (record {
              units = h.matched.units;
              cut = c.push_points.ensures.stands table h.points h.matched.units h.matched.cut;
              went = h.matched.went;
              kept = All-same (Contains (h.points ++ c.as_slice.result.now)) _ _ (ap (λ w. w.points) c.push_points.ensures.points)
                  (among-pushed h.points old.window.points c.as_slice.result.now h.matched.kept);
            }) in
            let before = matched-first table pattern c.push_points.new.window old.matcher (h.points ++ out) ranges c.args.found.now.items c.requires.empty pushed in
            record {
              points = h.points ++ out;
              reordered = new.carries taken h.points h.reordered offset;
              matched = c.cut_units.ensures.stands (h.points ++ out) ranges before;
            }
        | inr behind ↦
            let q = paused g here taken ranges behind in
            let p = q.paused in
            let begins = subst (λ k. begins_with_starter (points_of k c.args.c) ≡ true) (sym offset) q.starter in
            let all = new.pushed ∙ ap (λ (hs : List Point). ordered (hs ++ points_of at c.args.c)) p.paused.none_waits
            ∙ c.laws_of_ordering.ensures.stays (points_of at c.args.c) (c.laws_of_decompositions.ensures.in_order at c.args.c) ∙ b.is in
            let starter = ap begins_with_starter (sym b.is) ∙ begins in
            let given = first_given out c.push.new.self.held b.others b.first all starter new.held.non_starters in
            let ends = ends_here table (points taken) at c.args.c b (subst (λ k. EndsBefore table (points taken) k c.args.c) (sym offset) p.ends) in
            let held = ap (λ w. w.points) c.push_points.ensures.points ∙ ap (λ (ps : List Point). ps ++ c.as_slice.result.now) p.paused.none_left ∙ c.as_slice.ensures.value in
            let first = matched-afresh table pattern c.push_points.new.window old.matcher (points taken) out given.0 b.first ranges given.1 ends p.paused.walked held in
            let before = matched-first table pattern c.push_points.new.window old.matcher (points taken ++ out) ranges c.args.found.now.items c.requires.empty first in
            record {
              points = points taken ++ out;
              reordered = new.afresh taken p.paused.none_waits offset begins p.paused.good;
              matched = c.cut_units.ensures.stands (points taken ++ out) ranges before;
            }
      ];
      left = λ place taken ranges from offset. elim from [
        | inl before ↦
            let h = before.stands in
            let pushed = ap (λ w. w.points) c.push_points.ensures.points ∙ ap (λ ps. old.window.points ++ ps) c.as_slice.ensures.value in
            let final = final-more c.laws_of_reordering.ensures.last old.reorder c.push.new.self taken (c.args.c ∷ []) h.points out h.reordered (new.carries taken h.points h.reordered offset) in
            cut-pushed c.decided_units_stay.ensures.stay table place taken (c.args.c ∷ []) out old.window.points c.cut_units.new.window.points final
            (cut ∙ ap (left_points table) pushed) before.cut
        | inr behind ↦
            let q = paused g here taken ranges behind.1 in
            let p = q.paused in
            let near : byte_len taken ≤ place = behind.0 in
            let begins = subst (λ k. begins_with_starter (points_of k c.args.c) ≡ true) (sym offset) q.starter in
            let all = new.pushed ∙ ap (λ (hs : List Point). ordered (hs ++ points_of at c.args.c)) p.paused.none_waits
            ∙ c.laws_of_ordering.ensures.stays (points_of at c.args.c) (c.laws_of_decompositions.ensures.in_order at c.args.c) ∙ b.is in
            let starter = ap begins_with_starter (sym b.is) ∙ begins in
            let given = first_given out c.push.new.self.held b.others b.first all starter new.held.non_starters in
            let ends = ends_here table (points taken) at c.args.c b (subst (λ k. EndsBefore table (points taken) k c.args.c) (sym offset) p.ends) in
            let held = ap (λ w. w.points) c.push_points.ensures.points ∙ ap (λ (ps : List Point). ps ++ c.as_slice.result.now) p.paused.none_left ∙ c.as_slice.ensures.value in
            cut-wider table (byte_len taken) place (taken ++ c.args.c ∷ []) c.cut_units.new.window.points near
            (cut-afresh c.laws_of_reordering.ensures.last table c.push.new.self taken (c.args.c ∷ []) out given.0 c.cut_units.new.window.points b.first
            (new.afresh taken p.paused.none_waits offset begins p.paused.good) given.1 starter ends (cut ∙ ap (left_points table) held))
      ];
    }
