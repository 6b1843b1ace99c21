-- What a search holds is a state that a search may hold.
use Rattle.std.specs.Str.{chars, IsUtf8}
use Rattle.std.proofs.Common.{◌≡◌, ℕ, ◌+◌, ◌-◌, ◌≤◌, false, nat_le, cond, ◌&&◌, not, List, [], length, take, None, refl, sym, ap, ◌∙◌, subst, arith}
use Rattle.std.proofs.lemmas.Bool.{and_parts, leb-true}
use Rattle.std.proofs.lemmas.List.{length-drop}
use Rattle.std.specs.List.{All as AllOf}
use Rattle.utf8_cut.specs.Characters.{characters_end, after_characters, is_incomplete_or_empty}
use Rattle.utf8_cut.specs.Value.{CutState}
use Rattle.nfd_points.specs.Laws.{OffsetsAreWithin, WaitingAreOthers, PointsAreDecomposed}
use Rattle.nfd_points.specs.Points.{byte_len}
use Rattle.nfd_points.specs.declared.limits.TheConstants.{MOST_GIVEN}
use Rattle.collation_table.specs.Table.{longest_mapped}
use Rattle.collation_elements.specs.Context.{BoundariesAreStarts}
use Rattle.collation_matches.specs.declared.faults.TextFault.{TextFault}
use Rattle.collation_matches.specs.GoodPrefix.{whole, most_bytes}
use Rattle.collation_matches.specs.Selecting.{remembered}
use Rattle.collation_matches.specs.Sought.{Sought}
use Rattle.collation_matches.proofs.TextCheckLemmas.{open_cut}
use Rattle.collation_states.specs.State.{reported}
use Rattle.collation_states.specs.Laws.{IsPointBefore, IsOpen, IsStateAtFault, StatesAreAccepted, StatesAreReadBack}
use Rattle.collation_finder.specs.declared.finder.Finder.{Finder}
use Rattle.collation_search.specs.Searching.{Searched}
use Rattle.collation_search.specs.State.{sizes_of, open_state}
use Rattle.collation_search.proofs.SavedPoints.{PointsAreSaved, points-saved}
use Rattle.collation_search.proofs.SavedWalk.{WalkIsSaved, walk-saved, searched-end}

-- the laws of texts, points and states that this needs
pub record SavedLaws : Type 0 where
  pub boundaries : BoundariesAreStarts
  pub text : (bytes : List ℕ) → IsUtf8 (take (characters_end bytes) bytes)
  pub within : (bytes : List ℕ) → characters_end bytes ≤ length bytes
  pub offsets : OffsetsAreWithin
  pub others : WaitingAreOthers
  pub decomposed : PointsAreDecomposed
  pub accepted : StatesAreAccepted
  pub back : StatesAreReadBack

-- ---- a search that goes on

module _ (laws : SavedLaws) (s : Sought) (cut : CutState) (finder : Finder) (taken : List ℕ) (handed : List (ℕ × ℕ))
    (h : Searched s.table s.pattern cut finder None taken handed) (goes_on : finder.window.has_ended ≡ false) (longest : finder.window.capacity ≡ longest_mapped s.table + MOST_GIVEN)
    (select : finder.matcher.walk.select ≡ s.select) where
  points : PointsAreSaved finder (byte_len (chars (whole taken)))
  points = points-saved laws.offsets laws.others laws.decomposed s.table s.pattern finder (chars (whole taken)) handed h.found

  walk : WalkIsSaved (length s.pattern.keys) finder.matcher.walk (cut.count - length cut.held)
  walk = walk-saved laws.boundaries laws.text laws.within s cut finder None taken handed h goes_on

  pub is_good : cut.is_bad ≡ false
  is_good = h.cut_stands.bad ∙ ap not (open_cut taken h.open_bytes)

  held_after : cut.held ≡ after_characters taken
  held_after = h.cut_stands.held ∙ ap (λ b. cond b [] (after_characters taken)) is_good

  short : cut.count ≤ most_bytes
  short = omega (arith, h.cut_stands.count, leb-true (length taken) most_bytes (and_parts (nat_le (length taken) most_bytes) _ (and_parts (nat_le (length taken) most_bytes && _) _ h.open_bytes).0).0)

  pub is-open : IsOpen (sizes_of s) (open_state s.pattern cut finder)
  is-open =
      let end = searched-end laws.text laws.within s cut finder None taken handed h in
      record {
        none = refl;
        short = short;
        held = ap is_incomplete_or_empty held_after ∙ open_cut taken h.open_bytes;
        within = omega (arith, h.cut_stands.count, ap length held_after, length-drop (characters_end taken) taken);
        start = walk.start;
        waits = λ some. let w = walk.waits some in record { whole = walk.many ∙ w.0; first = w.1; has_keys = w.2 };
        last_end = walk.last_end;
        no_chain = λ all. h.found.matched.went.walked.last_end ∙ ap (λ x. remembered x handed) (select ∙ all);
        few_places = omega (arith, walk.many, walk.state);
        few_in_window = omega (arith, points.window_few, longest);
        few_waiting = points.waiting_few;
        places = walk.places;
        window = subst (λ n. AllOf (IsPointBefore n) finder.window.points) (sym end) points.window;
        waiting = subst (λ n. AllOf (IsPointBefore n) finder.reorder.held) (sym end) points.waiting;
        may_be_in_window = points.window_may_be;
        may_wait = points.waiting_may_wait;
      }

-- ---- a search that has reported a fault

pub has-ended : (f : TextFault) → 31 ≤ f.kind → f.kind ≤ 35 → f.offset ≤ most_bytes → IsStateAtFault (reported f)
has-ended f least most short = record { fault = f; is = refl; least = least; most = most; short = short }
