-- What is restored from the state of a search represents what that search represented.
use Rattle.std.specs.Prelude.{All, Contains}
use Rattle.std.specs.Str.{chars}
use Rattle.std.proofs.Common.{◌≡◌, ℕ, ◌+◌, false, List, None, refl, sym, ap, ap₂, ◌∙◌, subst}
use Rattle.utf8_cut.specs.Characters.{characters}
use Rattle.utf8_cut.specs.State.{StandsFor}
use Rattle.utf8_cut.specs.Value.{CutState}
use Rattle.nfd_points.specs.declared.limits.TheConstants.{MOST_GIVEN}
use Rattle.nfd_points.specs.Reordering.{Waiting, HasReordered}
use Rattle.collation_table.specs.Table.{longest_mapped}
use Rattle.collation_elements.specs.Weighing.{weigher, is_after_variable, WeigherStandsFor}
use Rattle.collation_elements.specs.Windows.{Held, WindowStandsFor}
use Rattle.collation_finder.specs.declared.finder.Finder.{Finder}
use Rattle.collation_finder.specs.Finding.{FinderStandsFor}
use Rattle.collation_matches.specs.GoodPrefix.{whole}
use Rattle.collation_search.specs.Resuming.{IsRestored}
use Rattle.collation_matches.specs.Sought.{Sought}
use Rattle.collation_search.specs.Searching.{Searched}
use Rattle.collation_search.specs.State.{open_state}
use Rattle.collation_walk.proofs.RestoredWalk.{walks-restored}
use Rattle.collation_search.proofs.SavedState.{SavedLaws, is_good}

-- ---- a search that goes on

module _ (laws : SavedLaws) (s : Sought) (cut : CutState) (finder : Finder) (taken : List ℕ) (handed : List (ℕ × ℕ))
    (h : Searched s.table s.pattern cut finder None taken handed) (goes_on : finder.window.has_ended ≡ false) (longest : finder.window.capacity ≡ longest_mapped s.table + MOST_GIVEN)
    (same_select : finder.matcher.walk.select ≡ s.select) (new : Finder) (restored : IsRestored s (open_state s.pattern cut finder) new) where
  same_reorder : new.reorder ≡ finder.reorder
  same_reorder = ap (λ l. let w : Waiting = record { held = l } in w) restored.held

  same_window : new.window ≡ finder.window
  same_window =
      let room = sym longest in
      restored.window
      ∙ ap (λ n. let w : Held = record { points = finder.window.points; capacity = n; has_ended = false } in w) room
      ∙ ap (λ b. let w : Held = record { points = finder.window.points; capacity = finder.window.capacity; has_ended = b } in w) (sym goes_on)

  same_weigher : new.matcher.weigher ≡ finder.matcher.weigher
  same_weigher =
      let m = h.found.matched in
      restored.weigher ∙ ap₂ (λ strength variable. weigher strength variable (is_after_variable finder.matcher.weigher)) (sym m.went.strength) (sym m.went.variable)

  restored-finder : FinderStandsFor s.table s.pattern new (chars (whole taken)) handed
  restored-finder =
      let f = h.found in
      let m = f.matched in
      record {
        points = f.points;
        reordered = subst (λ (w : Waiting). HasReordered w (chars (whole taken)) f.points) (sym same_reorder) f.reordered;
        matched = record {
          units = m.units;
          cut = subst (λ (w : Held). WindowStandsFor s.table w f.points m.units) (sym same_window) m.cut;
          went = record {
            items = m.went.items;
            weighed = subst (λ w. WeigherStandsFor s.table w m.units m.went.items) (sym same_weigher) m.went.weighed;
            walked = walks-restored s.pattern.keys m.went.items handed finder.matcher.walk new.matcher.walk m.went.walked restored.matched restored.start
                restored.has_keys restored.places restored.capacity (restored.select ∙ sym same_select) restored.last_end;
            strength = ap (λ w. w.strength) same_weigher ∙ m.went.strength;
            variable = ap (λ w. w.variable) same_weigher ∙ m.went.variable;
          };
          kept = subst (λ (w : Held). All (Contains f.points) w.points) (sym same_window) m.kept;
        };
      }

  pub restored-stands : (new_cut : CutState) → ((bytes : List ℕ) (given : List (ℕ × ℕ)) → StandsFor cut bytes given → cut.is_bad ≡ false → StandsFor new_cut bytes given) →
      Searched s.table s.pattern new_cut new None taken handed
  restored-stands new_cut stands = record {
    cut_stands = stands taken (characters taken) h.cut_stands (is_good laws s cut finder taken handed h goes_on longest same_select);
    found = restored-finder;
    open_bytes = h.open_bytes;
    no_fault = refl;
    some_key = h.some_key;
    left = ap (λ w. w.points) same_window ∙ h.left;
  }
