-- A walk that has what a saved walk kept represents the same.
use Rattle.std.proofs.Common.{◌≡◌, ℕ, suc, ◌+◌, ◌-◌, ◌*◌, ◌≤◌, ◌==◌, List, [], ◌∷◌, ◌++◌, length, take, drop, map, slice_index_or, refl, sym, ap, ◌∙◌, arith, append_assoc}
use Rattle.std.proofs.lemmas.List.{length-append, length-drop, map-append, take_all}
use Rattle.collation_elements.specs.declared.keys.Key.{Key}
use Rattle.collation_elements.specs.declared.keys.Item.{Item}
use Rattle.circular_buffer.specs.Buffer.{keep_last}
use Rattle.collation_matches.specs.ByClusters.{placed, found}
use Rattle.collation_matches.specs.declared.select.Select.{Select}
use Rattle.collation_matches.specs.Selecting.{selected, remembered}
use Rattle.collation_states.specs.Reading.{places_in}
use Rattle.collation_states.specs.State.{SavedPlace}
use Rattle.collation_walk.specs.declared.walk.KeyPlace.{KeyPlace}
use Rattle.collation_walk.specs.declared.walk.Walk.{Walk}
use Rattle.collation_walk.specs.Kept.{kept_places, saved_places}
use Rattle.collation_walk.specs.Walks.{place_of, WalksOver}
use Rattle.collation_walk.proofs.WalkSteps.{keep_last-all, walks-within, walks-few}

-- ---- places

key_places : List SavedPlace → List KeyPlace
key_places = map (λ place. record { start = place.start; is_first = place.is_first })

places-back : (ps : List KeyPlace) → key_places (saved_places ps) ≡ ps
unfolding key_places
places-back [] = refl
places-back (p ∷ ps) = ap (λ (l : List KeyPlace). p ∷ l) (places-back ps)

-- as many as the state says
pub kept_places-length : (pattern : List Key) (items : List Item) (ranges : List (ℕ × ℕ)) (w : Walk) → WalksOver pattern items ranges w → length (kept_places w) ≡ w.state
kept_places-length pattern items ranges w h =
    let ps = map place_of (placed (h.before ++ h.current ∷ [])) in
    omega (arith, ap length h.places, length-drop (length ps - w.state) ps, walks-few pattern items ranges w h)

-- ---- a restored walk

-- one that has the places kept of another one, and else what that has, represents the same
pub walks-restored : (pattern : List Key) (items : List Item) (ranges : List (ℕ × ℕ)) (old new : Walk) → WalksOver pattern items ranges old →
    new.state ≡ length new.places.items → new.start ≡ old.start → new.has_keys ≡ old.has_keys → saved_places new.places.items ≡ saved_places (kept_places old) → new.places.capacity ≡ length pattern →
    new.select ≡ old.select → new.last_end ≡ old.last_end → WalksOver pattern items ranges new
walks-restored pattern items ranges old new h all_state start has_keys all_places capacity select last_end =
    let kept = kept_places-length pattern items ranges old h in
    let places = sym (places-back new.places.items) ∙ ap key_places all_places ∙ places-back (kept_places old) in
    let len = ap length places in
    let state = all_state ∙ len ∙ kept in
    let all = map place_of (placed (h.before ++ h.current ∷ [])) in
    record {
      before = h.before;
      current = h.current;
      clusters = h.clusters;
      start = start ∙ h.start;
      has_keys = has_keys ∙ h.has_keys;
      state = state ∙ h.state;
      capacity = capacity;
      few = omega (arith, len, kept, walks-within pattern items ranges old h);
      places = keep_last-all new.state new.places.items (omega (arith, len, kept, state)) ∙ places ∙ h.places ∙ sym (ap (λ n. keep_last n all) state);
      handed_out = h.handed_out ∙ sym (ap (λ (s : Select). selected s (found pattern h.before h.current.start)) select);
      last_end = last_end ∙ h.last_end ∙ sym (ap (λ (s : Select). remembered s ranges) select);
    }

-- ---- places kept one by one

pub kept-next : (capacity : ℕ) (kept new : List KeyPlace) (words : List ℕ) (p : KeyPlace) → 4 ≤ length words → p ≡ record { start = slice_index_or words 0 0; is_first = slice_index_or words 1 0 == 1 } →
    4 * length kept + length words ≤ 4 * capacity → new ≡ keep_last capacity (kept ++ p ∷ []) →
    (saved_places new ++ places_in (take (length words - 4) (drop 4 words)) ≡ saved_places kept ++ places_in words) × (length new ≡ length kept + 1)
kept-next capacity kept new [] p many is room e = let no : ⊥ = omega (arith, many) in elim no [ ]
kept-next capacity kept new (a ∷ []) p many is room e = let no : ⊥ = omega (arith, many) in elim no [ ]
kept-next capacity kept new (a ∷ b ∷ []) p many is room e = let no : ⊥ = omega (arith, many) in elim no [ ]
kept-next capacity kept new (a ∷ b ∷ x ∷ []) p many is room e = let no : ⊥ = omega (arith, many) in elim no [ ]
kept-next capacity kept new (a ∷ b ∷ x ∷ y ∷ later) p many is room e =
    let len = length-append kept (p ∷ []) in
    let all : new ≡ kept ++ p ∷ [] = e ∙ keep_last-all capacity (kept ++ p ∷ []) (omega (arith, len, room)) in
    let place : SavedPlace = record { start = a; is_first = b == 1 } in
    let rest : take (suc (suc (suc (suc (length later)))) - 4) later ≡ later = take_all (suc (suc (suc (suc (length later)))) - 4) later (omega arith) in (
      ap (λ l. saved_places new ++ places_in l) rest ∙ ap (λ (l : List KeyPlace). saved_places l ++ places_in later) all
          ∙ ap (λ l. l ++ places_in later) (map-append _ kept (p ∷ []))
          ∙ ap (λ (q : KeyPlace). (saved_places kept ++ saved_places (q ∷ [])) ++ places_in later) is
          ∙ append_assoc (saved_places kept) (place ∷ []) (places_in later),
      ap length all ∙ len,
    )
