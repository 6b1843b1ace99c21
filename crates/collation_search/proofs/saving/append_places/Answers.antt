-- A place more.
use Rattle.std.proofs.Common.{◌≡◌, ◌+◌, ◌++◌, drop, length, vec_len, slice_get, Some, None, option_copied, sym, ap, ◌∙◌, arith}
use Rattle.std.proofs.lemmas.List.{append-nil, length-append}
use Rattle.collation_states.specs.State.{SavedPlace, place_words, place_record}
use Rattle.collation_search.specs.State.{kept_places, saved_places}
use Rattle.collation_search.proofs.SavingLemmas.{drop-some, drop-none, begins-more, record-first, on_err}
use Rattle.collation_search.proofs.saving.append_places.Goals as goal

pub loop-place-preserved : goal.loop-place-preserved
loop-place-preserved c =
    let places = c.args.walk.now.places.items in
    let at = c.loop-place.at in
    let place = c.in-Some.place.now in
    let here : slice_get places at ≡ Some place = sym c.get.ensures ∙ ap option_copied c.in-Some.is in
    let saved : SavedPlace = record { start = place.start; is_first = place.is_first } in
    let later = place_words (saved_places (drop (at + 1) places)) in
    let split : place_words (saved_places (drop at places)) ≡ place_record saved ++ later = ap (λ l. place_words (saved_places l)) (drop-some places at place here) in
    record {
      saved = record-first c.args.words.now.items c.loop-place.words.items c.append_place.new.words.items (place_record saved) later (place_words (saved_places (kept_places c.args.walk.now)))
          (ap (λ l. c.loop-place.words.items ++ l) (sym split) ∙ c.loop-place.invariant.saved) c.in_ok-append_place.ensures.saved;
      begun = begins-more c.args.words.now.items c.loop-place.words.items c.append_place.new.words.items (place_record saved) c.loop-place.invariant.begun c.in_ok-append_place.ensures.saved;
      capacity = omega (arith, c.loop-place.invariant.capacity, c.in_ok-append_place.ensures.capacity);
    }

pub returns-clause-saved : goal.returns-clause-saved
returns-clause-saved c =
    let places = c.args.walk.now.places.items in
    let at = c.loop-place.at in
    let none : slice_get places at ≡ None = sym c.get.ensures ∙ ap option_copied c.in_default.is in
    sym (append-nil c.loop-place.words.items) ∙ ap (λ l. c.loop-place.words.items ++ place_words (saved_places l)) (sym (drop-none places at none)) ∙ c.loop-place.invariant.saved

pub returns-in_err-append_place-clause-full : goal.returns-in_err-append_place-clause-full
returns-in_err-append_place-clause-full c =
    let places = c.args.walk.now.places.items in
    let at = c.loop-place.at in
    let place = c.in-Some.place.now in
    let before = c.args.words.now in
    let so_far = c.loop-place.words in
    let here : slice_get places at ≡ Some place = sym c.get.ensures ∙ ap option_copied c.in-Some.is in
    let one_more = ap (λ l. length (place_words (saved_places l))) (drop-some places at place here) in
    let many : vec_len before ≡ length before.items = omega arith in
    let now_many : vec_len so_far ≡ length so_far.items = omega arith in
    on_err c.from_residual.result _ (omega (
      arith,
      many,
      now_many,
      one_more,
      c.in_err-append_place.ensures.full,
      c.loop-place.invariant.capacity,
      ap length c.loop-place.invariant.saved,
      length-append so_far.items (place_words (saved_places (drop at places))),
      length-append before.items (place_words (saved_places (kept_places c.args.walk.now))),
    ))
