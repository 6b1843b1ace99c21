use Rattle.std.proofs.Common.{◌≡◌, ◌<◌, ◌≤◌, ◌∙◌, ◌+◌, length, refl, subst, sym, arith}
use Rattle.std.proofs.lemmas.List.{length-set}
use Rattle.std.proofs.lemmas.Option.{slice_get_within}
use Rattle.collation_elements.specs.declared.keys.Key.TheVariants.{Primary}
use Rattle.collation_pattern.proofs.KeySetLemmas.{AreUpTo, HavePlaces, places-more, places-same, up_to-more, up_to-none, up_to-same}
use Rattle.collation_pattern.proofs.key_set.key_set.Goals.{then-set-place-eq0, else-set-place-eq0}
use Rattle.collation_pattern.proofs.key_set.key_set.Goals as goal

pub loop-number-init : goal.loop-number-init
loop-number-init c = record { len = refl; few = up_to-none 1_024 0; places = λ i key below at. absurd (omega (arith, below)) }

pub loop-number-preserved : goal.loop-number-preserved
loop-number-preserved c =
    let keys = c.args.keys.now in
    let before = c.loop-number.set in
    let n = c.loop-number.number in
    let place = c.place_of-place in
    let inv = c.loop-number.invariant in
    let within : place.result < length before = omega (arith, place.ensures.within, inv.len) in
    elim c.if-set-place-eq0.branch [
      | then-set-place-eq0 w ↦
          let number = w.min.result + 1 in
          let own : number ≤ n + 1 = omega (arith, w.min.ensures) in
          record {
            len = subst (λ l. length l ≡ 1_024) (sym w.set-is) (length-set before place.result number ∙ inv.len);
            few = subst (λ l. AreUpTo (n + 1) l) (sym w.set-is) (up_to-more n before place.result number within own inv.few);
            places = subst (λ l. HavePlaces (n + 1) keys l) (sym w.set-is)
                (places-more keys before n place.result number (Primary 0 0 0) within place.ensures.place w.if-set-place-eq0.true (omega arith) own inv.places);
          }
      | else-set-place-eq0 w ↦
          record {
            len = subst (λ l. length l ≡ 1_024) (sym w.set-is) inv.len;
            few = subst (λ l. AreUpTo (n + 1) l) (sym w.set-is) (up_to-same n before inv.few);
            places = subst (λ l. HavePlaces (n + 1) keys l) (sym w.set-is)
                (places-same keys before n place.result (Primary 0 0 0) place.ensures.place (omega (arith, w.if-set-place-eq0.false)) inv.few inv.places);
          }
    ]

pub returns : goal.returns
returns c = λ i key at. c.loop-number.invariant.places i key (omega (arith, slice_get_within c.args.keys.now i key at, c.loop-number-test.false)) at
