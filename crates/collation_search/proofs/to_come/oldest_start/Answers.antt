-- The first of the places that are kept.
use Rattle.std.proofs.Common.{◌≡◌, ◌-◌, length, drop, slice_get, Some, None, option_copied, sym, ap, ◌∙◌}
use Rattle.collation_search.specs.State.{saved_places}
use Rattle.collation_search.specs.ToCome.{oldest_start}
use Rattle.collation_search.proofs.SavingLemmas.{drop-some, drop-none}
use Rattle.collation_search.proofs.to_come.oldest_start.Goals as goal

pub returns-in-Some : goal.returns-in-Some
returns-in-Some c =
    let walk = c.args.walk.now in
    let places = walk.places.items in
    let at : c.saturating_sub-oldest.result ≡ length places - walk.state = c.saturating_sub-oldest.ensures ∙ ap (λ n. n - walk.state) c.len.ensures.len in
    let here : slice_get places c.saturating_sub-oldest.result ≡ Some c.in-Some.place.now = sym c.get.ensures ∙ ap option_copied c.in-Some.is in
    sym (ap (λ ps. oldest_start walk.start (saved_places ps))
    (ap (λ n. drop n places) (sym at) ∙ drop-some places c.saturating_sub-oldest.result c.in-Some.place.now here))

pub returns-in-None : goal.returns-in-None
returns-in-None c =
    let walk = c.args.walk.now in
    let places = walk.places.items in
    let at : c.saturating_sub-oldest.result ≡ length places - walk.state = c.saturating_sub-oldest.ensures ∙ ap (λ n. n - walk.state) c.len.ensures.len in
    let none : slice_get places c.saturating_sub-oldest.result ≡ None = sym c.get.ensures ∙ ap option_copied c.in-None.is in
    sym (ap (λ ps. oldest_start walk.start (saved_places ps))
    (ap (λ n. drop n places) (sym at) ∙ drop-none places c.saturating_sub-oldest.result none))
