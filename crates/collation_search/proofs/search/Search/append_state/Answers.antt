-- The records of the state, one group after the other.
use Rattle.std.proofs.Common.{◌++◌, sym, ap, ◌∙◌}
use Rattle.collation_states.specs.Saving.{AreWordsAppended}
use Rattle.collation_states.specs.State.{place_words, point_words}
use Rattle.collation_finder.specs.declared.finder.Finder.{Finder}
use Rattle.collation_matches.specs.Sought.{seeking}
use Rattle.collation_search.specs.Search.{sought}
use Rattle.collation_search.specs.State.{sizes_of, kept_places, saved_places}
use Rattle.collation_search.proofs.SavingLemmas.{front-same, append-reported, append-all, begins-all, begins-more, begins-through, on_err}
use Rattle.collation_search.proofs.search.Search.append_state.Goals as goal

pub returns-then-is_some-clause-saved : goal.returns-then-is_some-clause-saved
returns-then-is_some-clause-saved g c =
    let s = c.args.self.now in
    let same = c.deref-finder.ensures in
    let sizes = c.sizes-sizes.ensures ∙ ap (λ (f : Finder). sizes_of (seeking (g.W.Weights.table s.query.table.now) s.query.pattern.now f.matcher.walk.select)) same in
    append-reported (sought s) s.cut s.finder.value s.fault c.args.words.now.items c.append_head.new.words.items (sym c.is_some.ensures ∙ c.if-is_some.true)
    (front-same _ _ _ _ _ _ _ _ sizes c.head.ensures.numbers c.last_end.ensures c.in_ok-append_head.ensures.saved)

pub returns-in_err-append_places-clause-begun : goal.returns-in_err-append_places-clause-begun
returns-in_err-append_places-clause-begun g c =
    let w0 = c.args.words.now.items in
    let w1 = c.append_head.new.words.items in
    on_err c.from_residual-in_err-append_places.result (AreWordsAppended w0 c.append_places.new.words.items)
    (begins-through w0 w1 c.append_places.new.words.items (begins-more w0 w0 w1 _ (begins-all w0) c.in_ok-append_head.ensures.saved) c.in_err-append_places.ensures.begun)

pub returns-in_err-append_window-clause-begun : goal.returns-in_err-append_window-clause-begun
returns-in_err-append_window-clause-begun g c =
    let w0 = c.args.words.now.items in
    let w1 = c.append_head.new.words.items in
    let w2 = c.append_places.new.words.items in
    on_err c.from_residual-in_err-append_window.result (AreWordsAppended w0 c.append_window.new.words.items)
    (begins-through w0 w2 c.append_window.new.words.items
    (begins-more w0 w1 w2 _ (begins-more w0 w0 w1 _ (begins-all w0) c.in_ok-append_head.ensures.saved) c.in_ok-append_places.ensures.saved)
    c.in_err-append_window.ensures.begun)

pub returns-in_err-append_points-clause-begun : goal.returns-in_err-append_points-clause-begun
returns-in_err-append_points-clause-begun g c =
    let w0 = c.args.words.now.items in
    let w1 = c.append_head.new.words.items in
    let w2 = c.append_places.new.words.items in
    let w3 = c.append_window.new.words.items in
    on_err c.from_residual-in_err-append_points.result (AreWordsAppended w0 c.append_points.new.words.items)
    (begins-through w0 w3 c.append_points.new.words.items
    (begins-more w0 w2 w3 _
    (begins-more w0 w1 w2 _ (begins-more w0 w0 w1 _ (begins-all w0) c.in_ok-append_head.ensures.saved) c.in_ok-append_places.ensures.saved)
    c.in_ok-append_window.ensures.saved)
    c.in_err-append_points.ensures.begun)

pub returns-clause-saved : goal.returns-clause-saved
returns-clause-saved g c =
    let s = c.args.self.now in
    let same = c.deref-finder.ensures in
    let sizes = c.sizes-sizes.ensures ∙ ap (λ (f : Finder). sizes_of (seeking (g.W.Weights.table s.query.table.now) s.query.pattern.now f.matcher.walk.select)) same in
    append-all (sought s) s.cut s.finder.value s.fault
    c.args.words.now.items c.append_head.new.words.items c.append_places.new.words.items c.append_window.new.words.items c.append_points.new.words.items
    (sym c.is_some.ensures ∙ c.if-is_some.false)
    (front-same _ _ _ _ _ _ _ _ sizes c.head.ensures.numbers c.last_end.ensures c.in_ok-append_head.ensures.saved)
    (c.in_ok-append_places.ensures.saved ∙ ap (λ (f : Finder). c.append_head.new.words.items ++ place_words (saved_places (kept_places f.matcher.walk))) same)
    (c.in_ok-append_window.ensures.saved ∙ ap (λ (f : Finder). c.append_places.new.words.items ++ point_words f.window.points) same)
    (c.in_ok-append_points.ensures.saved ∙ ap (λ ps. c.append_window.new.words.items ++ point_words ps) (c.waiting.ensures.value ∙ ap (λ (f : Finder). f.reorder.held) same))
