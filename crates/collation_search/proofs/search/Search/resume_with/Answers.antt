-- What a search saved is no words with a fault, and a state that was read is gone on from.
use Rattle.std.proofs.Common.{◌∙◌, sym, ap, subst, rules}
use Rattle.collation_matches.specs.declared.select.Select.{Select}
use Rattle.collation_matches.specs.Sought.{Sought}
use Rattle.collation_states.specs.declared.states.Sizes.{Sizes}
use Rattle.collation_states.specs.StateTests.{state_fault}
use Rattle.collation_states.specs.Reading.{state_in, Says}
use Rattle.collation_search.specs.Resuming.{IsResumedFrom}
use Rattle.collation_search.proofs.SavedState.{SavedLaws}
use Rattle.collation_search.proofs.ResumeLemmas.{keeps-saved}
use Rattle.collation_search.proofs.search.Search.resume_with.Goals as goal

pub returns-in_err-state-clause-kept : goal.returns-in_err-state-clause-kept
returns-in_err-state-clause-kept g c =
    let laws : SavedLaws = record {
      boundaries = c.clusters_are_parts.ensures.boundaries;
      text = c.whole_characters_are_the_longest_text.ensures.text;
      within = c.whole_characters_are_the_longest_text.ensures.within;
      offsets = c.laws_of_points.ensures.offsets;
      others = c.laws_of_reordering.ensures.others;
      decomposed = c.laws_of_points.ensures.decomposed;
      accepted = c.laws_of_states.ensures.accepted;
      back = c.laws_of_states.ensures.back;
    } in
    let s : Sought = record { table = g.W.Weights.table c.args.table.now; pattern = c.args.pattern.now; select = c.args.select } in
    let words = c.args.words.now in
    keeps-saved laws _ s words _ (sym (ap (λ (r : Sizes). state_fault r words) c.sizes.ensures) ∙ c.in_err-state.ensures.refused)

pub returns-clause-goes_on : goal.returns-clause-goes_on
returns-clause-goes_on g c =
    let words = c.args.words.now in
    let same = c.in_ok-search.ensures.sought in
    let select = ap (λ (r : Sizes). r.select) c.sizes.ensures ∙ sym (ap (λ (t : Sought). t.select) same) in
    let says = subst (λ (x : Select). Says c.in_ok-state.state (state_in x words)) select c.in_ok-state.ensures.says in
    subst (λ (t : Sought). IsResumedFrom c.go_on_from.new.self t words) same (c.go_on_from.ensures.goes_on words says)

pub returns-in_err-state-clause-refused : goal.returns-in_err-state-clause-refused
returns-in_err-state-clause-refused g c = search rules depth 4
