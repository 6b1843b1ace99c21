use Rattle.std.proofs.Common.{◌≡◌, subst, sym}
use Rattle.std.proofs.lemmas.Option.{get_or_from_slice_get}
use Rattle.collation_table.specs.declared.first_steps.FirstStep.{FirstStep}
use Rattle.collation_table.specs.Trie.{IsFirst, first_of, no_first_step}
use Rattle.collation_table.proofs.PageLemmas.{get_or_get}
use Rattle.collation_table.proofs.TrieLemmas.{AreFirst-set}
use Rattle.collation_table.proofs.first_steps.FirstSteps.set.Goals as goal

pub returns : goal.returns
returns c = λ E F is are.
    let room = c.make_room.new.self.steps.items in
    let first = c.index.result.now in
    let here : first_of room c.args.node ≡ first = get_or_from_slice_get room c.args.node first no_first_step (get_or_get room c.args.node first first c.in_ok-make_room.ensures.room (sym c.index.ensures)) in
    AreFirst-set E F c.args.node c.args.cp c.args.entry c.args.self.now.steps.items room c.with_step.result is c.in_ok-make_room.ensures.room c.in_ok-make_room.ensures.same
    (λ was. c.with_step.ensures E F c.args.node is (subst (λ (x : FirstStep). IsFirst E c.args.node x) here was)) are
